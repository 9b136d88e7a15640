-- `reach::mark_value` meets its contract: a row is shared where the origin stands in it, since an edge is walked both ways, and each source is linked from the one before.
-- Assumes nothing.
use Rattle.std.proofs.Common.{◌≡◌, ℕ, ◌<◌, List, length, refl, sym, ap, ◌∙◌, subst, arith}
use lib.ListN.{set, length-set}
use Rattle.reach.specs.Reached.{rows_in, links_in, sources_in, value_at, origin_at}
use Rattle.reach.specs.Steps.{Spreads, SharedOrMade}
use Rattle.reach.proofs.Marking.{linked, both_links, rows_length, links_length, row_rows, row_links, link_rows, link_links}
use Rattle.reach.proofs.Values.{put_at, right_made, right_shared, made_small, shared_small, walked_begun, walked_past, walked_on, walked_ended}
use Rattle.reach.proofs.mark_value.Goals as goal
use Rattle.reach.proofs.mark_value.Goals.{then-index_value-x, else-index_value-x}

pub loop-t-init : goal.loop-t-init
loop-t-init c =
    let words = c.args.neighbours.now in
    let s = sources_in c.args.tables.now in
    let first = c.args.first in
    let marks = c.args.marks.now in
    let made = c.spread_from-made.result in
    let spreads = subst (λ (o : ℕ). Spreads words o made) c.origin_of-origin.ensures c.spread_from-made.ensures in
    let inside : first < length (rows_in marks) = omega (arith, c.requires.rows_long, c.requires.first_of.given) in
    let small = made_small words (origin_at s first) made spreads in
    record {
      before = omega arith;
      small = small;
      few = omega (arith, small.0);
      walked = λ e n fit known.
          walked_begun e s n (value_at s first) (set (rows_in marks) first made.row) (links_in marks) first made refl c.requires.first_of.none_before (put_at (rows_in marks) first made.row first inside refl)
          (right_made e n (value_at s first) (origin_at s first) words made fit.ends (fit.origin first c.requires.first_of.given) known spreads);
    }

pub overflow_add-pairs : goal.overflow_add-pairs
overflow_add-pairs c =
    let small = shared_small _ _ _ _ c.loop-t.invariant.small c.share_or_spread-made.ensures in
    omega (arith, small.0, c.loop-t.invariant.few, c.requires.sources)

pub loop-t-preserved : goal.loop-t-preserved
loop-t-preserved c =
    let h = c.loop-t in
    let words = c.args.neighbours.now in
    let s = sources_in c.args.tables.now in
    let x = value_at s c.args.first in
    let begun = set (rows_in c.args.marks.now) c.args.first c.spread_from-made.result.row in
    let links₀ = links_in c.args.marks.now in
    let put_rows = set (rows_in h.marks) h.last h.made.row in
    elim c.if-index_value-x.branch [
      | then-index_value-x w ↦
          let new = w.share_or_spread-made.result in
          let put = w.set_row in
          let marks = set h.marks h.last put.new.self in
          let rows : rows_in c.if-index_value-x.marks ≡ put_rows =
          ap rows_in w.marks-is ∙ link_rows marks h.last h.t ∙ row_rows h.marks h.last put.new.self put.ensures.row in
          let links : links_in c.if-index_value-x.marks ≡ set (links_in h.marks) h.last h.t =
          ap links_in w.marks-is ∙ link_links marks h.last h.t ∙ ap (λ (l : List ℕ). set l h.last h.t) (row_links h.marks h.last put.new.self put.ensures.others) in
          let link_in : h.last < length (links_in h.marks) = omega (arith, h.invariant.before, c.requires.next_long, links_length h.marks, links_length c.args.marks.now, h.auto.marks) in
          let row_in : h.t < length put_rows =
          omega (arith, c.requires.rows_long, rows_length h.marks, rows_length c.args.marks.now, h.auto.marks, length-set (rows_in h.marks) h.last h.made.row) in
          let shared = subst (λ (o : ℕ). SharedOrMade words h.made o new) w.origin_of-origin-then-index_value-x.ensures w.share_or_spread-made.ensures in
          let small = shared_small words h.made (origin_at s h.t) new h.invariant.small shared in
          rw (rows, links, w.made-is, w.pairs-is, w.last-is)
          (record {
            before = omega arith;
            small = small;
            few = omega (arith, small.0, h.invariant.few);
            walked = λ e n fit known.
                let before = h.invariant.walked e n fit known in
                let right = right_shared e n x (origin_at s h.last) (origin_at s h.t) words h.made new fit.ends (fit.origin h.last (omega (arith, h.invariant.before))) (fit.origin h.t (omega arith)) known before.right shared in
                walked_on e s n x begun links₀ put_rows (links_in h.marks) h.last h.t h.pairs h.made before new (sym c.index_value.ensures ∙ w.if-index_value-x.true ∙ c.index_value-x.ensures) h.invariant.before (omega arith) link_in row_in right;
          })
      | else-index_value-x w ↦
          rw (w.marks-is, w.made-is, w.pairs-is, w.last-is)
          (record {
            before = omega (arith, h.invariant.before);
            small = h.invariant.small;
            few = omega (arith, h.invariant.few);
            walked = λ e n fit known.
                walked_past e s n x begun links₀ put_rows (links_in h.marks) h.last h.t h.pairs h.made (h.invariant.walked e n fit known)
                (λ is. w.if-index_value-x.false (c.index_value.ensures ∙ is ∙ sym c.index_value-x.ensures));
          })
    ]

pub returns : goal.returns
returns c = λ e n fit known.
    let h = c.loop-t in
    let s = sources_in c.args.tables.now in
    let rows₀ = rows_in c.args.marks.now in
    let links₀ = links_in c.args.marks.now in
    let first = c.args.first in
    let row = c.spread_from-made.result.row in
    let new = linked c.set_row-2.new.self s.count in
    let link_in : h.last < length (links_in h.marks) =
    omega (arith, h.invariant.before, c.requires.next_long, c.requires.first_of.given, links_length h.marks, links_length c.args.marks.now, h.auto.marks) in
    rw (row_rows h.marks h.last new c.set_row-2.ensures.row, both_links h.marks h.last new)
    (walked_ended e s n (value_at s first) (set rows₀ first row) links₀ (set (rows_in h.marks) h.last h.made.row) (links_in h.marks) h.last h.t h.pairs h.made (h.invariant.walked e n fit known)
    rows₀ first row refl refl (omega (arith, c.requires.first_of.given)) h.invariant.before link_in)
