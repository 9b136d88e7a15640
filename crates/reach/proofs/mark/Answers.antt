-- `reach::mark` meets its contract: a source that has no link is the first of its index value, and at the end every source was met.
-- Assumes nothing.
use Rattle.std.proofs.Common.{◌≡◌, ℕ, ◌/◌, ◌%◌, ◌<◌, ◌≤◌, List, length, get_or, take, refl, sym, subst, ◌∙◌, arith}
use Rattle.std.proofs.lemmas.List.{get_or-take, length-take}
use Rattle.terms.specs.declared.Tables.{Tables}
use Rattle.reach.specs.Reached.{opens_in, sources_in, rows_in, links_in, value_at, Fit}
use Rattle.reach.specs.Steps.{Adjacent, Unmarked}
use Rattle.reach.proofs.Marking.{rows_length, links_length, link_read}
use Rattle.reach.proofs.Words.{lent_ends, lent_most}
use Rattle.reach.proofs.Turns.{turn_first, turn_next}
use Rattle.reach.proofs.Links.{met_most, value_most, none_met, first_of, met_past, met_on, all_met}
use Rattle.reach.proofs.mark.Goals as goal
use Rattle.reach.proofs.mark.Goals.{then-marks-first-eq0, else-marks-first-eq0}

module _ (t : Tables) {rows next : List ℕ} (unmarked : Unmarked t.edges t.counts.edges (sources_in t) t.counts.arrays rows next) where
  fit : Fit (opens_in t) (sources_in t) t.counts.arrays
  fit = record { ends = lent_ends unmarked.within.lent t.values t.truths; sources = unmarked.within.sources; origin = unmarked.within.origin }

  -- there are rows enough
  enough : t.counts.edges ≤ length t.edges
  enough = omega (arith, unmarked.within.lent.few, unmarked.within.lent.long)

-- the row of the source that the walk is at says its index value
value_here : (t : Tables) (k : ℕ) → k < length (take t.counts.sources t.sources) → get_or t.values (get_or (take t.counts.sources t.sources) k 0 / 256 % 256) 0 ≡ value_at (sources_in t) k
value_here t k inside = rw (get_or-take t.counts.sources t.sources k 0 (omega (arith, length-take {A = ℕ})))

pub gather-again-requires : goal.gather-again-requires
gather-again-requires c = (lent_most c.requires.within.lent, refl)

pub loop-first-init : goal.loop-first-init
loop-first-init c =
    let t = c.args.tables.now in
    record {
      met = none_met (opens_in t) (sources_in t) t.counts.arrays (rows_in c.args.marks.now) (links_in c.args.marks.now) c.requires.free;
      turnable = turn_first t.values t.truths t.edges t.counts.edges _ (enough t c.requires) 0 c.gather-again.ensures.adjacent;
    }

pub turn-requires : goal.turn-requires
turn-requires c = (lent_most c.requires.within.lent, c.gather-again.ensures.apart, c.loop-first.invariant.turnable)

pub mark_value-pairs-requires : goal.mark_value-pairs-requires
mark_value-pairs-requires c =
    let h = c.loop-first in
    let t = c.args.tables.now in
    record {
      narrow = c.turn.ensures.small;
      sources = c.requires.within.sources;
      origin = λ k given. omega (arith, c.requires.within.origin k given, c.requires.within.lent.arrays);
      first_of = first_of (opens_in t) (sources_in t) t.counts.arrays (rows_in h.marks) (links_in h.marks) h.first h.pairs h.invariant.met (omega arith) (sym (link_read h.marks h.first) ∙ c.if-marks-first-eq0.true);
      rows_long = omega (arith, c.requires.rows_long, rows_length h.marks, rows_length c.args.marks.now);
      next_long = omega (arith, c.requires.next_long, links_length h.marks, links_length c.args.marks.now);
    }

pub overflow_add-pairs : goal.overflow_add-pairs
overflow_add-pairs c =
    let t = c.args.tables.now in
    let few = c.requires.within.lent.arrays in
    let known = subst (λ (x : ℕ). Adjacent (opens_in t x) c.turn.new.words) (c.index_value-x.ensures ∙ value_here t c.loop-first.first c.loop-first-test.true) c.turn.ensures in
    let marked = c.mark_value-pairs.ensures (opens_in t) t.counts.arrays (fit t c.requires) known in
    omega (arith, met_most (opens_in t) (sources_in t) t.counts.arrays few c.requires.within.sources c.loop-first.invariant.met, value_most (opens_in t) (sources_in t) t.counts.arrays few c.requires.within.sources marked)

pub loop-first-preserved : goal.loop-first-preserved
loop-first-preserved c =
    let h = c.loop-first in
    let t = c.args.tables.now in
    elim c.if-marks-first-eq0.branch [
      | then-marks-first-eq0 w ↦
          let known = subst (λ (x : ℕ). Adjacent (opens_in t x) w.turn.new.words) (w.index_value-x.ensures ∙ value_here t h.first c.loop-first-test.true) w.turn.ensures in
          let marked = w.mark_value-pairs.ensures (opens_in t) t.counts.arrays (fit t c.requires) known in
          rw (w.marks-is, w.pairs-is, w.value-is, w.neighbours-is)
          (record {
            met = met_on (opens_in t) (sources_in t) t.counts.arrays (rows_in h.marks) (links_in h.marks) h.first h.pairs h.invariant.met (omega arith) (sym (link_read h.marks h.first) ∙ w.if-marks-first-eq0.true) _ _ _ marked;
            turnable = turn_next t.values t.truths t.edges t.counts.edges _ (enough t c.requires) _ w.turn.ensures;
          })
      | else-marks-first-eq0 w ↦
          rw (w.marks-is, w.pairs-is, w.value-is, w.neighbours-is)
          (record {
            met = met_past (opens_in t) (sources_in t) t.counts.arrays (rows_in h.marks) (links_in h.marks) h.first h.pairs h.invariant.met (omega arith) (λ none. w.if-marks-first-eq0.false (link_read h.marks h.first ∙ none));
            turnable = h.invariant.turnable;
          })
    ]

pub returns : goal.returns
returns c =
    let h = c.loop-first in
    let t = c.args.tables.now in
    all_met (opens_in t) (sources_in t) t.counts.arrays (rows_in h.marks) (links_in h.marks) h.first h.pairs h.invariant.met (omega arith)
