-- `lemma::pairs::first_pair` meets its contract: the first source that conflicts with the one that is tried ends the search, and one that conflicts
-- with none is passed over.
-- Assumes nothing.
use Rattle.std.proofs.Common.{◌≡◌, ◌<◌, Bool, false, cond, sym, ap, ap₂, ◌∙◌, subst, get_or, arith}
use lib.ListN.{set}
use Rattle.reach.specs.Reached.{sources_in, rows_in, links_in, origin_at, NextOf}
use Rattle.reach.proofs.Marking.{blank, row_read, link_read}
use Rattle.lemma.specs.Pairs.{settled_by}
use Rattle.lemma.proofs.Pairing.{Free, Marked, rest_all, rest_end, rest_hit, rest_free, clash_at, clash_read, trying_begun, free_over, cleared_first, cleared_next, marked_put}
use Rattle.lemma.proofs.pairs.first_pair.Goals as goal

pub loop-s-init : goal.loop-s-init
loop-s-init c =
    let sources = sources_in c.args.tables.now in
    let rows = rows_in c.args.marks.now in
    record { left = rest_all sources rows; cleared = cleared_first sources rows c.args.clear.now c.requires.unknown }

pub loop-t-init : goal.loop-t-init
loop-t-init c =
    let marks = c.args.marks.now in
    let count = c.args.tables.now.counts.sources in
    let s = c.loop-s.s in
    let known = get_or c.loop-s.clear s false in
    trying_begun (links_in marks) (omega arith) c.requires.linked c.loop-s.invariant (c.first_tried-t.ensures ∙ ap (cond known count) (link_read marks s))

pub returns-then-clashes : goal.returns-then-clashes
returns-then-clashes c =
    let sources = sources_in c.args.tables.now in
    let rows = rows_in c.args.marks.now in
    let s = c.loop-s.s in
    let t = c.loop-t.t in
    let trying = c.loop-t.invariant in
    let inside : t < sources.count = omega arith in
    let row_is = c.row-row.ensures ∙ row_read c.args.marks.now s in
    let clash = clash_read sources rows s t c.assigned_value-value.ensures c.assigned_value-other.ensures row_is c.origin_of-origin.ensures (sym c.clashes.ensures ∙ c.if-clashes.true) in
    sym (c.loop-s.invariant.left ∙ rest_hit sources rows s t trying.later inside trying.free (clash_at sources rows s t (trying.same inside) clash))

pub loop-t-preserved : goal.loop-t-preserved
loop-t-preserved c =
    let sources = sources_in c.args.tables.now in
    let marks = c.args.marks.now in
    let rows = rows_in marks in
    let s = c.loop-s.s in
    let t = c.loop-t.t in
    let clear = c.loop-t.clear in
    let trying = c.loop-t.invariant in
    let inside : t < sources.count = omega arith in
    let same = trying.same inside in
    let link : NextOf sources t (get_or marks t blank).next = subst (NextOf sources t) (sym (link_read marks t)) (c.requires.linked t inside) in
    let row_is = c.row-row.ensures ∙ row_read marks s in
    let clash = clash_read sources rows s t c.assigned_value-value.ensures c.assigned_value-other.ensures row_is c.origin_of-origin.ensures (sym c.clashes.ensures ∙ c.if-clashes.false) in
    let put : c.settles.result ≡ settled_by (get_or clear t false) (get_or rows s 0) (origin_at sources t) =
    c.settles.ensures ∙ ap₂ (settled_by (get_or clear t false)) row_is c.origin_of-origin.ensures in
    let still = marked_put sources rows s t clear trying.later inside same c.requires.shared clash trying.marked in
    record {
      later = omega (arith, trying.later, link.later);
      within = link.within;
      same = λ further. link.same further ∙ same;
      free = free_over sources rows s t _ trying.free same (clash_at sources rows s t same clash) link;
      marked = subst (λ (new : Bool). Marked sources rows s (set clear t new)) (sym put) still;
    }

pub loop-s-preserved : goal.loop-s-preserved
loop-s-preserved c =
    let sources = sources_in c.args.tables.now in
    let rows = rows_in c.args.marks.now in
    let s = c.loop-s.s in
    let trying = c.loop-t.invariant in
    let free : Free sources rows s sources.count = λ j above below. trying.free j above (omega arith) in
    record {
      left = c.loop-s.invariant.left ∙ rest_free sources rows s (omega arith) free;
      cleared = cleared_next sources rows s c.loop-t.clear free trying.marked;
    }

pub returns : goal.returns
returns c = sym (c.loop-s.invariant.left ∙ rest_end _ _ c.loop-s.s (omega arith))
