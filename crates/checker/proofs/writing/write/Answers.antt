-- `checker::writing::write` meets its contract: 12 with no pair; with one its lemma's clauses, or 10 where there is no room for them; each by its law of
-- Writes. Assumes nothing.
use Rattle.std.proofs.Common.{arith, ap, ℕ, ◌+◌, ◌*◌}
use Rattle.lemma.specs.Pairs.{found_of}
use Rattle.front.proofs.Facts.{paired}
use Rattle.checker.proofs.Sizes.{fresh_small}
use Rattle.checker.proofs.Writes.{writes_quiet, writes_short, writes_clauses}
use Rattle.checker.proofs.writing.write.Goals as goal

pub returns-in_default : goal.returns-in_default
returns-in_default c = λ bytes known. rw c.whole.ensures (writes_quiet known (ap found_of c.in_default.is) _)

pub pair_literals-requires : goal.pair_literals-requires
pair_literals-requires c = paired c.requires.1 _ (ap found_of c.in-Some.is)

pub returns-then-numbers-totals : goal.returns-then-numbers-totals
returns-then-numbers-totals c = λ bytes known.
    let counts = c.args.tables.now.counts in
    let numbers = rw c.rows.ensures at c.counts-totals.ensures.numbers counts.bases counts.booleans in
    rw c.whole-then-numbers-totals.ensures (writes_short known _ (ap found_of c.in-Some.is) c.pair_literals.ensures _ (omega (arith, c.if-numbers-totals.true, numbers)))

pub overflow_add-result-2 : goal.overflow_add-result-2
overflow_add-result-2 c =
    let held = c.requires.1.holds.counts in
    let fresh = rw c.rows.ensures at c.counts-totals.ensures.fresh in
    omega (arith, held.bases_most, held.booleans_most, fresh, fresh_small _ c.pair_literals.ensures.most)

pub returns : goal.returns
returns c = λ bytes known.
    let counts = c.args.tables.now.counts in
    let clauses = rw c.rows.ensures at c.counts-totals.ensures.clauses counts.bases counts.booleans in
    let fresh = rw c.rows.ensures at c.counts-totals.ensures.fresh in
    let numbers = rw c.rows.ensures at c.counts-totals.ensures.numbers counts.bases counts.booleans in
    let count = rw c.rows-2.ensures at c.put_clauses-count.ensures.count in
    let written = rw c.rows-2.ensures at c.put_clauses-count.ensures.written in
    writes_clauses known _ (ap found_of c.in-Some.is) c.pair_literals.ensures _ _ _ _ _ (omega (arith, c.if-numbers-totals.false, numbers))
    (ap (λ (fresh : ℕ). 32 * counts.bases + counts.booleans + fresh) fresh) clauses count written
