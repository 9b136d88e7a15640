-- `Literals::retain` meets its contract. The invariant: the rows that pass among the first k stand in the first places, and from k on all is as it was.
-- Assumes nothing.
use Rattle.std.proofs.Common.{◌≡◌, ◌≤◌, Bool}
use Rattle.std.proofs.lemmas.List.Filters.{FiltersInPlace}
use Rattle.lemma.specs.declared.rows.Literal.{Literal}
use Rattle.lemma.proofs.rows.Literals.retain.Given as goal

abbrev pub invariant-loop-k : goal.invariant-loop-k
invariant-loop-k g l = record {
  behind : l.kept ≤ l.k;
  count : l.self-inside.count ≡ l.initial.self-inside.count;
  kept : (test : Literal → Bool) → ((row : Literal) (b : Bool) → goal.F-post g l.stays row b → b ≡ test row) → FiltersInPlace test l.initial.self-inside.rows l.self-inside.rows l.kept l.k;
}
