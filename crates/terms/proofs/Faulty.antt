-- The tables that hold a query find the fault that the paper finds.
-- Assumes nothing.
use Prim.Native.Nat.{ℕ}
use native.Mathlib.Nat.{mod-eq_of_lt}
use native.Mathlib.Omega.{arith}
use mathlib.Core.Path.{◌≡◌, refl, sym, ap, ap₂, ◌∙◌, fun_ext}
use mathlib.Core.Bool.{Bool, true, false, cond, ◌&&◌}
use mathlib.Core.List.{List}
use mathlib.Core.Option.{none, some}
use lib.Dec.{eqb, ltb}
use Rattle.paper.specs.Lists.{any, first_met}
use Rattle.paper.specs.Fields.{Series, Kind}
use Rattle.paper.specs.Terms.{Query}
use Rattle.paper.specs.Load.{is_full, names_ungiven, same_index, of_equality, bad_witnesses, equal_witnesses, next_term, faults}
use Rattle.query.specs.Standing.{kind_of_field, numbers_of}
use Rattle.query.specs.declared.EqualityParts.{EqualityParts}
use Rattle.query.specs.declared.Field.{Field}
use Rattle.query.specs.declared.Field.TheVariants.{FreeBase, FreeBoolean, Variable, Write, Conditional, Read, Equality, Fixed}
use Rattle.terms.specs.declared.Tables.{Tables}
use Rattle.faults.specs.Faults.{count_in, bad_witnesses_by, equal_witnesses_by, of_equality_field, truths_of, fault_by}
use Rattle.terms.specs.Holds.{Holds}
use Rattle.terms.proofs.Columns.{value_at_lem}
use Rattle.terms.proofs.Fits.{Named, named}

good_witnesses : (a b : Bool) (i j : ℕ) → same_index (cond a (some i) none) (cond b (some j) none) ≡ (a && b && eqb i j)
good_witnesses true true i j = refl
good_witnesses true false i j = refl
good_witnesses false b i j = refl

-- the first two tests, and what the others come to
abbrev first_two : (Series → ℕ) → Kind → List ℕ → (rest : ℕ) → ℕ
first_two counts kind numbers rest = cond (is_full counts kind) 5 (cond (names_ungiven counts kind numbers) 6 rest)

same_counts : {counts other : Series → ℕ} → counts ≡ other → (kind : Kind) (numbers : List ℕ) (rest : ℕ) → first_two counts kind numbers rest ≡ first_two other kind numbers rest
same_counts same kind numbers rest = ap (λ (counts : Series → ℕ). first_two counts kind numbers rest) same

-- the others do not count where one of them is met
same_rest : (full ungiven : Bool) {rest other : ℕ} → (ungiven ≡ false → rest ≡ other) → cond full 5 (cond ungiven 6 rest) ≡ cond full 5 (cond ungiven 6 other)
same_rest true ungiven same = refl
same_rest false true same = refl
same_rest false false same = same refl

-- the last three tests
abbrev last_three : (truths : List ℕ) (bad equal : Bool) → ℕ
last_three truths bad equal = cond (any (ltb 1) truths) 7 (cond bad 8 (cond (any (eqb 0) truths && equal) 9 0))

module _ (query : Query) (t : Tables) (held : Holds query t) where
  module _ (p : EqualityParts) (names : Named t.counts (Equality p)) where
    bad_same : bad_witnesses_by t.reads p ≡ bad_witnesses query.terms p.left p.right p.left_witness p.right_witness
    bad_same =
        rw (
          mod-eq_of_lt {n = p.left_witness} {m = 256} (omega (arith, held.counts, names)),
          mod-eq_of_lt {n = p.right_witness} {m = 256} (omega (arith, held.counts, names)),
          held.reads.within p.left_witness p.left names.2 (omega (arith, held.counts, names)),
          held.reads.within p.right_witness p.right names.3 (omega (arith, held.counts, names)),
          good_witnesses,
        )

    equal_same : equal_witnesses_by t.values p ≡ equal_witnesses query.guess p.left p.right p.left_witness p.right_witness
    equal_same =
        rw (
          mod-eq_of_lt {n = p.left_witness} {m = 256} (omega (arith, held.counts, names)),
          mod-eq_of_lt {n = p.right_witness} {m = 256} (omega (arith, held.counts, names)),
          value_at_lem held.values p.left_witness names.2,
          value_at_lem held.values p.right_witness names.3,
        )

  last_same : (field : Field) → names_ungiven (count_in t.counts) (kind_of_field field) (numbers_of field) ≡ false
      → last_three (truths_of field) (of_equality_field (bad_witnesses_by t.reads) field) (of_equality_field (equal_witnesses_by t.values) field)
      ≡ last_three (truths_of field) (of_equality (bad_witnesses query.terms) (next_term query.terms (kind_of_field field) (numbers_of field)))
      (of_equality (equal_witnesses query.guess) (next_term query.terms (kind_of_field field) (numbers_of field)))
  last_same (FreeBase value) e = refl
  last_same (FreeBoolean truth) e = refl
  last_same Variable e = refl
  last_same (Write p) e = refl
  last_same (Conditional p) e = refl
  last_same (Read p) e = refl
  last_same (Equality p) e =
      let names = named t.counts (Equality p) e in
      ap₂ (last_three (truths_of (Equality p))) (bad_same p names) (equal_same p names)
  last_same (Fixed value) e = refl

  pub fault_same : (field : Field) → fault_by t.reads t.values t.counts field ≡ first_met (faults query (kind_of_field field) (numbers_of field))
  unfolding faults
  fault_same field =
      same_rest (is_full (count_in t.counts) (kind_of_field field)) (names_ungiven (count_in t.counts) (kind_of_field field) (numbers_of field)) (last_same field)
      ∙ same_counts (sym (fun_ext held.counts.given_as)) (kind_of_field field) (numbers_of field) _
