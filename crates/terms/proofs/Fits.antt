-- What it says of a field that the tables find no fault with it: the terms that it names are given, and there is room for what it gives.
-- Assumes nothing.
use Prim.Native.Nat.{ℕ, ◌<◌}
use native.Mathlib.Omega.{arith}
use mathlib.Core.Path.{◌≡◌, refl, sym}
use mathlib.Core.Bool.{Bool, true, false, cond, false≢true}
use mathlib.Core.List.{List, [], ◌∷◌}
use borrow.Author.Tests.{leb-false}
use Rattle.paper.specs.Lists.{any}
use Rattle.paper.specs.Fields.{parts}
use Rattle.paper.specs.Terms.{Term}
use Rattle.paper.specs.Load.{each_part, as_ungiven, is_full, names_ungiven}
use Rattle.query.specs.Standing.{kind_of_field, numbers_of}
use Rattle.query.specs.declared.Field.{Field}
use Rattle.query.specs.declared.Field.TheVariants.{FreeBase, FreeBoolean, Variable, Write, Conditional, Read, Equality, Fixed}
use Rattle.faults.specs.declared.Counts.{Counts}
use Rattle.terms.specs.Tables.{Room}
use Rattle.faults.specs.Faults.{count_in, fault_by}
use Rattle.terms.specs.Holds.{Counted}

-- no test of a list is true
abbrev AllFalse : List Bool → Type 0
AllFalse [] = Unit {0}
AllFalse (b ∷ bs) = (b ≡ false) × AllFalse bs

all_false : (bs : List Bool) → any (λ b. b) bs ≡ false → AllFalse bs
all_false [] e = tt
all_false (true ∷ bs) e = absurd (false≢true (sym e))
all_false (false ∷ bs) e = (refl, all_false bs e)

-- where the first two tests are not met
neither : (full ungiven : Bool) (rest : ℕ) → cond full 5 (cond ungiven 6 rest) ≡ 0 → (full ≡ false) × (ungiven ≡ false)
neither true ungiven rest e = absurd (omega arith)
neither false true rest e = absurd (omega arith)
neither false false rest e = (refl, refl)

-- the terms that a field names are given
abbrev pub Named : Counts → Field → Type 0
Named c (FreeBase value) = Unit {0}
Named c (FreeBoolean truth) = Unit {0}
Named c Variable = Unit {0}
Named c (Write p) = (p.beneath < c.arrays) × (p.index < c.bases) × (p.value < c.bases)
Named c (Conditional p) = (p.chooser < c.booleans) × (p.if_true < c.arrays) × (p.if_false < c.arrays)
Named c (Read p) = (p.from < c.arrays) × (p.index < c.bases)
Named c (Equality p) = (p.left < c.arrays) × (p.right < c.arrays) × (p.left_witness < c.bases) × (p.right_witness < c.bases)
Named c (Fixed value) = Unit {0}

pub named : (c : Counts) (field : Field) → names_ungiven (count_in c) (kind_of_field field) (numbers_of field) ≡ false → Named c field
named c field e = go field (all_false (each_part (as_ungiven (count_in c)) (parts (kind_of_field field)) (numbers_of field)) e)
  where
    go : (field : Field) → AllFalse (each_part (as_ungiven (count_in c)) (parts (kind_of_field field)) (numbers_of field)) → Named c field
    go (FreeBase value) false_all = tt
    go (FreeBoolean truth) false_all = tt
    go Variable false_all = tt
    go (Write p) false_all = omega (arith, leb-false)
    go (Conditional p) false_all = omega (arith, leb-false)
    go (Read p) false_all = omega (arith, leb-false)
    go (Equality p) false_all = omega (arith, leb-false)
    go (Fixed value) false_all = tt

pub roomy : {c : Counts} {terms : List Term} → Counted c terms → (field : Field) → is_full (count_in c) (kind_of_field field) ≡ false → Room field c
roomy held (FreeBase value) e = omega (arith, leb-false)
roomy held (FreeBoolean truth) e = omega (arith, leb-false)
roomy held Variable e = omega (arith, leb-false)
roomy held (Write p) e = omega (arith, leb-false)
roomy held (Conditional p) e = omega (arith, leb-false)
roomy held (Read p) e = omega (arith, leb-false)
roomy held (Equality p) e = omega (arith, leb-false)
roomy held (Fixed value) e = omega (arith, leb-false)

module _ (reads values : List ℕ) (c : Counts) (field : Field) (faultless : fault_by reads values c field ≡ 0) where
  passed : (is_full (count_in c) (kind_of_field field) ≡ false) × (names_ungiven (count_in c) (kind_of_field field) (numbers_of field) ≡ false)
  passed = neither _ _ _ faultless

  pub fit_named : Named c field
  fit_named = named c field passed.1

  pub fit_room : {terms : List Term} → Counted c terms → Room field c
  fit_room held = roomy held field passed.0
