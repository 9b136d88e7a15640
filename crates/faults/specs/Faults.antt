-- The tests of a field against the tables: the paper's, with the counts and the reads that the tables hold.
-- Assumes nothing.
use Rattle.std.specs.Prelude.{ℕ, ◌/◌, ◌%◌, Bool, false, not, ◌&&◌, List, [], ◌∷◌, eqb, ltb, get_or, Result, Ok, Err}
use Rattle.paper.specs.declared.Reason.{Reason}
use Rattle.paper.specs.Reasons.{number_of}
use Rattle.paper.specs.Lists.{any, ◌refuses◌, first_met}
use Rattle.paper.specs.Fields.{Series, base, boolean, array, parts}
use Rattle.paper.specs.Load.{each_part, as_truth, is_full, names_ungiven}
use Rattle.query.specs.Standing.{kind_of_field, numbers_of}
use Rattle.query.specs.declared.EqualityParts.{EqualityParts}
use Rattle.query.specs.declared.Field.{Field}
use Rattle.query.specs.declared.Field.TheVariants.{FreeBase, FreeBoolean, Variable, Write, Conditional, Read, Equality, Fixed}
use Rattle.faults.specs.declared.Counts.{Counts}

abbrev pub count_in : Counts → Series → ℕ
count_in c base = c.bases
count_in c boolean = c.booleans
count_in c array = c.arrays

abbrev pub bad_witnesses_by : (reads : List ℕ) → EqualityParts → Bool
bad_witnesses_by reads p =
    not
    (eqb (get_or reads (p.left_witness % 256) 0 % 256) p.left && eqb (get_or reads (p.right_witness % 256) 0 % 256) p.right
    && eqb (get_or reads (p.left_witness % 256) 0 / 256) (get_or reads (p.right_witness % 256) 0 / 256))

abbrev pub equal_witnesses_by : (values : List ℕ) → EqualityParts → Bool
equal_witnesses_by values p = eqb (get_or values (p.left_witness % 256) 0) (get_or values (p.right_witness % 256) 0)

-- a test of an equality; no other field meets it
abbrev pub of_equality_field : (EqualityParts → Bool) → Field → Bool
of_equality_field test (FreeBase value) = false
of_equality_field test (FreeBoolean truth) = false
of_equality_field test Variable = false
of_equality_field test (Write p) = false
of_equality_field test (Conditional p) = false
of_equality_field test (Read p) = false
of_equality_field test (Equality p) = test p
of_equality_field test (Fixed value) = false

abbrev pub truths_of : Field → List ℕ
truths_of field = each_part as_truth (parts (kind_of_field field)) (numbers_of field)

-- a field's fault by its number, and 0 where it has none
abbrev pub fault_number : {A : Type 0} → Result A Reason → ℕ
fault_number (Ok accepted) = 0
fault_number (Err reason) = number_of reason

-- the first fault of a field, by the tables
abbrev pub fault_by : (reads values : List ℕ) → Counts → Field → ℕ
fault_by reads values c field =
    first_met
    ((is_full (count_in c) (kind_of_field field) refuses 5)
    ∷ (names_ungiven (count_in c) (kind_of_field field) (numbers_of field) refuses 6)
    ∷ (any (ltb 1) (truths_of field) refuses 7)
    ∷ (of_equality_field (bad_witnesses_by reads) field refuses 8)
    ∷ (any (eqb 0) (truths_of field) && of_equality_field (equal_witnesses_by values) field refuses 9)
    ∷ [])
