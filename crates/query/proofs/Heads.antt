-- The head of a field: which tags are known, and what stands at a place, by the first of the paper's tests that is met.
-- Assumes nothing.
use Rattle.std.proofs.Common.{◌≡◌, ℕ, ◌+◌, ◌≤◌, ◌<◌, Bool, true, false, not, List, [], ◌∷◌, length, drop, refl, sym, ◌∙◌, arith, ltb, eqb, zero, suc}
use Rattle.std.proofs.lemmas.Bool.{ltb-false}
use Rattle.std.proofs.Math.Option.{Option, none, some}
use borrow.Author.Tests.{lt-ltb, le-ltb, eqb-true, not-false}
use Rattle.paper.specs.Lists.{is_some, ◌refuses◌, first_met}
use Rattle.paper.specs.Fields.{Kind, Item, kind_of, parts, own_length, cut, tag_at, length_at, head_tests, item_of, item_at}
use Rattle.paper.specs.Reasons.{number_of}
use Rattle.paper.specs.declared.Reason.{Reason}
use Rattle.paper.specs.declared.Reason.TheVariants.{TooLong, RunsPastEnd, UnknownTag, WrongLength, TooMany, NotGiven, WrongTruth, WrongWitness, EqualWitnesses, NoRoom, NoCell, OtherVerdict}
use Rattle.query.specs.Standing.{end, broken, field, of_item, standing}

-- a tag from 1 on is unknown exactly if it is above 8
pub unknown_test : (tag : ℕ) → 1 ≤ tag → not (is_some (kind_of tag)) ≡ ltb 8 tag
unknown_test zero low = absurd (omega arith)
unknown_test (suc zero) low = refl
unknown_test (suc (suc zero)) low = refl
unknown_test (suc (suc (suc zero))) low = refl
unknown_test (suc (suc (suc (suc zero)))) low = refl
unknown_test (suc (suc (suc (suc (suc zero))))) low = refl
unknown_test (suc (suc (suc (suc (suc (suc zero)))))) low = refl
unknown_test (suc (suc (suc (suc (suc (suc (suc zero))))))) low = refl
unknown_test (suc (suc (suc (suc (suc (suc (suc (suc zero)))))))) low = refl
unknown_test (suc (suc (suc (suc (suc (suc (suc (suc (suc tag))))))))) low = sym (lt-ltb 8 _ (omega arith))

-- a tag that is known stands in the table: it is one from 1 to 8
pub known_tag : (tag : ℕ) → not (is_some (kind_of tag)) ≡ false → (1 ≤ tag) × (tag ≤ 8)
known_tag zero known = absurd (cc)
known_tag (suc tag) known = (omega arith, ltb-false 8 (suc tag) (sym (unknown_test (suc tag) (omega arith)) ∙ known))

-- a head that no test refuses has its kind's length, and its whole value
pub passed : (a b c d : Bool) → first_met ((a refuses 2) ∷ (b refuses 3) ∷ (c refuses 4) ∷ (d refuses 2) ∷ []) ≡ 0
    → (c ≡ false) × (d ≡ false)
passed true b c d e = absurd (omega arith)
passed false true c d e = absurd (omega arith)
passed false false true d e = absurd (omega arith)
passed false false false true e = absurd (omega arith)
passed false false false false e = (refl, refl)

-- a refusal has a number above 0
pub number_of_above : (reason : Reason) → 0 < number_of reason
number_of_above TooLong = omega arith
number_of_above RunsPastEnd = omega arith
number_of_above UnknownTag = omega arith
number_of_above WrongLength = omega arith
number_of_above TooMany = omega arith
number_of_above NotGiven = omega arith
number_of_above WrongTruth = omega arith
number_of_above WrongWitness = omega arith
number_of_above EqualWitnesses = omega arith
number_of_above NoRoom = omega arith
number_of_above NoCell = omega arith
number_of_above OtherVerdict = omega arith

broken_item : (w at : ℕ) (kind : Option Kind) (refusal : ℕ) (bytes : List ℕ) → 0 < refusal → item_of w at kind refusal bytes ≡ Item.broken at refusal
broken_item w at none refusal bytes h = refl
broken_item w at (some kind) zero bytes h = absurd (omega arith)
broken_item w at (some kind) (suc refusal) bytes h = refl

module _ (w : ℕ) (bytes : List ℕ) (at : ℕ) where
  pub at_end : length bytes ≤ at → standing w bytes at ≡ end
  unfolding standing
  at_end h = simp (le-ltb at (length bytes) h)

  pub at_item : at < length bytes
      → standing w bytes at ≡ of_item (item_at w at (drop at bytes)) (at + (3 + length_at (drop at bytes)))
  unfolding standing
  at_item h = simp (lt-ltb at (length bytes) h)

  -- what stands at a place where a test is met
  pub at_refusal : at < length bytes → 0 < first_met (head_tests w (drop at bytes))
      → standing w bytes at ≡ broken at (first_met (head_tests w (drop at bytes)))
  unfolding item_at
  at_refusal inside met =
      at_item inside
      ∙ rw (broken_item w at (kind_of (tag_at (drop at bytes))) (first_met (head_tests w (drop at bytes))) (drop at bytes) met)

  -- and where none is
  pub at_field : at < length bytes → first_met (head_tests w (drop at bytes)) ≡ 0 → (kind : Kind) → kind_of (tag_at (drop at bytes)) ≡ some kind
      → standing w bytes at ≡ field kind (cut w (parts kind) (drop 3 (drop at bytes))) (at + 3 + own_length w (some kind))
  unfolding item_at
  at_field inside none_met kind is =
      let tests =
      rw is at
      (passed
      (ltb (length (drop at bytes)) 3)
      (not (is_some (kind_of (tag_at (drop at bytes)))))
      (not (eqb (length_at (drop at bytes)) (own_length w (kind_of (tag_at (drop at bytes))))))
      (ltb (length (drop at bytes)) (3 + length_at (drop at bytes)))
      none_met) in
      let held = eqb-true (length_at (drop at bytes)) (own_length w (some kind)) (not-false (eqb (length_at (drop at bytes)) (own_length w (some kind))) tests.0) in
      let next : at + (3 + length_at (drop at bytes)) ≡ at + 3 + own_length w (some kind) = omega (arith, held) in
      at_item inside ∙ rw (none_met, is, next)
