-- What each literal's clauses are for (01, The clauses): they let a member of its link be true exactly where the literal is met, that is,
-- a hypothesis fails or the conclusion holds, and they bind nothing while their fresh variables are false.
-- Assumes nothing.
use Prim.Native.Nat.{ℕ, ◌+◌, ◌<◌}
use native.Mathlib.Nat.{add-zero}
use native.Mathlib.Omega.{arith}
use mathlib.Core.Path.{◌≡◌, refl, sym, ap, ◌∙◌}
use mathlib.Core.Logic.{◌↔◌, ◌≢◌}
use mathlib.Core.Bool.{Bool, true, false, cond, not, ◌&&◌, ◌||◌, xor, not-not, or-true, or-false, true≢false, false≢true}
use borrow.Author.Tests.{eqb-true, eqb-false, eq-eqb, ne_eqb, not-true}
use Rattle.paper.specs.Lists.{any, all, range}
use Rattle.paper.specs.Terms.{Assignment}
use Rattle.paper.specs.Lemma.{Literal, says, is_conclusion}
use Rattle.paper.specs.Clauses.{Variable, bit, boolean, fresh, Signed, plus, minus, Clause, Gadget, differing, agreeing, some_differs, all_agree, reversed, gadget, of_bits}
use Rattle.meaning.proofs.Lists.{any_has, any_in, range_in}
use Rattle.meaning.proofs.Bits.{number_of_bits, bits_of_number, differing_bit}
use Rattle.meaning.proofs.Mapped.{any_map, range_has, all_over_range}

-- truths for the named variables
abbrev pub Truths : Type 0
Truths = Variable → Bool

-- what a signed variable and a clause say of truths
abbrev pub signed_says : Truths → Signed → Bool
signed_says β (plus variable) = β variable
signed_says β (minus variable) = not (β variable)

abbrev pub clause_says : Truths → Clause → Bool
clause_says β clause = any (signed_says β) clause

-- the values and truths that truths for the named variables give
abbrev pub values_of : (w : ℕ) → Truths → Assignment
values_of w β = record { value = λ b. of_bits w (λ k. β (bit b k)); truth = λ m. β (boolean m) }

-- is a literal met: does the hypothesis fail, or the conclusion hold?
abbrev pub met : Assignment → Literal → Bool
met g l = cond (is_conclusion l) (says g l) (not (says g l))

-- two truths are the same at a base term's bits, and at what a literal names
abbrev pub SameBits : (w : ℕ) → Truths → Truths → (b : ℕ) → Type 0
SameBits w β γ b = (k : ℕ) → k < w → γ (bit b k) ≡ β (bit b k)

abbrev pub SameAt : (w : ℕ) → Truths → Truths → Literal → Type 0
SameAt w β γ (Literal.equal i j) = SameBits w β γ i × SameBits w β γ j
SameAt w β γ (Literal.differ i j) = SameBits w β γ i × SameBits w β γ j
SameAt w β γ (Literal.is_true m) = γ (boolean m) ≡ β (boolean m)
SameAt w β γ (Literal.is_false m) = γ (boolean m) ≡ β (boolean m)
SameAt w β γ (Literal.conclusion v u) = SameBits w β γ v × SameBits w β γ u

-- What a gadget with first fresh variable n does for a statement about truths, by what truths are the same at
pub record Serves (n : ℕ) (one : Gadget) (Met : Truths → Type 0) (Same : Truths → Truths → Type 0) : Type 0 where
  -- its clauses and a true member of its link give the statement
  pub sound : (β : Truths) → all (clause_says β) one.clauses ≡ true → any (signed_says β) one.link ≡ true → Met β
  -- with its fresh variables false its clauses hold
  pub quiet : (β : Truths) → ((k : ℕ) → k < one.freshes → β (fresh (n + k)) ≡ false) → all (clause_says β) one.clauses ≡ true
  -- where the statement holds, there are truths for its fresh variables with which its clauses and a member of its link hold
  pub completable : (β : Truths) → Met β
      → (truths : ℕ → Bool)
      × ((γ : Truths) → Same β γ → ((k : ℕ) → k < one.freshes → γ (fresh (n + k)) ≡ truths k)
      → (all (clause_says γ) one.clauses ≡ true) × (any (signed_says γ) one.link ≡ true))

-- a gadget serves whatever says the same
serves_same : {n : ℕ} {one : Gadget} {Met Stated : Truths → Type 0} {Same : Truths → Truths → Type 0} → Serves n one Met Same → ((β : Truths) → Met β ↔ Stated β) → Serves n one Stated Same
serves_same serves same =
    record {
      sound = λ β each some. (same β).0 (serves.sound β each some);
      quiet = serves.quiet;
      completable = λ β stated. serves.completable β ((same β).1 stated);
    }

-- what the two clauses of a bit say of its truths a and b in the two terms, and of the fresh variable's truth d
abbrev differing_say : (a b d : Bool) → Bool
differing_say a b d = (a || (b || (not d || false))) && ((not a || (not b || (not d || false))) && true)

abbrev agreeing_say : (a b d : Bool) → Bool
agreeing_say a b d = (not a || (b || (not d || false))) && ((a || (not b || (not d || false))) && true)

-- a true d tells two bits apart
differing_apart : (a b : Bool) → differing_say a b true ≡ true → a ≢ b
differing_apart true true says same = false≢true says
differing_apart true false says same = true≢false same
differing_apart false true says same = false≢true same
differing_apart false false says same = false≢true says

-- d may be whether the two bits are apart
differing_xor : (a b : Bool) → differing_say a b (xor a b) ≡ true
unfolding xor
differing_xor true true = refl
differing_xor true false = refl
differing_xor false true = refl
differing_xor false false = refl

-- and is true where they are
xor_apart : (a b : Bool) → a ≢ b → xor a b ≡ true
unfolding xor
xor_apart true true apart = absurd (apart refl)
xor_apart true false apart = refl
xor_apart false true apart = refl
xor_apart false false apart = absurd (apart refl)

-- a true e makes two bits equal
agreeing_equal : (a b : Bool) → agreeing_say a b true ≡ true → a ≡ b
agreeing_equal true true says = refl
agreeing_equal true false says = sym says
agreeing_equal false true says = says
agreeing_equal false false says = refl

-- e may be true where they are equal
agreeing_same : (b d : Bool) → agreeing_say b b d ≡ true
agreeing_same true d = refl
agreeing_same false d = refl

-- "equal i j": some d is true only where the two values differ, and can be true there
some_differs_lem : (w i j n : ℕ) → Serves n (some_differs w i j n) (λ β. (values_of w β).value i ≢ (values_of w β).value j) (λ β γ. SameBits w β γ i × SameBits w β γ j)
some_differs_lem w i j n =
    record {
      sound = λ β each some same.
          let found = any_in (λ k. β (fresh (n + k))) (range 0 w) (rw any_map at some) in
          let k = found.0 in
          let h : k < w = omega (arith, range_in 0 w found.1) in
          differing_apart (β (bit i k)) (β (bit j k)) (rw found.2 at ((all_over_range (clause_says β) (differing i j n) w).0 each k h))
          (bits_of_number (λ k. β (bit i k)) (λ k. β (bit j k)) w same k h);
      quiet = λ β off. (all_over_range (clause_says β) (differing i j n) w).1 (λ k h. simp (off k h, or-true));
      completable = λ β apart. (
        λ k. xor (β (bit i k)) (β (bit j k)),
        λ γ same on. (
          (all_over_range (clause_says γ) (differing i j n) w).1 (λ k h. rw (on k h, same.0 k h, same.1 k h) (differing_xor (β (bit i k)) (β (bit j k)))),
          let found = differing_bit (λ k. β (bit i k)) (λ k. β (bit j k)) w apart in
              rw any_map (any_has (λ k. γ (fresh (n + k))) (range 0 w) (range_has 0 w (omega arith) (omega arith)) (on found.0 found.1 ∙ xor_apart _ _ found.2)),
        ),
      );
    }

-- "differ v u" and the conclusion: e is true only where the two values are equal, and can be true there
all_agree_lem : (w v u n : ℕ) → Serves n (all_agree w v u n) (λ β. (values_of w β).value v ≡ (values_of w β).value u) (λ β γ. SameBits w β γ v × SameBits w β γ u)
all_agree_lem w v u n =
    record {
      sound = λ β each some.
          number_of_bits (λ k. β (bit v k)) (λ k. β (bit u k)) w (λ k h.
          agreeing_equal (β (bit v k)) (β (bit u k)) (rw (rw or-false at some) at ((all_over_range (clause_says β) (agreeing v u n) w).0 each k h)));
      quiet = λ β off.
          let now = rw add-zero at (off 0 (omega arith)) in
          (all_over_range (clause_says β) (agreeing v u n) w).1 (λ k h. simp (now, or-true));
      completable = λ β agree. (
        λ k. true,
        λ γ same on. (
          (all_over_range (clause_says γ) (agreeing v u n) w).1 (λ k h.
              let alike = bits_of_number (λ k. β (bit v k)) (λ k. β (bit u k)) w agree k h in
              rw (same.0 k h ∙ alike ∙ sym (same.1 k h)) (agreeing_same (γ (bit u k)) (γ (fresh n)))),
          rw or-false (rw add-zero at (on 0 (omega arith))),
        ),
      );
    }

-- a Boolean literal has no clause, and stands in the link itself
is_reversed : (n : ℕ) (literal : Signed) (Same : Truths → Truths → Type 0) → ((β γ : Truths) → Same β γ → signed_says γ literal ≡ signed_says β literal) → Serves n (reversed literal) (λ β. signed_says β literal ≡ true) Same
is_reversed n literal Same alike =
    record {
      sound = λ β each some. rw or-false at some;
      quiet = λ β off. refl;
      completable = λ β met. (λ k. false, λ γ same on. (refl, rw (or-false, alike β γ same) met));
    }

-- every literal's gadget serves that the literal is met
pub gadget_serves : (w n : ℕ) (l : Literal) → Serves n (gadget w n l) (λ β. met (values_of w β) l ≡ true) (λ β γ. SameAt w β γ l)
gadget_serves w n (Literal.equal i j) = serves_same (some_differs_lem w i j n) (λ β. (λ apart. ap not (ne_eqb _ _ apart), λ met. eqb-false _ _ (not-true _ met)))
gadget_serves w n (Literal.differ i j) = serves_same (all_agree_lem w i j n) (λ β. (λ same. rw not-not (eq-eqb _ _ same), λ met. eqb-true _ _ (rw not-not at met)))
gadget_serves w n (Literal.is_true m) = is_reversed n (minus (boolean m)) _ (λ β γ same. ap not same)
gadget_serves w n (Literal.is_false m) = serves_same (is_reversed n (plus (boolean m)) _ (λ β γ same. same)) (λ β. (λ on. rw not-not on, λ met. rw not-not at met))
gadget_serves w n (Literal.conclusion v u) = serves_same (all_agree_lem w v u n) (λ β. (eq-eqb _ _, eqb-true _ _))

-- truths that are the same at what a literal names meet it alike
pub met_same : (w : ℕ) (β γ : Truths) (l : Literal) → SameAt w β γ l → met (values_of w γ) l ≡ met (values_of w β) l
met_same w β γ (Literal.equal i j) same = rw (number_of_bits _ _ w same.0, number_of_bits _ _ w same.1)
met_same w β γ (Literal.differ i j) same = rw (number_of_bits _ _ w same.0, number_of_bits _ _ w same.1)
met_same w β γ (Literal.is_true m) same = rw same
met_same w β γ (Literal.is_false m) same = rw same
met_same w β γ (Literal.conclusion v u) same = rw (number_of_bits _ _ w same.0, number_of_bits _ _ w same.1)
