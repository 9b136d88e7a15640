-- The clauses say the lemma (demand 3, over the width w): at given bits and truths there are truths for the fresh variables with which all
-- clauses hold exactly if the lemma holds. The named clauses say it already; here they get their numbers.
-- Assumes nothing.
use Prim.Native.Nat.{ℕ, ◌+◌, ◌*◌, ◌-◌, ◌<◌, ◌≤◌}
use native.Mathlib.Nat.{mul-suc, mul-le-mul_left}
use native.Mathlib.Numerals.{add-one}
use native.Mathlib.Omega.{arith}
use mathlib.Core.Path.{◌≡◌, refl, sym, ap, ◌∙◌, fun_ext}
use mathlib.Core.Logic.{◌↔◌}
use mathlib.Core.Bool.{Bool, true, cond, not}
use mathlib.Core.List.{List, map}
use lib.Dec.{leb}
use lib.IntN.{pos, neg_ℤ}
use borrow.Author.Tests.{le-leb, lt-leb}
use Rattle.paper.specs.Lists.{◌∈◌, any, all}
use Rattle.paper.specs.Lemma.{Literal, lemma_holds}
use Rattle.paper.specs.Clauses.{Variable, bit, boolean, fresh, Signed, plus, minus, Clause, named_clauses, variable_number, signed_number, clauses_of, number_holds, clause_holds, assignment_of}
use Rattle.meaning.proofs.Lists.{any_has, any_in, cond_false}
use Rattle.meaning.proofs.Literals.{Within}
use Rattle.meaning.proofs.Mapped.{any_map, all_map}
use Rattle.meaning.proofs.Gadgets.{Truths, signed_says, clause_says, values_of, met, SameAt, met_same}
use Rattle.meaning.proofs.Named.{named_sound, named_complete}

module _ (w bases booleans : ℕ) where
  -- the truths of the named variables that truths by number give
  abbrev named : (ℕ → Bool) → Truths
  named truth variable = truth (variable_number w bases booleans variable)

  -- a number says what its signed variable says
  number_says : (truth : ℕ → Bool) (s : Signed) → number_holds truth (signed_number w bases booleans s) ≡ signed_says (named truth) s
  number_says truth (plus variable) = refl
  number_says truth (minus variable) = negative variable
    where
      above : (p : ℕ) → number_holds truth (neg_ℤ (pos (p + 1))) ≡ not (truth (p + 1))
      above p = rw add-one

      negative : (variable : Variable) → number_holds truth (signed_number w bases booleans (minus variable)) ≡ not (named truth variable)
      negative (bit b k) = above (w * b + k)
      negative (boolean m) = above (w * bases + m)
      negative (fresh n) = above (w * bases + booleans + n)

  -- the numbered clauses say what the named ones say
  numbered_say : (truth : ℕ → Bool) (literals : List Literal)
      → all (clause_holds truth) (clauses_of w bases booleans literals) ≡ all (clause_says (named truth)) (named_clauses w literals)
  unfolding clauses_of
  numbered_say truth literals =
      all_map (clause_holds truth) (map (signed_number w bases booleans)) (named_clauses w literals)
      ∙ ap (λ (test : Clause → Bool). all test (named_clauses w literals)) (fun_ext clause_says_lem)
    where
      clause_says_lem : (c : Clause) → clause_holds truth (map (signed_number w bases booleans) c) ≡ clause_says (named truth) c
      clause_says_lem c = any_map (number_holds truth) (signed_number w bases booleans) c ∙ ap (λ (test : Signed → Bool). any test c) (fun_ext (number_says truth))

  -- truths that are the same up to the last Boolean are the same at what a literal names
  same_named : (bits truth : ℕ → Bool) → ((v : ℕ) → v ≤ w * bases + booleans → truth v ≡ bits v) → (l : Literal) → Within bases booleans l → SameAt w (named bits) (named truth) l
  same_named bits truth same l within = go l within
    where
      at_bit : (b : ℕ) → b < bases → (k : ℕ) → k < w → truth (w * b + k + 1) ≡ bits (w * b + k + 1)
      at_bit b h k l = same (w * b + k + 1) (omega (arith, mul-le-mul_left w h, mul-suc w b))

      go : (l : Literal) → Within bases booleans l → SameAt w (named bits) (named truth) l
      go (Literal.equal i j) within = (at_bit i within.0, at_bit j within.1)
      go (Literal.differ i j) within = (at_bit i within.0, at_bit j within.1)
      go (Literal.is_true m) within = same (w * bases + m + 1) (omega arith)
      go (Literal.is_false m) within = same (w * bases + m + 1) (omega arith)
      go (Literal.conclusion v u) within = (at_bit v within.0, at_bit u within.1)

  -- Demand 3: at given truths for the bits and Booleans the clauses can hold exactly if the lemma holds
  pub clauses_say_lemma : (literals : List Literal) → ((l : Literal) → l ∈ literals → Within bases booleans l) → (bits : ℕ → Bool)
      → ((truth : ℕ → Bool) × ((v : ℕ) → v ≤ w * bases + booleans → truth v ≡ bits v) × (all (clause_holds truth) (clauses_of w bases booleans literals) ≡ true))
      ↔ (lemma_holds (assignment_of w bases booleans bits) literals ≡ true)
  clauses_say_lemma literals within bits = (sound, complete)
    where
      last : ℕ
      last = w * bases + booleans

      sound : (truth : ℕ → Bool) × ((v : ℕ) → v ≤ last → truth v ≡ bits v) × (all (clause_holds truth) (clauses_of w bases booleans literals) ≡ true)
          → lemma_holds (assignment_of w bases booleans bits) literals ≡ true
      sound (truth, same, each) =
          let found = any_in (met (values_of w (named truth))) literals (named_sound w literals (named truth) (sym (numbered_say truth literals) ∙ each)) in
          let alike = met_same w (named bits) (named truth) found.0 (same_named bits truth same found.0 (within found.0 found.1)) in
          any_has (met (values_of w (named bits))) literals found.1 (sym alike ∙ found.2)

      complete : lemma_holds (assignment_of w bases booleans bits) literals ≡ true
          → (truth : ℕ → Bool) × ((v : ℕ) → v ≤ last → truth v ≡ bits v) × (all (clause_holds truth) (clauses_of w bases booleans literals) ≡ true)
      complete holds =
          let done = named_complete w literals (named bits) holds in
          let truth : ℕ → Bool = λ v. cond (leb v last) (bits v) (done.0 (v - (last + 1))) in
          let same : (v : ℕ) → v ≤ last → truth v ≡ bits v = λ v h. rw (le-leb v last h) in
          let above : (m : ℕ) → truth (last + m + 1) ≡ done.0 m = λ m. cond_false _ _ (lt-leb (last + m + 1) last (omega arith)) ∙ ap done.0 (omega arith) in
          (truth, same, numbered_say truth literals ∙ done.1 (named truth) (λ l here. same_named bits truth same l (within l here)) above)
