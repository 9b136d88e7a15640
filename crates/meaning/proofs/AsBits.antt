-- Numbers as bits: every number below 2 ^ w is given by w bits, so that the guess and every interpretation are assignments of bits. The
-- clauses rule out the first and admit the others.
-- Assumes nothing.
use Prim.Native.Nat.{ℕ, zero, suc, ◌+◌, ◌-◌, ◌*◌, ◌/◌, ◌%◌, ◌^◌, ◌<◌}
use native.Mathlib.Nat.{two-pow-succ, mul-suc, mul-le-mul_left, mul-add-div, div-eq_of_lt, mul-add-mod_self_left, mod-eq_of_lt}
use native.Mathlib.Omega.{arith}
use mathlib.Core.Path.{◌≡◌, refl, sym, ap, ◌∙◌}
use mathlib.Core.Logic.{◌↔◌}
use mathlib.Core.Bool.{Bool, true, false, cond, false≢true}
use mathlib.Core.List.{List}
use mathlib.Core.Option.{some}
use lib.Dec.{eqb, leb}
use lib.IntN.{ℤ}
use borrow.Author.Tests.{leb-true, leb-false, le-leb, lt-leb, eq-eqb, ne_eqb}
use Rattle.paper.specs.Fields.{base, boolean}
use Rattle.paper.specs.Terms.{Term, given, Query, Assignment}
use Rattle.paper.specs.Interpretations.{Memories, GivesFixed, Interpretation}
use Rattle.paper.specs.Load.{Loaded, load}
use Rattle.paper.specs.Conflict.{Pair}
use Rattle.paper.specs.Lemma.{lemma_holds}
use Rattle.paper.specs.Clauses.{of_bits}
use Rattle.paper.specs.Reading.{read_lemma, read_run}
use Rattle.paper.specs.Answers.{Verdict, check, write_clauses}
use Rattle.meaning.proofs.Lists.{cond_false}
use Rattle.meaning.proofs.Bits.{number_of_bits}
use Rattle.meaning.proofs.Built.{AreBytes}
use Rattle.meaning.proofs.Accepted.{Accepted, accepted, own_below}
use Rattle.meaning.proofs.Literals.{lemma_same}
use Rattle.meaning.proofs.Whole.{guess_of, pair_of, lemma_of}
use Rattle.meaning.proofs.Verdict.{guess_fixed, lemma_sound, lemma_false, lemma_names}
use Rattle.meaning.proofs.Reading.{lemma_read}
use Rattle.meaning.proofs.Demands.{Settable, Say, RespectsFixed, clash, clauses_exactly}

-- bit i of a number x below 2 ^ w: the highest is set where x reaches it, and the others are those of what it leaves
bit_of : (w x i : ℕ) → Bool
bit_of zero x i = false
bit_of (suc k) x i = cond (eqb i k) (leb (2 ^ k) x) (bit_of k (cond (leb (2 ^ k) x) (x - 2 ^ k) x) i)

-- the number of a highest bit above lower ones
highest_over : (k : ℕ) (b : Bool) (lower : ℕ → Bool) → of_bits (suc k) (λ i. cond (eqb i k) b (lower i)) ≡ of_bits k lower + cond b (2 ^ k) 0
highest_over k b lower =
    rw (eq-eqb k k refl, number_of_bits (λ i. cond (eqb i k) b (lower i)) lower k (λ i below. rw (ne_eqb i k (λ same. omega arith))))

-- every number below 2 ^ w is that of its w bits
number_as_bits : (w x : ℕ) → x < 2 ^ w → of_bits w (bit_of w x) ≡ x
unfolding bit_of
number_as_bits zero x small = omega arith
number_as_bits (suc k) x small = go (leb (2 ^ k) x) refl (number_as_bits k)
  where
    go : (b : Bool) → leb (2 ^ k) x ≡ b → ((rest : ℕ) → rest < 2 ^ k → of_bits k (bit_of k rest) ≡ rest)
        → of_bits (suc k) (λ i. cond (eqb i k) b (bit_of k (cond b (x - 2 ^ k) x) i)) ≡ x
    go true set left =
        let rest = left (x - 2 ^ k) (omega (arith, two-pow-succ k)) in
        highest_over k true (bit_of k (x - 2 ^ k)) ∙ omega (arith, leb-true (2 ^ k) x set)
    go false clear left =
        let rest = left x (leb-false (2 ^ k) x clear) in
        highest_over k false (bit_of k x) ∙ omega arith

-- Bits that give each given term an assignment's value or truth: those of the variables w * b + 1 to w * b + w, the lowest first, are base
-- term b's value, and that of w * B + m + 1, with B base terms, is Boolean m's truth
pub record BitsOf (w : ℕ) (query : Query) (g : Assignment) (bits : ℕ → Bool) : Type 0 where
  pub values : (b : ℕ) → b < given base query.terms → of_bits w (λ k. bits (w * b + k + 1)) ≡ g.value b
  pub truths : (m : ℕ) → m < given boolean query.terms → bits (w * given base query.terms + m + 1) ≡ g.truth m

-- what an assignment gives to variable v: up to w * bases a bit of a base term's value, and above it a Boolean's truth
bits_for : (w bases : ℕ) → Assignment → (v : ℕ) → Bool
bits_for w bases g v = cond (leb v (w * bases)) (bit_of w (g.value ((v - 1) / w)) ((v - 1) % w)) (g.truth (v - (w * bases + 1)))

module _ {w : ℕ} {query : Query} {g : Assignment} where
  -- an assignment with values below 2 ^ w has its bits
  as_bits : ((b : ℕ) → b < given base query.terms → g.value b < 2 ^ w) → (bits : ℕ → Bool) × BitsOf w query g bits
  unfolding bits_for
  as_bits small = (
    bits_for w bases g,
    record {
      values = λ b b_in. number_of_bits _ (bit_of w (g.value b)) w (at_bit b b_in) ∙ number_as_bits w (g.value b) (small b b_in);
      truths = λ m m_in. cond_false _ _ (lt-leb (w * bases + m + 1) (w * bases) (omega arith)) ∙ ap g.truth (omega arith);
    },
  )
    where
      bases : ℕ
      bases = given base query.terms

      at_bit : (b : ℕ) → b < bases → (k : ℕ) → k < w → bits_for w bases g (w * b + k + 1) ≡ bit_of w (g.value b) k
      at_bit b b_in k k_in =
          let first : w * b + k + 1 - 1 ≡ w * b + k = omega arith in
          let term : (w * b + k) / w ≡ b = mul-add-div (omega arith) b k ∙ rw (div-eq_of_lt k_in) (omega arith) in
          let place : (w * b + k) % w ≡ k = mul-add-mod_self_left w b k ∙ mod-eq_of_lt k_in in
          rw (le-leb (w * b + k + 1) (w * bases) (omega (arith, mul-le-mul_left w b_in, mul-suc w b)), first, term, place)

  -- which give each fixed number its value where it does
  respects : Accepted w query → GivesFixed query.terms g → {bits : ℕ → Bool} → BitsOf w query g bits → RespectsFixed w query bits
  respects ok gives are own value here = are.values own (own_below ok here) ∙ gives own value here

-- Of the clauses read off the numbers that are written in a conflict
module _ (w : ℕ) (bytes : List ℕ) (query : Query) (are_bytes : AreBytes bytes) (loaded : load w bytes ≡ Loaded.accepted query)
    (room : ℕ) (in_conflict_lem : (check w bytes room).verdict ≡ Verdict.in_conflict) (run_room : ℕ) (unrefused : (write_clauses w bytes run_room).refusal ≡ 0)
    (clauses : List (List ℤ)) (read : read_run (write_clauses w bytes run_room).written ≡ some clauses) where
  ok : Accepted w query
  ok = accepted w bytes query are_bytes loaded

  -- at the bits of an assignment they can hold exactly if the lemma holds at the assignment
  settable_exactly : (pair : Pair) × (pair_of query ≡ some pair)
      × ((g : Assignment) (bits : ℕ → Bool) → BitsOf w query g bits → Settable w query bits clauses ↔ (lemma_holds g (lemma_of query pair) ≡ true))
  unfolding Say
  settable_exactly =
      let (pair, found, bytes_are_lem) = clash w bytes query are_bytes loaded room in_conflict_lem in
      let exact = clauses_exactly w bytes query are_bytes loaded room in_conflict_lem run_room unrefused in
      let this_lemma : exact.literals ≡ lemma_of query pair = cc (exact.lemma_read, ap read_lemma bytes_are_lem, lemma_read (lemma_of query pair)) in
      let these : exact.clauses ≡ clauses = cc (exact.run_read, read) in
      let say : Say w query clauses (lemma_of query pair) = rw (← this_lemma, ← these) exact.say in (
        pair,
        found,
        λ g bits are.
            let same = lemma_same are.values are.truths (lemma_of query pair) (lemma_names ok pair found) in
            ((λ set. sym same ∙ (say bits).0 set), λ holds. (say bits).1 (same ∙ holds)),
      )

  -- at those of the guess they can't
  pub guess_excluded : (bits : ℕ → Bool) × BitsOf w query (guess_of query) bits × RespectsFixed w query bits × (Settable w query bits clauses → ⊥)
  guess_excluded =
      let (pair, found, exactly) = settable_exactly in
      let (bits, are) = as_bits ok.small in
      (bits, are, respects ok (guess_fixed ok) are, λ set. false≢true (sym (lemma_false ok pair found) ∙ (exactly (guess_of query) bits are).0 set))

  -- at those of an interpretation they can
  pub interpretation_admitted : (g : Assignment) (memory : Memories) → Interpretation w query.terms g memory
      → (bits : ℕ → Bool) × BitsOf w query g bits × RespectsFixed w query bits × Settable w query bits clauses
  interpretation_admitted g memory valid =
      let (pair, found, exactly) = settable_exactly in
      let (bits, are) = as_bits valid.values in
      (bits, are, respects ok (λ own value here. valid.holds (Term.fixed own value) here) are, (exactly g bits are).1 (lemma_sound ok pair found g memory valid))
