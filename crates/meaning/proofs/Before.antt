-- Fixed numbers and the answers before there were any: check and clauses, written out with any lemma, are the paper's with the paper's own;
-- where no number is fixed they are so with the lemma that leaves nothing out; and where some are, verdict and pair count still are. What is
-- looked up and the cells that are listed name no lemma, nor do reach, pair and path name what is fixed.
-- Assumes nothing.
use Prim.Native.Nat.{ℕ, ◌≤◌}
use native.Mathlib.Omega.{arith}
use mathlib.Core.Path.{◌≡◌, refl}
use mathlib.Core.Bool.{true}
use mathlib.Core.List.{List}
use mathlib.Core.Option.{Option, none, some}
use borrow.Author.Tests.{le-ltb}
use lib.ListN.{length}
use Rattle.paper.specs.Lists.{◌∈◌}
use Rattle.paper.specs.Terms.{Term, Query, Assignment}
use Rattle.paper.specs.Load.{Loaded, load}
use Rattle.paper.specs.Edges.{index_number}
use Rattle.paper.specs.Reach.{pairs}
use Rattle.paper.specs.Conflict.{Pair, conflict}
use Rattle.paper.specs.Lemma.{Literal, hypotheses, path, lemma, lemma_bytes}
use Rattle.paper.specs.Answers.{Checked, check_conflict, check_loaded, check, Written, write_conflict, write_clauses}
use Rattle.meaning.proofs.Lists.{keep_all}
use Rattle.meaning.proofs.Fixed.{whole_lemma, lemma_before}
use Rattle.meaning.proofs.Conflicts.{path_short}
use Rattle.meaning.proofs.Built.{AreBytes}
use Rattle.meaning.proofs.Accepted.{accepted}
use Rattle.meaning.proofs.Sources.{arrays_bound}
use Rattle.meaning.proofs.Whole.{guess_of, pair_of, lemma_of}
use Rattle.meaning.proofs.Verdict.{numbered, pair_taken}
use Rattle.meaning.proofs.Counts.{bytes_at_most}
use Rattle.meaning.proofs.Bounds.{walk_literals}
use Rattle.meaning.proofs.Demands.{bounded}
use Rattle.meaning.proofs.Parts.{check_conflict_of, check_loaded_of, check_of, write_conflict_of, write_of}
use Rattle.meaning.proofs.Costs.{Alike}

-- the answers of check and clauses where a conflict's lemma is any list of literals
abbrev pub check_with : (lemma_for : List Term → Assignment → Pair → List Literal) (w : ℕ) → List ℕ → (room : ℕ) → Checked
check_with lemma_for = check_of pairs conflict lemma_for

abbrev pub write_with : (lemma_for : List Term → Assignment → Pair → List Literal) (w : ℕ) → List ℕ → (room : ℕ) → Written
write_with lemma_for = write_of conflict lemma_for

module _ (w : ℕ) (bytes : List ℕ) (query : Query) (loaded : load w bytes ≡ Loaded.accepted query) where
  pub answered_before : ((own value : ℕ) → Term.fixed own value ∈ query.terms → ⊥) → (room : ℕ)
      → (check w bytes room ≡ check_with whole_lemma w bytes room) × (write_clauses w bytes room ≡ write_with whole_lemma w bytes room)
  unfolding check write_clauses check_of write_of
  answered_before none_fixed room = rw loaded (one (pair_of query), other (pair_of query))
    where
      same : (pair : Pair) → lemma query.terms (guess_of query) pair ≡ whole_lemma query.terms (guess_of query) pair
      same = lemma_before query.terms (λ b (value, here). none_fixed b value here) (guess_of query)

      one : (found : Option Pair) → check_conflict room query.terms (guess_of query) found ≡ check_conflict_of pairs conflict whole_lemma room query.terms (guess_of query) found
      one none = refl
      one (some pair) = rw (same pair)

      other : (found : Option Pair) → write_conflict w room query.terms (guess_of query) found ≡ write_conflict_of conflict whole_lemma w room query.terms (guess_of query) found
      other none = refl
      other (some pair) = rw (same pair)

-- Of every string of bytes, fixed numbers or none: with a buffer that always suffices, what is left out of the lemma moves neither verdict
-- nor refusal nor pair count
module _ (w : ℕ) (bytes : List ℕ) (are_bytes : AreBytes bytes) where
  -- the lemma with nothing left out has at most 343 bytes too
  whole_bytes : (query : Query) → load w bytes ≡ Loaded.accepted query → (pair : Pair) → pair_of query ≡ some pair
      → length (lemma_bytes (whole_lemma query.terms (guess_of query) pair)) ≤ 343
  whole_bytes query loaded pair found =
      let ok = accepted w bytes query are_bytes loaded in
      let walked = path query.terms (guess_of query) pair in
      let all_kept = keep_all (λ (l : Literal). true) (λ l. refl) (hypotheses (index_number pair.first.place) (index_number pair.later.place) walked) in
      omega (
        arith,
        bytes_at_most (whole_lemma query.terms (guess_of query) pair),
        rw all_kept at (walk_literals (λ l. true) pair.first pair.later walked),
        path_short query.terms (numbered ok) (guess_of query) pair (pair_taken ok pair found),
        arrays_bound ok,
      )

  pub verdict_before : (room : ℕ) → 343 ≤ room → Alike (check_with whole_lemma w bytes room) (check w bytes room)
  unfolding check_of check
  verdict_before room enough = go (load w bytes) refl
    where
      by : (query : Query) → load w bytes ≡ Loaded.accepted query → (found : Option Pair) → pair_of query ≡ found
          → Alike (check_conflict_of pairs conflict whole_lemma room query.terms (guess_of query) found) (check_conflict room query.terms (guess_of query) found)
      by query loaded none is = (refl, refl, refl, refl)
      by query loaded (some pair) is =
          let long = length (lemma_bytes (whole_lemma query.terms (guess_of query) pair)) in
          let short = length (lemma_bytes (lemma_of query pair)) in
          rw (
            le-ltb room long (omega (arith, whole_bytes query loaded pair is)),
            le-ltb room short (omega (arith, (bounded w bytes query are_bytes loaded).bytes pair is)),
          ) (refl, refl, refl, refl)

      go : (loaded : Loaded) → load w bytes ≡ loaded → Alike (check_loaded_of pairs conflict whole_lemma room loaded) (check_loaded room loaded)
      go (Loaded.refused refusal at) is = (refl, refl, refl, refl)
      go (Loaded.accepted query) is = by query is (pair_of query) refl
