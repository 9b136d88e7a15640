-- The answers of check and clauses by their parts: for any count of the pairs, any conflicting pair and any lemma. With the paper's parts they are
-- the paper's answers.
-- Assumes nothing.
use Prim.Native.Nat.{ℕ, ◌+◌, ◌*◌}
use mathlib.Core.Path.{◌≡◌, refl}
use mathlib.Core.List.{List, [], ◌∷◌}
use mathlib.Core.Option.{Option, none, some}
use lib.Dec.{ltb}
use lib.ListN.{length}
use Rattle.paper.specs.Lists.{first_met, ◌refuses◌, unless_refused}
use Rattle.paper.specs.Fields.{base, boolean}
use Rattle.paper.specs.Terms.{Term, given, Assignment, assigned}
use Rattle.paper.specs.Load.{Loaded, load}
use Rattle.paper.specs.Reach.{pairs}
use Rattle.paper.specs.Conflict.{Pair, conflict}
use Rattle.paper.specs.Lemma.{Literal, lemma, lemma_bytes}
use Rattle.paper.specs.Clauses.{clauses_of, fresh_count, run}
use Rattle.paper.specs.Answers.{Verdict, Checked, check_refused, check_loaded, check, Written, write_refused, write_loaded, write_clauses}

module _ (count : List Term → Assignment → ℕ) (pair_for : List Term → Assignment → Option Pair) (lemma_for : List Term → Assignment → Pair → List Literal) where
  abbrev pub check_conflict_of : (room : ℕ) → List Term → Assignment → Option Pair → Checked
  check_conflict_of room terms g none =
      record { verdict = Verdict.consistent; refusal = 0; offset = 0; pairs = count terms g; written = [] }
  check_conflict_of room terms g (some pair) =
      let bytes = lemma_bytes (lemma_for terms g pair) in
      unless_refused (first_met ((ltb room (length bytes) refuses 10) ∷ []))
      (λ refusal. check_refused refusal 0)
      (record { verdict = Verdict.in_conflict; refusal = 0; offset = 0; pairs = count terms g; written = bytes })

  abbrev pub check_loaded_of : (room : ℕ) → Loaded → Checked
  check_loaded_of room (Loaded.refused refusal at) = check_refused refusal at
  check_loaded_of room (Loaded.accepted query) =
      check_conflict_of room query.terms (assigned query.guess) (pair_for query.terms (assigned query.guess))

  unfoldable pub check_of : (w : ℕ) → List ℕ → (room : ℕ) → Checked
  check_of w bytes room = check_loaded_of room (load w bytes)

module _ (pair_for : List Term → Assignment → Option Pair) (lemma_for : List Term → Assignment → Pair → List Literal) where
  abbrev pub write_conflict_of : (w room : ℕ) → List Term → Assignment → Option Pair → Written
  write_conflict_of w room terms g none = write_refused 12 0
  write_conflict_of w room terms g (some pair) =
      let literals = lemma_for terms g pair in
      let clauses = clauses_of w (given base terms) (given boolean terms) literals in
      unless_refused (first_met ((ltb room (length (run clauses)) refuses 10) ∷ []))
      (λ refusal. write_refused refusal 0)
      (record {
        refusal = 0;
        offset = 0;
        variables = w * given base terms + given boolean terms + fresh_count w literals;
        clauses = length clauses;
        written = run clauses;
      })

  abbrev pub write_loaded_of : (w room : ℕ) → Loaded → Written
  write_loaded_of w room (Loaded.refused refusal at) = write_refused refusal at
  write_loaded_of w room (Loaded.accepted query) =
      write_conflict_of w room query.terms (assigned query.guess) (pair_for query.terms (assigned query.guess))

  unfoldable pub write_of : (w : ℕ) → List ℕ → (room : ℕ) → Written
  write_of w bytes room = write_loaded_of w room (load w bytes)

-- with the paper's parts they are the paper's
pub check_own : (w : ℕ) (bytes : List ℕ) (room : ℕ) → check_of pairs conflict lemma w bytes room ≡ check w bytes room
unfolding check_of check
check_own w bytes room = go (load w bytes)
  where
    go : (loaded : Loaded) → check_loaded_of pairs conflict lemma room loaded ≡ check_loaded room loaded
    go (Loaded.refused refusal at) = refl
    go (Loaded.accepted query) = refl

pub write_own : (w : ℕ) (bytes : List ℕ) (room : ℕ) → write_of conflict lemma w bytes room ≡ write_clauses w bytes room
unfolding write_of write_clauses
write_own w bytes room = go (load w bytes)
  where
    go : (loaded : Loaded) → write_loaded_of conflict lemma w room loaded ≡ write_loaded w room loaded
    go (Loaded.refused refusal at) = refl
    go (Loaded.accepted query) = refl
