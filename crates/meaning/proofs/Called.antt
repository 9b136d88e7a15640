-- What the three calls answer of an accepted query, by its conflicting pair: the answers' definitions, read once for all theorems above.
-- Assumes nothing.
use Prim.Native.Nat.{ℕ, ◌+◌, ◌*◌, ◌<◌, ◌≤◌, ◌^◌}
use mathlib.Core.Path.{◌≡◌, refl}
use mathlib.Core.Logic.{◌⊎◌, inl, inr}
use mathlib.Core.Bool.{Bool, true, false, cond}
use mathlib.Core.List.{List, [], ◌∷◌}
use mathlib.Core.Option.{none, some}
use borrow.Author.Tests.{ltb-true, ltb-false, lt-leb}
use lib.Dec.{ltb}
use lib.IntN.{ℤ}
use lib.ListN.{length}
use Rattle.paper.specs.Lists.{first_met, unless_refused, ◌refuses◌}
use Rattle.paper.specs.Fields.{base, boolean, array}
use Rattle.paper.specs.Terms.{given, Query}
use Rattle.paper.specs.Load.{Loaded, load}
use Rattle.paper.specs.Conflict.{Pair}
use Rattle.paper.specs.Lemma.{lemma_bytes}
use Rattle.paper.specs.Clauses.{clauses_of, fresh_count, run}
use Rattle.paper.specs.Answers.{Verdict, Checked, check_refused, check, look, Written, write_refused, write_clauses}
use Rattle.meaning.proofs.Whole.{pair_of, pairs_of, lemma_of, model_of}

-- an answer of so many elements, or 10 where that is more than the room
pub by_room : {A : Type 0} (room long : ℕ) (answer : A) (refused_for : ℕ → A)
    → ((long ≤ room) × (unless_refused (first_met ((ltb room long refuses 10) ∷ [])) refused_for answer ≡ answer))
    ⊎ ((room < long) × (unless_refused (first_met ((ltb room long refuses 10) ∷ [])) refused_for answer ≡ refused_for 10))
by_room {A} room long answer refused_for = go (ltb room long) refl
  where
    go : (b : Bool) → ltb room long ≡ b
        → ((long ≤ room) × (unless_refused (cond b 10 0) refused_for answer ≡ answer)) ⊎ ((room < long) × (unless_refused (cond b 10 0) refused_for answer ≡ refused_for 10))
    go true e = inr (ltb-true room long e, refl)
    go false e = inl (ltb-false room long e, refl)

module _ (w : ℕ) (bytes : List ℕ) (query : Query) (loaded : load w bytes ≡ Loaded.accepted query) where
  -- the check, with no pair
  pub check_none : (room : ℕ) → pair_of query ≡ none
      → check w bytes room ≡ record { verdict = Verdict.consistent; refusal = 0; offset = 0; pairs = pairs_of query; written = [] }
  unfolding check
  check_none room quiet = rw (loaded, quiet)

  -- the check, with a pair: the lemma's bytes, or 10 where they are longer than the room
  abbrev pub in_conflict : Pair → Checked
  in_conflict pair = record { verdict = Verdict.in_conflict; refusal = 0; offset = 0; pairs = pairs_of query; written = lemma_bytes (lemma_of query pair) }

  pub check_some : (room : ℕ) (pair : Pair) → pair_of query ≡ some pair
      → ((length (lemma_bytes (lemma_of query pair)) ≤ room) × (check w bytes room ≡ in_conflict pair))
      ⊎ ((room < length (lemma_bytes (lemma_of query pair))) × (check w bytes room ≡ check_refused 10 0))
  unfolding check
  check_some room pair found =
      rw (loaded, found) (by_room room (length (lemma_bytes (lemma_of query pair))) (in_conflict pair) (λ refusal. check_refused refusal 0))

  -- the lookup of a given array at an index below 2^w, with no pair
  pub look_none : (a x : ℕ) → pair_of query ≡ none → a < given array query.terms → x < 2 ^ w
      → look w bytes a x ≡ record { refusal = 0; offset = 0; value = model_of query a x }
  unfolding look
  look_none a x quiet a_in x_in = rw (loaded, quiet, lt-leb (given array query.terms) a a_in, lt-leb (2 ^ w) x x_in)

  -- the clauses: 12 with no pair; with one, the lemma's, or 10 where they are longer than the room
  pub write_none : (room : ℕ) → pair_of query ≡ none → write_clauses w bytes room ≡ write_refused 12 0
  unfolding write_clauses
  write_none room quiet = rw (loaded, quiet)

  abbrev pub clauses_are : Pair → List (List ℤ)
  clauses_are pair = clauses_of w (given base query.terms) (given boolean query.terms) (lemma_of query pair)

  abbrev pub written : Pair → Written
  written pair =
      record {
        refusal = 0;
        offset = 0;
        variables = w * given base query.terms + given boolean query.terms + fresh_count w (lemma_of query pair);
        clauses = length (clauses_are pair);
        written = run (clauses_are pair);
      }

  pub write_some : (room : ℕ) (pair : Pair) → pair_of query ≡ some pair
      → ((length (run (clauses_are pair)) ≤ room) × (write_clauses w bytes room ≡ written pair))
      ⊎ ((room < length (run (clauses_are pair))) × (write_clauses w bytes room ≡ write_refused 10 0))
  unfolding write_clauses
  write_some room pair found = rw (loaded, found) (by_room room (length (run (clauses_are pair))) (written pair) (λ refusal. write_refused refusal 0))
