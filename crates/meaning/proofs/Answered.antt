-- Answers come. With the room that always suffices an accepted query is answered; with any other room the answer is the same, or it is 10
-- and the answer is longer than the room. And what a lookup or the clause writer refuses by 12 and 11.
-- Assumes nothing.
use Prim.Native.Nat.{ℕ, zero, suc, ◌<◌, ◌≤◌, ◌^◌}
use native.Mathlib.Nat.{le_refl, le_of_lt, lt_of_lt_of_le, pow-le-pow_right}
use native.Mathlib.Omega.{arith}
use mathlib.Core.Path.{◌≡◌, refl, sym, ap, ◌∙◌}
use mathlib.Core.Logic.{◌⊎◌, inl, inr, ⊎_elim}
use mathlib.Core.Bool.{Bool, true, false, cond}
use mathlib.Core.List.{List, [], ◌∷◌}
use mathlib.Core.Option.{Option, none, some}
use borrow.Author.Tests.{le-leb, lt-leb, le-ltb, ne_eqb}
use lib.Dec.{eqb, leb, ltb}
use lib.ListN.{length}
use Rattle.paper.specs.Lists.{is_some, Test, ◌refuses◌, first_met, unless_refused}
use Rattle.paper.specs.Fields.{array}
use Rattle.paper.specs.Terms.{given, Query}
use Rattle.paper.specs.Interpretations.{Interpretation, Consistent}
use Rattle.paper.specs.Load.{Loaded, load}
use Rattle.paper.specs.Conflict.{Pair}
use Rattle.paper.specs.Lemma.{lemma_bytes}
use Rattle.paper.specs.Cells.{Cell, cells}
use Rattle.paper.specs.Clauses.{run}
use Rattle.paper.specs.Answers.{Verdict, Checked, check_refused, check, look_refused, look, list_refused, list, Written, write_refused, write_clauses}
use Rattle.meaning.proofs.Built.{AreBytes}
use Rattle.meaning.proofs.Accepted.{accepted}
use Rattle.meaning.proofs.Whole.{guess_of, pair_of, pairs_of, lemma_of}
use Rattle.meaning.proofs.Called.{check_none, check_some, in_conflict, write_none, write_some, clauses_are, written}
use Rattle.meaning.proofs.Sources.{arrays_bound, sources_bound}
use Rattle.meaning.proofs.Cells.{cells_few}
use Rattle.meaning.proofs.Memories.{interprets_same}
use Rattle.meaning.proofs.Refusals.{refusals}
use Rattle.meaning.proofs.Verdict.{numbered, fits_none, unfit_some}
use Rattle.meaning.proofs.Demands.{bounded, refused_alike, consistent_exactly, lookup_interprets}

-- an answer by room: with a large one it is there, so with any other it is the same or refused, by its length
pub settle : {A : Type 0} (at : ℕ → A) (measure : A → ℕ) (answer refused : A) (room large : ℕ) → measure answer ≤ large
    → ((any : ℕ) → ((measure answer ≤ any) × (at any ≡ answer)) ⊎ ((any < measure answer) × (at any ≡ refused)))
    → ((room < measure (at large)) × (at room ≡ refused)) ⊎ ((measure (at large) ≤ room) × (at room ≡ at large))
settle {A} at measure answer refused room large fits by = go (by large) (by room)
  where
    go : ((measure answer ≤ large) × (at large ≡ answer)) ⊎ ((large < measure answer) × (at large ≡ refused))
        → ((measure answer ≤ room) × (at room ≡ answer)) ⊎ ((room < measure answer) × (at room ≡ refused))
        → ((room < measure (at large)) × (at room ≡ refused)) ⊎ ((measure (at large) ≤ room) × (at room ≡ at large))
    go (inr (long, is)) one = absurd (omega arith)
    go (inl (there, is)) (inl (short, same)) = inr (rw is short, same ∙ sym is)
    go (inl (there, is)) (inr (long, refused_is)) = inl (rw is long, refused_is)

-- an answer that is no refusal, with the paper's pairs
abbrev pub IsAnswered : Query → Checked → Type 0
IsAnswered query answer = ((answer.verdict ≡ Verdict.consistent) ⊎ (answer.verdict ≡ Verdict.in_conflict)) × (answer.pairs ≡ pairs_of query)

either_way : (b : Bool) (n : ℕ) → cond b n n ≡ n
either_way true n = refl
either_way false n = refl

module _ (w : ℕ) (bytes : List ℕ) (query : Query) (are_bytes : AreBytes bytes) (loaded : load w bytes ≡ Loaded.accepted query) where
  -- values that are those of all lookups, at numbers that fit 64 bits, are the memories of an interpretation
  pub lookups_interpret : Consistent w query → w ≤ 64 → (values : (a x : ℕ) → ℕ)
      → ((a x : ℕ) → a < 2 ^ 64 → x < 2 ^ 64 → values a x ≡ (look w bytes a x).value) → Interpretation w query.terms (guess_of query) values
  lookups_interpret consistent fits values same =
      let ok = accepted w bytes query are_bytes loaded in
      interprets_same w query.terms (numbered ok) (guess_of query) (λ a x. (look w bytes a x).value) values
      (λ a x a_in x_in. sym (same a x (omega (arith, arrays_bound ok)) (lt_of_lt_of_le x_in (pow-le-pow_right (le_of_lt (le_refl 2)) fits))))
      ok.small
      (lookup_interprets w bytes query are_bytes loaded 0 ((consistent_exactly w bytes query are_bytes loaded 0).1 consistent))

  -- with any two rooms, of which one holds 343 bytes
  pub check_by_room : (room large : ℕ) → 343 ≤ large
      → ((room < length (check w bytes large).written) × (check w bytes room ≡ check_refused 10 0))
      ⊎ ((length (check w bytes large).written ≤ room) × (check w bytes room ≡ check w bytes large))
  check_by_room room large fits = go (pair_of query) refl
    where
      go : (found : Option Pair) → pair_of query ≡ found
          → ((room < length (check w bytes large).written) × (check w bytes room ≡ check_refused 10 0))
          ⊎ ((length (check w bytes large).written ≤ room) × (check w bytes room ≡ check w bytes large))
      go none quiet = rw (check_none w bytes query loaded large quiet) (inr (omega arith, check_none w bytes query loaded room quiet))
      go (some pair) found =
          settle (check w bytes) (λ (one : Checked). length one.written) (in_conflict w bytes query loaded pair) (check_refused 10 0) room large
          (omega (arith, (bounded w bytes query are_bytes loaded).bytes pair found))
          (λ any. check_some w bytes query loaded any pair found)

  -- with 343 bytes
  pub check_answered : (room : ℕ) → 343 ≤ room → IsAnswered query (check w bytes room)
  check_answered room fits = go (pair_of query) refl
    where
      by : (pair : Pair) → pair_of query ≡ some pair
          → ((length (lemma_bytes (lemma_of query pair)) ≤ room) × (check w bytes room ≡ in_conflict w bytes query loaded pair))
          ⊎ ((room < length (lemma_bytes (lemma_of query pair))) × (check w bytes room ≡ check_refused 10 0))
          → IsAnswered query (check w bytes room)
      by pair found (inl (short, is)) = rw is (inr refl, refl)
      by pair found (inr (long, is)) = absurd (omega (arith, (bounded w bytes query are_bytes loaded).bytes pair found))

      go : (found : Option Pair) → pair_of query ≡ found → IsAnswered query (check w bytes room)
      go none quiet = rw (check_none w bytes query loaded room quiet) (inl refl, refl)
      go (some pair) found = by pair found (check_some w bytes query loaded room pair found)

  -- "12: lookup on a query in conflict; clauses for a consistent query"
  pub look_unfit : (Consistent w query → ⊥) → (a x : ℕ) → look w bytes a x ≡ look_refused 12 0
  unfolding look
  look_unfit unfit a x = let (pair, found) = unfit_some (accepted w bytes query are_bytes loaded) unfit in rw (loaded, found)

  pub clauses_fit : Consistent w query → (room : ℕ) → write_clauses w bytes room ≡ write_refused 12 0
  clauses_fit consistent room = write_none w bytes query loaded room (fits_none (accepted w bytes query are_bytes loaded) consistent)

  -- "11: .. the array number isn't in the query", and no memory has an index of 2^w or more
  pub look_nowhere : Consistent w query → (a x : ℕ) → (given array query.terms ≤ a) ⊎ (2 ^ w ≤ x) → look w bytes a x ≡ look_refused 11 0
  unfolding look
  look_nowhere consistent a x (inl no_array) = rw (loaded, fits_none (accepted w bytes query are_bytes loaded) consistent, le-leb (given array query.terms) a no_array)
  look_nowhere consistent a x (inr no_index) =
      rw (loaded, fits_none (accepted w bytes query are_bytes loaded) consistent, le-leb (2 ^ w) x no_index, either_way (leb (given array query.terms) a) 11)

  -- the cells: 12 in a conflict, 11 of no array, and with room for 302 all of them
  pub list_unfit : (Consistent w query → ⊥) → (a room : ℕ) → list w bytes a room ≡ list_refused 12 0
  unfolding list
  list_unfit unfit a room = let (pair, found) = unfit_some (accepted w bytes query are_bytes loaded) unfit in rw (loaded, found)

  pub list_nowhere : Consistent w query → (a room : ℕ) → given array query.terms ≤ a → list w bytes a room ≡ list_refused 11 0
  unfolding list
  list_nowhere consistent a room no_array = rw (loaded, fits_none (accepted w bytes query are_bytes loaded) consistent, le-leb (given array query.terms) a no_array)

  pub list_answered : Consistent w query → (a room : ℕ) → a < given array query.terms → 302 ≤ room → list w bytes a room ≡ record { refusal = 0; offset = 0; listed = cells query.terms (guess_of query) a }
  unfolding list
  list_answered consistent a room inside fits =
      let ok = accepted w bytes query are_bytes loaded in
      let few : length (cells query.terms (guess_of query) a) ≤ room = omega (arith, cells_few query.terms (guess_of query) a, sources_bound ok) in
      rw (loaded, fits_none ok consistent, lt-leb (given array query.terms) a inside, le-ltb room (length (cells query.terms (guess_of query) a)) few)

  -- an answer that is no refusal is all of them
  pub list_all : (a room : ℕ) → (list w bytes a room).refusal ≡ 0 → (list w bytes a room).listed ≡ cells query.terms (guess_of query) a
  unfolding list
  list_all a room = rw loaded (λ accepts. go (first_met tests) accepts)
    where
      all_cells : List Cell
      all_cells = cells query.terms (guess_of query) a

      tests : List Test
      tests = (is_some (pair_of query) refuses 12) ∷ (leb (given array query.terms) a refuses 11) ∷ (ltb room (length all_cells) refuses 10) ∷ []

      go : (n : ℕ) → (unless_refused n (λ (refusal : ℕ). list_refused refusal 0) (record { refusal = 0; offset = 0; listed = all_cells })).refusal ≡ 0
          → (unless_refused n (λ (refusal : ℕ). list_refused refusal 0) (record { refusal = 0; offset = 0; listed = all_cells })).listed ≡ all_cells
      go zero accepts = refl
      go (suc n) accepts = absurd (omega (arith, accepts))

-- with any two rooms for the clauses, of which one holds 12,625 numbers
pub clauses_by_room : (bytes : List ℕ) (query : Query) → AreBytes bytes → load 32 bytes ≡ Loaded.accepted query → (room large : ℕ) → 12625 ≤ large
    → ((room < length (write_clauses 32 bytes large).written) × (write_clauses 32 bytes room ≡ write_refused 10 0))
    ⊎ ((length (write_clauses 32 bytes large).written ≤ room) × (write_clauses 32 bytes room ≡ write_clauses 32 bytes large))
clauses_by_room bytes query are_bytes loaded room large fits = go (pair_of query) refl
  where
    go : (found : Option Pair) → pair_of query ≡ found
        → ((room < length (write_clauses 32 bytes large).written) × (write_clauses 32 bytes room ≡ write_refused 10 0))
        ⊎ ((length (write_clauses 32 bytes large).written ≤ room) × (write_clauses 32 bytes room ≡ write_clauses 32 bytes large))
    go none quiet = rw (write_none 32 bytes query loaded large quiet) (inr (omega arith, write_none 32 bytes query loaded room quiet))
    go (some pair) found =
        settle (write_clauses 32 bytes) (λ (one : Written). length one.written) (written 32 bytes query loaded pair) (write_refused 10 0) room large
        (omega (arith, (bounded 32 bytes query are_bytes loaded).numbers pair found))
        (λ any. write_some 32 bytes query loaded any pair found)

-- with 12,625 numbers the clauses of every query that no memories fit are written
pub clauses_answered : (bytes : List ℕ) (query : Query) → AreBytes bytes → load 32 bytes ≡ Loaded.accepted query → (Consistent 32 query → ⊥)
    → (room : ℕ) → 12625 ≤ room → (write_clauses 32 bytes room).refusal ≡ 0
clauses_answered bytes query are_bytes loaded unfit room fits =
    let (pair, found) = unfit_some (accepted 32 bytes query are_bytes loaded) unfit in
    by pair found (write_some 32 bytes query loaded room pair found)
  where
    by : (pair : Pair) (found : pair_of query ≡ some pair)
        → ((length (run (clauses_are 32 bytes query loaded pair)) ≤ room) × (write_clauses 32 bytes room ≡ written 32 bytes query loaded pair))
        ⊎ ((room < length (run (clauses_are 32 bytes query loaded pair))) × (write_clauses 32 bytes room ≡ write_refused 10 0))
        → (write_clauses 32 bytes room).refusal ≡ 0
    by pair found (inl (short, is)) = ap (λ (one : Written). one.refusal) is
    by pair found (inr (long, is)) = absurd (omega (arith, (bounded 32 bytes query are_bytes loaded).numbers pair found))

-- what is refused as it is read has a number that is not 0
pub refused_numbered : (w : ℕ) (bytes : List ℕ) (refusal at : ℕ) → load w bytes ≡ Loaded.refused refusal at → eqb refusal 0 ≡ false
refused_numbered w bytes refusal at loaded =
    ne_eqb refusal 0 (λ zero. ⊎_elim (λ long. omega arith) (λ field. omega arith) (refusals w bytes refusal at loaded))

-- a call by what it is of: bytes that are refused, a query with no pair, or one with a pair
by_loading : (w : ℕ) (bytes : List ℕ) (goal : Type 0) → ((refusal at : ℕ) → load w bytes ≡ Loaded.refused refusal at → goal)
    → ((query : Query) → load w bytes ≡ Loaded.accepted query → pair_of query ≡ none → goal)
    → ((query : Query) → load w bytes ≡ Loaded.accepted query → (pair : Pair) → pair_of query ≡ some pair → goal)
    → goal
by_loading w bytes goal refused quiet clash = go (load w bytes) refl
  where
    by_pair : (query : Query) → load w bytes ≡ Loaded.accepted query → (found : Option Pair) → pair_of query ≡ found → goal
    by_pair query loaded none is = quiet query loaded is
    by_pair query loaded (some pair) is = clash query loaded pair is

    go : (one : Loaded) → load w bytes ≡ one → goal
    go (Loaded.refused refusal at) is = refused refusal at is
    go (Loaded.accepted query) is = by_pair query is (pair_of query) refl

-- bytes are written in a conflict alone, and numbers where nothing is refused
pub check_quiet : (w : ℕ) (bytes : List ℕ) (room : ℕ) → ((check w bytes room).verdict ≡ Verdict.in_conflict) ⊎ ((check w bytes room).written ≡ [])
check_quiet w bytes room =
    by_loading w bytes _ (λ refusal at is. rw (refused_alike w bytes refusal at is room 0 0).0 (inr refl))
    (λ query loaded quiet. rw (check_none w bytes query loaded room quiet) (inr refl))
    (λ query loaded pair found.
    ⊎_elim (λ (fits, is). rw is (inl refl)) (λ (long, is). rw is (inr refl)) (check_some w bytes query loaded room pair found))

pub clauses_quiet : (w : ℕ) (bytes : List ℕ) (room : ℕ) → ((write_clauses w bytes room).refusal ≡ 0) ⊎ ((write_clauses w bytes room).written ≡ [])
clauses_quiet w bytes room =
    by_loading w bytes _ (λ refusal at is. rw (refused_alike w bytes refusal at is room 0 0).2 (inr refl))
    (λ query loaded quiet. rw (write_none w bytes query loaded room quiet) (inr refl))
    (λ query loaded pair found.
    ⊎_elim (λ (fits, is). rw is (inl refl)) (λ (long, is). rw is (inr refl)) (write_some w bytes query loaded room pair found))
