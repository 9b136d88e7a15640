-- What does not depend on what a step costs: reach, the pair count, the conflicting pair, and so the verdict. The parts
-- of a check are written out here with any cost; with the paper's own it is the paper's.
-- Assumes nothing.
use Prim.Native.Nat.{ℕ, ◌+◌, ◌<◌, ◌≤◌}
use native.Mathlib.Nat.{le_refl}
use native.Mathlib.Omega.{arith}
use mathlib.Core.Path.{◌≡◌, refl, ap₂}
use mathlib.Core.Logic.{◌⊎◌, inl, inr, ⊎_elim}
use mathlib.Core.Bool.{Bool, true, false, cond, false≢true}
use mathlib.Core.List.{List, [], ◌∷◌, ◌++◌, map}
use mathlib.Core.Option.{Option, none, some}
use lib.Dec.{eqb}
use lib.ListN.{length, get_or}
use Rattle.paper.specs.Lists.{is_some, map_option, or_else, keep, find, count, sum, range}
use Rattle.paper.specs.Fields.{array}
use Rattle.paper.specs.Terms.{Term, given, Query, Assignment}
use Rattle.paper.specs.Load.{Loaded, load}
use Rattle.paper.specs.Edges.{index_number, Source, sources, Guard, Edge, open_edges}
use Rattle.paper.specs.Reach.{index_value, near, step_cost, distances, reaches_at, reaches, pairs}
use Rattle.paper.specs.Conflict.{Pair, conflicts, first_pair, conflict}
use Rattle.paper.specs.Lemma.{Literal, path_from, hypotheses, stays, path, lemma, lemma_bytes}
use Rattle.paper.specs.Answers.{Verdict, Checked, check_refused, check}
use Rattle.meaning.proofs.Lists.{same_test, count_same, find_same}
use Rattle.meaning.proofs.Parts.{check_of, check_own}
use Rattle.meaning.proofs.Walks.{Ranged}
use Rattle.meaning.proofs.Distances.{entry, entry_inside, entry_reached, reached_entry}
use Rattle.meaning.proofs.Given.{Numbered, open_ranged}
use Rattle.meaning.proofs.Conflicts.{path_by_lem}
use Rattle.meaning.proofs.Built.{AreBytes}
use Rattle.meaning.proofs.Accepted.{Accepted, accepted}
use Rattle.meaning.proofs.Sources.{arrays_bound}
use Rattle.meaning.proofs.Whole.{guess_of, pair_of, pairs_of}
use Rattle.meaning.proofs.Called.{by_room, check_none, check_some}
use Rattle.meaning.proofs.Verdict.{numbered, pair_taken}
use Rattle.meaning.proofs.Counts.{bytes_at_most}
use Rattle.meaning.proofs.Bounds.{walk_literals}
use Rattle.meaning.proofs.Demands.{bounded}
use Rattle.meaning.proofs.Answered.{settle, check_by_room}

-- the answers of a check where a step costs what its guard says
module _ (cost : Guard → ℕ) where
  module _ (terms : List Term) (g : Assignment) where
    abbrev pub distances_by : (x goal : ℕ) → List (Option ℕ)
    distances_by x goal = near cost (open_edges terms g x) (given array terms) goal (given array terms)

    abbrev pub reaches_by : Source → (a : ℕ) → Bool
    reaches_by source a = is_some (get_or (distances_by (index_value g source) source.origin) a none)

    abbrev pub pairs_by : ℕ
    pairs_by = sum (map (λ source. count (reaches_by source) (range 0 (given array terms))) (sources terms))

    abbrev pub conflicts_by : (s t : Source) → Bool
    conflicts_by s t =
        cond (eqb (index_value g s) (index_value g t))
        (cond (eqb (g.value s.value) (g.value t.value)) false (reaches_by s t.origin))
        false

    abbrev pub first_pair_by : List Source → Option Pair
    first_pair_by [] = none
    first_pair_by (s ∷ later) = or_else (map_option (λ t. record { first = s; later = t }) (find (conflicts_by s) later)) (first_pair_by later)

    abbrev pub conflict_by : Option Pair
    conflict_by = first_pair_by (sources terms)

    abbrev pub path_by : Pair → List Edge
    path_by pair =
        let x = index_value g pair.first in
        path_from cost (given array terms) (open_edges terms g x) (distances_by x pair.later.origin) pair.first.origin

    abbrev pub lemma_by : Pair → List Literal
    lemma_by pair =
        keep (stays terms) (hypotheses (index_number pair.first.place) (index_number pair.later.place) (path_by pair))
        ++ (Literal.conclusion pair.first.value pair.later.value ∷ [])

  abbrev pub check_by : (w : ℕ) → List ℕ → (room : ℕ) → Checked
  check_by = check_of pairs_by conflict_by lemma_by

-- whether there is an entry doesn't depend on the cost, so nor do reach, the pair count and the pair
entries_alike : (cost other : Guard → ℕ) (among : List Edge) (n goal a : ℕ) → Ranged n among
    → is_some (entry cost among n goal n a) ≡ true → is_some (entry other among n goal n a) ≡ true
entries_alike cost other among n goal a ranged there =
    reached_entry other among n goal ranged (inside (entry cost among n goal n a) refl there) (entry_reached cost among n goal there).1
  where
    inside : (found : Option ℕ) → entry cost among n goal n a ≡ found → is_some found ≡ true → a < n
    inside none is reached = absurd (false≢true reached)
    inside (some d) is reached = entry_inside cost among n goal n is

module _ (cost : Guard → ℕ) (terms : List Term) (numbered : Numbered terms) (g : Assignment) where
  pub reaches_any : (source : Source) (a : ℕ) → reaches_by cost terms g source a ≡ reaches terms g source a
  unfolding reaches reaches_at distances
  reaches_any source a =
      let x = index_value g source in
      let ranged = open_ranged terms numbered g x in
      same_test (reaches_by cost terms g source a) (reaches_by step_cost terms g source a)
      (entries_alike cost step_cost (open_edges terms g x) (given array terms) source.origin a ranged)
      (entries_alike step_cost cost (open_edges terms g x) (given array terms) source.origin a ranged)

  pub pairs_any : pairs_by cost terms g ≡ pairs terms g
  unfolding pairs
  pairs_any = each (sources terms)
    where
      each : (from : List Source) → sum (map (λ source. count (reaches_by cost terms g source) (range 0 (given array terms))) from)
          ≡ sum (map (λ source. count (reaches terms g source) (range 0 (given array terms))) from)
      each [] = refl
      each (source ∷ from) =
          ap₂ ◌+◌ (count_same (reaches_by cost terms g source) (reaches terms g source) (reaches_any source) (range 0 (given array terms))) (each from)

  conflicts_any : (s t : Source) → conflicts_by cost terms g s t ≡ conflicts terms g s t
  unfolding conflicts
  conflicts_any s t = rw (reaches_any s t.origin)

  pub conflict_any : conflict_by cost terms g ≡ conflict terms g
  unfolding conflict
  conflict_any = each (sources terms)
    where
      each : (from : List Source) → first_pair_by cost terms g from ≡ first_pair terms g from
      each [] = refl
      each (s ∷ from) =
          ap₂ (λ (found : Option Source) (rest : Option Pair). or_else (map_option {B = Pair} (λ t. record { first = s; later = t }) found) rest)
          (find_same from (λ t here. conflicts_any s t)) (each from)

-- with the paper's cost it is the paper's check
pub check_is : (w : ℕ) (bytes : List ℕ) (room : ℕ) → check_by step_cost w bytes room ≡ check w bytes room
unfolding pairs reaches reaches_at distances conflicts conflict path lemma
check_is = check_own

-- two checks with one verdict, refusal, offset and pair count
abbrev pub Alike : Checked → Checked → Type 0
Alike one other = (one.verdict ≡ other.verdict) × (one.refusal ≡ other.refusal) × (one.offset ≡ other.offset) × (one.pairs ≡ other.pairs)

-- a check by room: that with 343 bytes, or 10 where its lemma is longer than the room
abbrev ByRoom : (at : ℕ → Checked) → (room : ℕ) → Type 0
ByRoom at room =
    ((room < length (at 343).written) × (at room ≡ check_refused 10 0)) ⊎ ((length (at 343).written ≤ room) × (at room ≡ at 343))

-- the lemma of one check is longer than the room, so that it is refused; that of the other fits
pub record TooLong (one other : ℕ → Checked) (room : ℕ) : Type 0 where
  pub small : room < 343
  pub long : room < length (one 343).written
  pub refused : one room ≡ check_refused 10 0
  pub fits : length (other 343).written ≤ room
  pub answered : other room ≡ other 343

abbrev pub AlikeUnlessLong : (one other : ℕ → Checked) → (room : ℕ) → Type 0
AlikeUnlessLong one other room = Alike (one room) (other room) ⊎ TooLong one other room ⊎ TooLong other one room

-- two checks that are alike with 343 bytes are so with any other room, but for that
by_rooms : (one other : ℕ → Checked) → Alike (one 343) (other 343) → ((room : ℕ) → ByRoom one room) → ((room : ℕ) → ByRoom other room)
    → (room : ℕ) → AlikeUnlessLong one other room
by_rooms one other alike one_by other_by room = go (one_by room) (other_by room)
  where
    most : (at : ℕ → Checked) → ByRoom at 343 → length (at 343).written ≤ 343
    most at (inl (long, refused)) = rw refused (omega arith)
    most at (inr (fits, same)) = fits

    go : ByRoom one room → ByRoom other room → AlikeUnlessLong one other room
    go (inl (long, refused)) (inl (too, is)) = inl (rw (refused, is) (refl, refl, refl, refl))
    go (inr (fits, same)) (inr (too, is)) = inl (rw (same, is) alike)
    go (inl (long, refused)) (inr (fits, is)) =
        inr (inl (record { small = omega (arith, most one (one_by 343)); long = long; refused = refused; fits = fits; answered = is }))
    go (inr (fits, is)) (inl (long, refused)) =
        inr (inr (record { small = omega (arith, most other (other_by 343)); long = long; refused = refused; fits = fits; answered = is }))

-- an answer that fits is there
where_it_fits : {A : Type 0} {one answer refused : A} {room long : ℕ} → long ≤ room → ((long ≤ room) × (one ≡ answer)) ⊎ ((room < long) × (one ≡ refused)) → one ≡ answer
where_it_fits fits (inl (short, is)) = is
where_it_fits fits (inr (long, is)) = absurd (omega arith)

-- Of every string of bytes and every buffer: verdict, refusal, offset and pair count are those of any other cost of at least 1, unless just
-- one of the two lemmas is longer than the room
module _ (cost : Guard → ℕ) (positive : (guard : Guard) → 0 < cost guard) (w : ℕ) (bytes : List ℕ) (are_bytes : AreBytes bytes) where
  module _ (query : Query) (loaded : load w bytes ≡ Loaded.accepted query) where
    ok : Accepted w query
    ok = accepted w bytes query are_bytes loaded

    same_pairs : pairs_by cost query.terms (guess_of query) ≡ pairs_of query
    same_pairs = pairs_any cost query.terms (numbered ok) (guess_of query)

    same_pair : conflict_by cost query.terms (guess_of query) ≡ pair_of query
    same_pair = conflict_any cost query.terms (numbered ok) (guess_of query)

    by_none : (room : ℕ) → pair_of query ≡ none → check_by cost w bytes room ≡ check w bytes room
    unfolding check_of
    by_none room quiet = rw (check_none w bytes query loaded room quiet, loaded, same_pair, quiet, same_pairs)

    abbrev bytes_by : Pair → List ℕ
    bytes_by pair = lemma_bytes (lemma_by cost query.terms (guess_of query) pair)

    abbrev in_conflict_by : Pair → Checked
    in_conflict_by pair = record { verdict = Verdict.in_conflict; refusal = 0; offset = 0; pairs = pairs_of query; written = bytes_by pair }

    by_some : (room : ℕ) (pair : Pair) → pair_of query ≡ some pair
        → ((length (bytes_by pair) ≤ room) × (check_by cost w bytes room ≡ in_conflict_by pair)) ⊎ ((room < length (bytes_by pair)) × (check_by cost w bytes room ≡ check_refused 10 0))
    unfolding check_of
    by_some room pair found =
        rw (loaded, same_pair, found, same_pairs) (by_room room (length (bytes_by pair)) (in_conflict_by pair) (λ refusal. check_refused refusal 0))

    -- a lemma has at most 343 bytes
    bytes_most : (pair : Pair) → pair_of query ≡ some pair → length (bytes_by pair) ≤ 343
    bytes_most pair found =
        omega (
          arith,
          bytes_at_most (lemma_by cost query.terms (guess_of query) pair),
          walk_literals (stays query.terms) pair.first pair.later (path_by cost query.terms (guess_of query) pair),
          (path_by_lem query.terms (numbered ok) (guess_of query) pair (pair_taken ok pair found) cost positive).1,
          arrays_bound ok,
        )

    by_cost : (room : ℕ) → ByRoom (check_by cost w bytes) room
    by_cost room = go (pair_of query) refl
      where
        go : (found : Option Pair) → pair_of query ≡ found → ByRoom (check_by cost w bytes) room
        go none quiet = rw (by_none 343 quiet, by_none room quiet) (check_by_room w bytes query are_bytes loaded room 343 (le_refl 343))
        go (some pair) found =
            settle (check_by cost w bytes) (λ (one : Checked). length one.written) (in_conflict_by pair) (check_refused 10 0) room 343 (bytes_most pair found)
            (λ any. by_some any pair found)

    -- with 343 bytes
    alike : Alike (check_by cost w bytes 343) (check w bytes 343)
    alike = go (pair_of query) refl
      where
        go : (found : Option Pair) → pair_of query ≡ found → Alike (check_by cost w bytes 343) (check w bytes 343)
        go none quiet = rw (by_none 343 quiet) (refl, refl, refl, refl)
        go (some pair) found =
            rw (where_it_fits (bytes_most pair found) (by_some 343 pair found))
            (rw (where_it_fits ((bounded w bytes query are_bytes loaded).bytes pair found) (check_some w bytes query loaded 343 pair found))
            (refl, refl, refl, refl))

  pub check_any : (room : ℕ) → AlikeUnlessLong (check_by cost w bytes) (check w bytes) room
  unfolding check_of check
  check_any room = go (load w bytes) refl
    where
      go : (loaded : Loaded) → load w bytes ≡ loaded → AlikeUnlessLong (check_by cost w bytes) (check w bytes) room
      go (Loaded.refused refusal at) is = inl (rw is (refl, refl, refl, refl))
      go (Loaded.accepted query) is =
          by_rooms (check_by cost w bytes) (check w bytes) (alike query is) (by_cost query is)
          (λ any. check_by_room w bytes query are_bytes is any 343 (le_refl 343)) room

  -- so with a room that holds both lemmas, as 343 bytes do
  pub check_any_fits : (room : ℕ) → length (check_by cost w bytes 343).written ≤ room → length (check w bytes 343).written ≤ room
      → Alike (check_by cost w bytes room) (check w bytes room)
  check_any_fits room one other =
      ⊎_elim (λ same. same) (λ long. ⊎_elim (λ it. absurd (omega (arith, it.long))) (λ it. absurd (omega (arith, it.long))) long) (check_any room)

  pub check_any_343 : (room : ℕ) → 343 ≤ room → Alike (check_by cost w bytes room) (check w bytes room)
  check_any_343 room enough =
      ⊎_elim (λ same. same) (λ long. ⊎_elim (λ it. absurd (omega (arith, it.small))) (λ it. absurd (omega (arith, it.small))) long) (check_any room)
