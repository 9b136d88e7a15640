-- The headline theorems: what the calls promise, of every string of bytes and every width w. This file only restates and cites.
-- `check`, `look`, `list` and `write_clauses` are the paper's answers (crates/paper/specs/Answers.antt).
-- Assumes nothing.
use Prim.Native.Nat.{ℕ, ◌+◌, ◌*◌, ◌<◌, ◌≤◌}
use mathlib.Core.Path.{◌≡◌}
use mathlib.Core.Logic.{◌⊎◌, ◌↔◌, ◌≢◌}
use mathlib.Core.Bool.{Bool, true}
use mathlib.Core.List.{List, ◌++◌, map}
use mathlib.Core.Option.{some}
use lib.IntN.{ℤ}
use lib.ListN.{length}
use Rattle.paper.specs.Lists.{◌∈◌, keep, count, sum, range}
use Rattle.paper.specs.Fields.{array}
use Rattle.paper.specs.Terms.{Term, given, Query, Assignment}
use Rattle.paper.specs.Interpretations.{Memories, GivesFixed, Interpretation, Consistent}
use Rattle.paper.specs.Load.{Loaded, load, max_bytes}
use Rattle.paper.specs.Edges.{Source, sources, Guard}
use Rattle.paper.specs.Reach.{Reaches, step_cost, reaches}
use Rattle.paper.specs.Conflict.{Pair}
use Rattle.paper.specs.Lemma.{Literal, stays, lemma, lemma_holds}
use Rattle.paper.specs.Model.{model}
use Rattle.paper.specs.Cells.{Cell, cells}
use Rattle.paper.specs.Clauses.{clauses_of, fresh_count, of_bits}
use Rattle.paper.specs.Reading.{read_run}
use Rattle.paper.specs.Fronts.{IsFront}
use Rattle.paper.specs.Answers.{Verdict, check, check_refused, look, look_refused, write_clauses, write_refused}
use Rattle.meaning.proofs.Built.{AreBytes}
use Rattle.meaning.proofs.Accepted.{accepted}
use Rattle.meaning.proofs.Sources.{arrays_bound}
use Rattle.meaning.proofs.Refusals as Refusals
use Rattle.meaning.proofs.Reach as Reach
use Rattle.meaning.proofs.Conflicts.{Taken, FewestPath, path_is}
use Rattle.meaning.proofs.Whole.{guess_of, pair_of, pairs_of, lemma_of}
use Rattle.meaning.proofs.Fixed as Fixed
use Rattle.meaning.proofs.Fixed.{whole_lemma, BetweenFixed}
use Rattle.meaning.proofs.Verdict as Verdicts
use Rattle.meaning.proofs.Verdict.{numbered, pair_taken}
use Rattle.meaning.proofs.Counts as Counts
use Rattle.meaning.proofs.Cells as Cells
use Rattle.meaning.proofs.Cells.{Ascend}
use Rattle.meaning.proofs.Demands as Demands
use Rattle.meaning.proofs.Demands.{Lemma, Settable, RespectsFixed, Clausal, Bounded}
use Rattle.meaning.proofs.AsBits as AsBits
use Rattle.meaning.proofs.AsBits.{BitsOf}
use Rattle.meaning.proofs.Answered as Answered
use Rattle.meaning.proofs.Answered.{IsAnswered}
use Rattle.meaning.proofs.Costs as Costs
use Rattle.meaning.proofs.Costs.{pairs_by, conflict_by, check_by, Alike, AlikeUnlessLong}
use Rattle.meaning.proofs.Parts as Parts
use Rattle.meaning.proofs.Before as Before
use Rattle.meaning.proofs.Before.{check_with, write_with}
use Rattle.meaning.proofs.Begins as Begins
use Rattle.meaning.proofs.Begins.{Begins}
use Rattle.meaning.proofs.Grown as Grown

-- Demand 1. Every string of bytes has one answer, since the calls are functions of it. What is refused as it is read is refused by a
-- number of 01's: 1 where it is too long, or else 2 to 9, at a place inside.
pub refused_by_number : (w : ℕ) (bytes : List ℕ) (refusal at : ℕ) → load w bytes ≡ Loaded.refused refusal at
    → ((refusal ≡ 1) × (at ≡ 0) × (max_bytes < length bytes)) ⊎ (((2 ≤ refusal) × (refusal ≤ 9)) × (at < length bytes) × (length bytes ≤ max_bytes))
refused_by_number = Refusals.refusals

-- Then each call answers that number and offset, every other number 0, and writes nothing.
pub refused_alike : (w : ℕ) (bytes : List ℕ) (refusal at : ℕ) → load w bytes ≡ Loaded.refused refusal at
    → (room a x : ℕ) → (check w bytes room ≡ check_refused refusal at) × (look w bytes a x ≡ look_refused refusal at) × (write_clauses w bytes room ≡ write_refused refusal at)
refused_alike = Demands.refused_alike

-- All that follows is of an accepted query.
module _ (w : ℕ) (bytes : List ℕ) (query : Query) (are_bytes : AreBytes bytes) (loaded : load w bytes ≡ Loaded.accepted query) where
  -- Demand 2. The verdict is "consistent" exactly if an interpretation exists with all the assigned values and truths.
  pub consistent_exactly : (room : ℕ) → ((check w bytes room).verdict ≡ Verdict.consistent) ↔ Consistent w query
  consistent_exactly = Demands.consistent_exactly w bytes query are_bytes loaded

  -- The lookup then gives the memories of one.
  pub lookup_interprets : (room : ℕ) → (check w bytes room).verdict ≡ Verdict.consistent
      → Interpretation w query.terms (guess_of query) (λ a x. (look w bytes a x).value)
  lookup_interprets = Demands.lookup_interprets w bytes query are_bytes loaded

  -- The cells of an array that are listed have the model's values, up by their indices; everywhere else the model is 0.
  pub cells_model : (a : ℕ) (cell : Cell) → cell ∈ cells query.terms (guess_of query) a → cell.value ≡ model query.terms (guess_of query) a cell.index
  cells_model = Cells.cells_model query.terms (guess_of query)

  pub cells_all : (a x : ℕ) → ((cell : Cell) → cell ∈ cells query.terms (guess_of query) a → cell.index ≢ x) → model query.terms (guess_of query) a x ≡ 0
  cells_all = Cells.cells_all query.terms (guess_of query)

  pub cells_ascend : (a : ℕ) → Ascend (cells query.terms (guess_of query) a)
  cells_ascend = Cells.cells_ascend query.terms (guess_of query)

  -- In a conflict, what is read off the bytes written is a lemma that holds in every interpretation of the terms and is false under the guess.
  pub conflict_rules_out : (room : ℕ) → (check w bytes room).verdict ≡ Verdict.in_conflict → Lemma w query (check w bytes room).written
  conflict_rules_out = Demands.conflict_rules_out w bytes query are_bytes loaded

  -- Demand 3. What is read off the numbers written says what is read off that lemma's bytes: at every assignment of bits to the terms, the
  -- fresh variables can be set so that all clauses hold exactly if the lemma holds. With y "equal" and z "differ" and conclusions left in it, the
  -- clauses are 2w(y+z)+1 and the variables w_b+M+wy+z: 64(y+z)+1 and 32B+M+32y+z at width 32. It holds at every assignment, hence at those that
  -- give each fixed number its value; and there it is the same as with nothing left out (`say_whole`).
  pub clauses_exactly : (room : ℕ) → (check w bytes room).verdict ≡ Verdict.in_conflict → (run_room : ℕ) → (write_clauses w bytes run_room).refusal ≡ 0
      → Clausal w query (check w bytes room).written (write_clauses w bytes run_room).written (write_clauses w bytes run_room).variables (write_clauses w bytes run_room).clauses
  clauses_exactly = Demands.clauses_exactly w bytes query are_bytes loaded

  -- So the clauses that are read off the numbers rule out the guess. There are bits that are the guess's on all given terms, they give each
  -- fixed number its value, and at them the fresh variables can't be set so that all clauses hold.
  pub guess_excluded : (room : ℕ) → (check w bytes room).verdict ≡ Verdict.in_conflict → (run_room : ℕ) → (write_clauses w bytes run_room).refusal ≡ 0
      → (clauses : List (List ℤ)) → read_run (write_clauses w bytes run_room).written ≡ some clauses
      → (bits : ℕ → Bool) × BitsOf w query (guess_of query) bits × RespectsFixed w query bits × (Settable w query bits clauses → ⊥)
  guess_excluded = AsBits.guess_excluded w bytes query are_bytes loaded

  -- And they rule out no interpretation: there are bits that are its own on all given terms, they too respect the fixed numbers, and at them
  -- the fresh variables can be so set.
  pub interpretation_admitted : (room : ℕ) → (check w bytes room).verdict ≡ Verdict.in_conflict → (run_room : ℕ) → (write_clauses w bytes run_room).refusal ≡ 0
      → (clauses : List (List ℤ)) → read_run (write_clauses w bytes run_room).written ≡ some clauses
      → (g : Assignment) (memory : Memories) → Interpretation w query.terms g memory
      → (bits : ℕ → Bool) × BitsOf w query g bits × RespectsFixed w query bits × Settable w query bits clauses
  interpretation_admitted = AsBits.interpretation_admitted w bytes query are_bytes loaded

  -- 02, E1: "Interpretations and the assignments of demand 3 are now those that give each such term its value." What bits have to respect: those
  -- of the variables w * own + 1 to w * own + w, the lowest first, are the fixed number's value.
  pub respects_fixed : (bits : ℕ → Bool)
      → RespectsFixed w query bits ↔ ((own value : ℕ) → Term.fixed own value ∈ query.terms → of_bits w (λ k. bits (w * own + k + 1)) ≡ value)
  respects_fixed bits = ((λ respects. respects), λ respects. respects)

  -- Every interpretation gives each fixed number its value, and so does the guess.
  pub interpretation_fixed : (g : Assignment) (memory : Memories) → Interpretation w query.terms g memory → GivesFixed query.terms g
  interpretation_fixed g memory valid own value here = valid.holds (Term.fixed own value) here

  pub guess_fixed : GivesFixed query.terms (guess_of query)
  guess_fixed = Verdicts.guess_fixed (accepted w bytes query are_bytes loaded)

  -- "An 'equal' or 'differ' between two fixed numbers is left out of the lemma", no other literal is, and what stays keeps its order;
  -- "a conclusion always stays".
  pub left_out_exactly : (pair : Pair) (l : Literal) → l ∈ whole_lemma query.terms (guess_of query) pair
      → (l ∈ lemma_of query pair) ↔ (BetweenFixed query.terms l → ⊥)
  left_out_exactly = Fixed.left_out_exactly query.terms (guess_of query)

  pub left_out_in_order : (pair : Pair) → lemma_of query pair ≡ keep (stays query.terms) (whole_lemma query.terms (guess_of query) pair)
  left_out_in_order = Fixed.lemma_kept query.terms (guess_of query)

  pub conclusion_stays : (pair : Pair) → Literal.conclusion pair.first.value pair.later.value ∈ lemma_of query pair
  conclusion_stays = Fixed.conclusion_stays query.terms (guess_of query)

  -- At every assignment that gives each fixed number its value the lemma says what it says with nothing left out.
  pub fixed_whole : (pair : Pair) → pair_of query ≡ some pair → (g : Assignment) → GivesFixed query.terms g
      → lemma_holds g (lemma_of query pair) ≡ lemma_holds g (whole_lemma query.terms (guess_of query) pair)
  fixed_whole = Verdicts.lemma_whole (accepted w bytes query are_bytes loaded)

  -- A query without fixed numbers is answered as before: check and clauses, with verdict, pairs, lemma and counts, are those of the lemma with
  -- nothing left out. Lookup and cells name no lemma.
  pub answered_before : ((own value : ℕ) → Term.fixed own value ∈ query.terms → ⊥) → (room : ℕ)
      → (check w bytes room ≡ check_with whole_lemma w bytes room) × (write_clauses w bytes room ≡ write_with whole_lemma w bytes room)
  answered_before = Before.answered_before w bytes query loaded

  -- Answers come. With 343 bytes the verdict is "consistent" or "conflict", with the paper's pairs. With any other room the answer is the same,
  -- or it is 10, and the answer is longer than the room.
  pub check_answered : (room : ℕ) → 343 ≤ room → IsAnswered query (check w bytes room)
  check_answered = Answered.check_answered w bytes query are_bytes loaded

  pub check_by_room : (room large : ℕ) → 343 ≤ large
      → ((room < length (check w bytes large).written) × (check w bytes room ≡ check_refused 10 0))
      ⊎ ((length (check w bytes large).written ≤ room) × (check w bytes room ≡ check w bytes large))
  check_by_room = Answered.check_by_room w bytes query are_bytes loaded

  -- Bounds: 14,496 pairs, 49 literals, 343 bytes, 12,625 numbers.
  pub bounded : Bounded w query
  bounded = Demands.bounded w bytes query are_bytes loaded

  -- Reach by computation is reach by walks.
  pub reach_by_walks : (source : Source) → source ∈ sources query.terms → (a : ℕ)
      → (reaches query.terms (guess_of query) source a ≡ true) ↔ Reaches query.terms (guess_of query) source a
  reach_by_walks = Reach.reach_agrees query.terms (numbered (accepted w bytes query are_bytes loaded)) (guess_of query)

  -- The pair count is the number of pairs (array term, source) that are reached: that of any test which tells them.
  pub pairs_reached : (test : Source → ℕ → Bool)
      → ((source : Source) → source ∈ sources query.terms → (a : ℕ) → (test source a ≡ true) ↔ Reaches query.terms (guess_of query) source a)
      → pairs_of query ≡ sum (map (λ source. count (test source) (range 0 (given array query.terms))) (sources query.terms))
  pairs_reached = Reach.pairs_agree query.terms (numbered (accepted w bytes query are_bytes loaded)) (guess_of query)

  -- The pair taken is the least first source that conflicts with a later one, and with it the least later.
  pub pair_least : (pair : Pair) → pair_of query ≡ some pair → Taken query.terms (guess_of query) (sources query.terms) pair.first pair.later
  pair_least = pair_taken (accepted w bytes query are_bytes loaded)

  -- 02, E6. Its path is a walk of open edges between the two origins; of all such walks none has fewer write edges, and none with as few has
  -- fewer edges; each step is the lowest-numbered open edge with which such a walk begins; and it has fewer edges than there are array terms.
  pub path_fewest : (pair : Pair) → pair_of query ≡ some pair → FewestPath query.terms (guess_of query) pair
  path_fewest pair found =
      let ok = accepted w bytes query are_bytes loaded in
      path_is query.terms (numbered ok) (guess_of query) pair (pair_least pair found) (arrays_bound ok)

  -- Pair count and conflicting pair are those of every cost of a step, and so as they were when every step cost 1.
  pub pairs_any_cost : (cost : Guard → ℕ) → pairs_by cost query.terms (guess_of query) ≡ pairs_of query
  pairs_any_cost cost = Costs.pairs_any cost query.terms (numbered (accepted w bytes query are_bytes loaded)) (guess_of query)

  pub pair_any_cost : (cost : Guard → ℕ) → conflict_by cost query.terms (guess_of query) ≡ pair_of query
  pair_any_cost cost = Costs.conflict_any cost query.terms (numbered (accepted w bytes query are_bytes loaded)) (guess_of query)

-- The same of the clauses at width 32, with 12,625 numbers: those of every query that no memories fit are written.
pub clauses_answered : (bytes : List ℕ) (query : Query) → AreBytes bytes → load 32 bytes ≡ Loaded.accepted query → (Consistent 32 query → ⊥)
    → (room : ℕ) → 12625 ≤ room → (write_clauses 32 bytes room).refusal ≡ 0
clauses_answered = Answered.clauses_answered

pub clauses_by_room : (bytes : List ℕ) (query : Query) → AreBytes bytes → load 32 bytes ≡ Loaded.accepted query → (room large : ℕ) → 12625 ≤ large
    → ((room < length (write_clauses 32 bytes large).written) × (write_clauses 32 bytes room ≡ write_refused 10 0))
    ⊎ ((length (write_clauses 32 bytes large).written ≤ room) × (write_clauses 32 bytes room ≡ write_clauses 32 bytes large))
clauses_by_room = Answered.clauses_by_room

-- With y "equal" and z fresh e's, the clauses are 2w(y+z)+1 and the fresh variables wy+z: 64(y+z)+1 and 32y+z at width 32.
pub clause_count : (w bases booleans : ℕ) (literals : List Literal)
    → length (clauses_of w bases booleans literals) ≡ 2 * w * (count Counts.is_equal literals + count Counts.has_e literals) + 1
clause_count = Counts.clauses_count_lem

pub fresh_count_lem : (w : ℕ) (literals : List Literal) → fresh_count w literals ≡ w * count Counts.is_equal literals + count Counts.has_e literals
fresh_count_lem = Counts.fresh_count_lem

-- 02, E1. `check_with` and `write_with` are check and clauses with any lemma; with the paper's own they are the paper's.
pub check_own_lemma : (w : ℕ) (bytes : List ℕ) (room : ℕ) → check_with lemma w bytes room ≡ check w bytes room
check_own_lemma = Parts.check_own

pub clauses_own_lemma : (w : ℕ) (bytes : List ℕ) (room : ℕ) → write_with lemma w bytes room ≡ write_clauses w bytes room
clauses_own_lemma = Parts.write_own

-- What is left out of the lemma moves neither verdict nor refusal nor pair count, for every string of bytes and every buffer of 343 bytes.
pub verdict_before : (w : ℕ) (bytes : List ℕ) → AreBytes bytes → (room : ℕ) → 343 ≤ room → Alike (check_with whole_lemma w bytes room) (check w bytes room)
verdict_before = Before.verdict_before

-- 02, E6: "The verdict, the pair and the counts don't move." `check_by` is the check with any cost of a step; with the paper's own it is the
-- paper's.
pub check_own_cost : (w : ℕ) (bytes : List ℕ) (room : ℕ) → check_by step_cost w bytes room ≡ check w bytes room
check_own_cost = Costs.check_is

module _ (cost : Guard → ℕ) (positive : (guard : Guard) → 0 < cost guard) (w : ℕ) (bytes : List ℕ) (are_bytes : AreBytes bytes) (room : ℕ) where
  -- Verdict, refusal, offset and pair count are those of every cost of at least 1, for every string of bytes and every buffer. There is one
  -- exception: a buffer of less than 343 bytes that holds one of the two lemmas and not the other. Then that other one is refused 10.
  pub check_any_cost : AlikeUnlessLong (check_by cost w bytes) (check w bytes) room
  check_any_cost = Costs.check_any cost positive w bytes are_bytes room

  -- So with a buffer that holds both lemmas, as 343 bytes do, there is none.
  pub check_any_cost_fits : length (check_by cost w bytes 343).written ≤ room → length (check w bytes 343).written ≤ room
      → Alike (check_by cost w bytes room) (check w bytes room)
  check_any_cost_fits = Costs.check_any_fits cost positive w bytes are_bytes room

  pub check_any_cost_343 : 343 ≤ room → Alike (check_by cost w bytes room) (check w bytes room)
  check_any_cost_343 = Costs.check_any_343 cost positive w bytes are_bytes room

-- 02, E7. An accepted query, and a front of it, cut between two fields: it ends where a field of the whole begins, or at its end.
module _ (w : ℕ) (bytes : List ℕ) (query : Query) (are_bytes : AreBytes bytes) (loaded : load w bytes ≡ Loaded.accepted query)
    (front : List ℕ) (cut : IsFront w front bytes) where
  -- It is accepted, and its terms and its guess are the first of the whole's.
  pub front_accepted : (part : Query) × (load w front ≡ Loaded.accepted part) × Begins part query
  front_accepted = Grown.part w bytes query are_bytes loaded front cut

  -- Walks of the front are walks of the whole.
  pub walks_stay : (part : Query) → load w front ≡ Loaded.accepted part → (source : Source) → source ∈ sources part.terms → (a : ℕ)
      → Reaches part.terms (guess_of part) source a → Reaches query.terms (guess_of query) source a
  walks_stay = Grown.walks_stay w bytes query are_bytes loaded front cut

  -- If the front is in conflict, so is the whole, with a buffer of its own that holds its lemma, as 343 bytes always do.
  pub conflict_stays : (room other : ℕ) → (check w front room).verdict ≡ Verdict.in_conflict → length (check w bytes 343).written ≤ other
      → (check w bytes other).verdict ≡ Verdict.in_conflict
  conflict_stays = Grown.conflict_stays w bytes query are_bytes loaded front cut

  pub conflict_stays_343 : (room other : ℕ) → (check w front room).verdict ≡ Verdict.in_conflict → 343 ≤ other → (check w bytes other).verdict ≡ Verdict.in_conflict
  conflict_stays_343 = Grown.conflict_stays_343 w bytes query are_bytes loaded front cut

  -- If the whole is consistent, so is the front, and memories that fit the whole fit the front: those that the lookup gives are such.
  pub consistent_fronts : (room other : ℕ) → (check w bytes room).verdict ≡ Verdict.consistent → (check w front other).verdict ≡ Verdict.consistent
  consistent_fronts = Grown.consistent_fronts w bytes query are_bytes loaded front cut

  pub lookup_interprets_front : (part : Query) → load w front ≡ Loaded.accepted part → (room : ℕ) → (check w bytes room).verdict ≡ Verdict.consistent
      → Interpretation w part.terms (guess_of part) (λ a x. (look w bytes a x).value)
  lookup_interprets_front part is room quiet =
      Grown.memories_fit w bytes query are_bytes loaded front cut part is (λ a x. (look w bytes a x).value) (lookup_interprets w bytes query are_bytes loaded room quiet)

  -- What is read off the bytes written for the front holds in every interpretation of the whole's terms and is false under the whole's guess.
  pub front_rules_out : (room : ℕ) → (check w front room).verdict ≡ Verdict.in_conflict → Lemma w query (check w front room).written
  front_rules_out = Grown.front_rules_out w bytes query are_bytes loaded front cut

-- An accepted string of bytes is a front of every string that begins with it: the cuts of an accepted query are where its fronts are accepted.
pub accepted_front : (w : ℕ) (front rest : List ℕ) (part : Query) → load w front ≡ Loaded.accepted part → IsFront w front (front ++ rest)
accepted_front = Begins.accepted_front

-- "Growing a query can't mend it": whatever bytes are put after a query in conflict, the verdict is never "consistent", whatever the buffers.
pub never_mended : (w : ℕ) (front rest : List ℕ) → AreBytes (front ++ rest) → (room other : ℕ) → (check w front room).verdict ≡ Verdict.in_conflict
    → (check w (front ++ rest) other).verdict ≡ Verdict.consistent → ⊥
never_mended = Grown.never_mended
