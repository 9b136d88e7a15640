-- The rows of the table of known queries: what is called, and what it is to answer, spelled out.
-- Assumes nothing.
use Prim.Native.Nat.{ℕ}
use mathlib.Core.Bool.{Bool}
use mathlib.Core.List.{List, [], ◌∷◌, ◌++◌, map}
use mathlib.Core.Option.{Option}
use lib.IntN.{ℤ, pos}
use lib.ListN.{length, take}
use Rattle.paper.specs.Load.{Loaded}
use Rattle.paper.specs.Lemma.{Literal}
use Rattle.paper.specs.Cells.{Cell}
use Rattle.paper.specs.Fronts.{cuts}
use Rattle.paper.specs.Answers.{Verdict, Checked, Looked, Listed, Written, check, look, list, write_clauses}

-- what a call answers, or a definition gives; of the clause writer, where that is enough, how many numbers and not which
pub data Answer : Type 0 where
  checked : Checked → Answer
  looked : Looked → Answer
  listed : Listed → Answer
  written : Written → Answer
  counted : (refusal offset variables clauses numbers : ℕ) → Answer
  bytes_are : List ℕ → Answer
  literals_are : Option (List Literal) → Answer
  clauses_are : Option (List (List ℤ)) → Answer
  loaded_as : Loaded → Answer
  value_is : ℕ → Answer
  truth_is : Bool → Answer
  places_are : List ℕ → Answer
  verdicts_are : List Verdict → Answer

unfoldable pub count : Written → Answer
count answer = counted answer.refusal answer.offset answer.variables answer.clauses (length answer.written)

-- A row of the table: what is called, and what 01 says
infix 10 ◌is◌
pub data Row : Type 0 where
  ◌is◌ : (answers says : Answer) → Row

module _ (bytes : List ℕ) where
  -- the check, with room for so many bytes
  unfoldable pub consistent_in : (room pairs : ℕ) → Row
  consistent_in room pairs =
      checked (check 32 bytes room) is checked (record { verdict = Verdict.consistent; refusal = 0; offset = 0; pairs = pairs; written = [] })

  unfoldable pub conflict_in : (room pairs : ℕ) → (lemma : List ℕ) → Row
  conflict_in room pairs lemma =
      checked (check 32 bytes room) is checked (record { verdict = Verdict.in_conflict; refusal = 0; offset = 0; pairs = pairs; written = lemma })

  unfoldable pub refused_in : (room refusal offset : ℕ) → Row
  refused_in room refusal offset =
      checked (check 32 bytes room) is checked (record { verdict = Verdict.refused; refusal = refusal; offset = offset; pairs = 0; written = [] })

  -- with the room that always suffices
  abbrev pub consistent : (pairs : ℕ) → Row
  consistent pairs = consistent_in 343 pairs

  abbrev pub conflict_of : (pairs : ℕ) → (lemma : List ℕ) → Row
  conflict_of pairs lemma = conflict_in 343 pairs lemma

  abbrev pub refused : (refusal offset : ℕ) → Row
  refused refusal offset = refused_in 343 refusal offset

  unfoldable pub cell : (array index value : ℕ) → Row
  cell array index value = looked (look 32 bytes array index) is looked (record { refusal = 0; offset = 0; value = value })

  unfoldable pub no_cell : (array index refusal offset : ℕ) → Row
  no_cell array index refusal offset =
      looked (look 32 bytes array index) is looked (record { refusal = refusal; offset = offset; value = 0 })

  -- the cells of one array, with room for so many
  unfoldable pub cells_in : (room array : ℕ) → List Cell → Row
  cells_in room array cells = listed (list 32 bytes array room) is listed (record { refusal = 0; offset = 0; listed = cells })

  unfoldable pub no_cells : (room array refusal offset : ℕ) → Row
  no_cells room array refusal offset = listed (list 32 bytes array room) is listed (record { refusal = refusal; offset = offset; listed = [] })

  -- the clause writer, with room for so many numbers
  unfoldable pub clauses_count : (clauses variables numbers : ℕ) → Row
  unfolding count
  clauses_count clauses variables numbers = count (write_clauses 32 bytes 12625) is counted 0 0 variables clauses numbers

  unfoldable pub clauses_in : (room clauses variables : ℕ) → List ℤ → Row
  clauses_in room clauses variables numbers =
      written (write_clauses 32 bytes room) is written (record { refusal = 0; offset = 0; variables = variables; clauses = clauses; written = numbers })

  unfoldable pub no_clauses : (room refusal offset : ℕ) → Row
  no_clauses room refusal offset =
      written (write_clauses 32 bytes room) is written (record { refusal = refusal; offset = offset; variables = 0; clauses = 0; written = [] })

  -- 02, E7: the places where it can be cut, and the verdicts on its fronts, shortest first
  unfoldable pub cut_at : List ℕ → Row
  cut_at places = places_are (cuts 32 bytes) is places_are places

  unfoldable pub fronts : List Verdict → Row
  fronts verdicts = verdicts_are (map (λ n. (check 32 (take n bytes) 343).verdict) (cuts 32 bytes)) is verdicts_are verdicts

-- "each clause closed by 0": numbers below zero are those of `negsuc`, whose 0 is -1
abbrev pub closed : List ℤ → List ℤ
closed clause = clause ++ (pos 0 ∷ [])
