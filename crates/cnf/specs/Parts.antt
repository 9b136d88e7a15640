-- The pieces in which the clauses (01, The clauses) are written: what a store of a run leaves, a clause with its 0, the two clauses of a
-- bit, and what a literal brings, by parts.
-- Assumes nothing.
use Rattle.std.specs.Prelude.{ℕ, ◌+◌, ◌≤◌, ◌≡◌, cond, List, [], ◌∷◌, ◌++◌, map, eqb, ℤ, pos, length, get_or}
use Rattle.std.proofs.lemmas.List.Edits.{sets}
use Rattle.paper.specs.Lists.{concat_map, range}
use Rattle.paper.specs.Clauses.{plus, fresh, Clause, Gadget, differing, agreeing, gadget, gadgets, linking, signed_number, clauses_of}
use Rattle.lemma.specs.Rows.{literal_in, literals_of}
use Rattle.cnf.specs.declared.numbers.Sizes.{Sizes}
use Rattle.cnf.specs.declared.numbers.Run.{Run}
use Rattle.lemma.specs.declared.rows.Literal.{Literal}
use Rattle.lemma.specs.declared.rows.Literal.TheVariants.{Equal, Differ, IsTrue, IsFalse, Conclusion}
use Rattle.cnf.specs.declared.literal.Rank.{Rank}
use Rattle.cnf.specs.declared.literal.Rank.TheVariants.{Boolean, Difference, Agreement}
use Rattle.cnf.specs.declared.literal.Part.{Part}
use Rattle.cnf.specs.declared.literal.Part.TheVariants.{Clauses, Links}
use Rattle.cnf.specs.declared.placed.Placed.{Placed}

-- A piece was stored from a place on, and nothing else: what is there after it, and the next place
pub record Put (before after : List ℤ) (at next : ℕ) (piece : List ℤ) : Type 0 where
  pub stored : after ≡ sets before at piece
  pub passed : next ≡ at + length piece

-- There is room for a piece in the run; and it was put there, the run being the same one and as long
abbrev pub Room : Run → (piece : List ℤ) → Type 0
Room run piece = run.at + length piece ≤ length run.numbers.now

pub record Wrote (before after : Run) (piece : List ℤ) : Type 0 where
  pub put : Put before.numbers.now after.numbers.now before.at after.at piece
  pub same_run : after.numbers.ghost_name ≡ before.numbers.ghost_name
  pub same_length : length after.numbers.now ≡ length before.numbers.now

-- a clause in numbers, and closed by 0
abbrev pub numbers_of : Sizes → Clause → List ℤ
numbers_of sizes clause = map (signed_number sizes.width sizes.bases sizes.booleans) clause

abbrev pub closed : Sizes → Clause → List ℤ
closed sizes clause = numbers_of sizes clause ++ (pos 0 ∷ [])

-- the two clauses of bit k of a literal that compares; a Boolean's, which nobody puts, are those of one that compares it with term 0
abbrev pub clauses_of_bit : Literal → (n k : ℕ) → List Clause
clauses_of_bit (Equal i j) n k = differing i j n k
clauses_of_bit (Differ i j) n k = agreeing i j n k
clauses_of_bit (IsTrue m) n k = agreeing m 0 n k
clauses_of_bit (IsFalse m) n k = agreeing m 0 n k
clauses_of_bit (Conclusion v w) n k = agreeing v w n k

abbrev pub bit_clauses : Placed → (k : ℕ) → List Clause
bit_clauses placed k = clauses_of_bit placed.literal placed.fresh k

-- a literal that is no Boolean
abbrev pub Compares : Literal → Type 0
Compares (IsTrue m) = ⊥
Compares (IsFalse m) = ⊥
Compares (Equal i j) = Unit {0}
Compares (Differ i j) = Unit {0}
Compares (Conclusion v w) = Unit {0}

-- its clauses, bit by bit
abbrev pub bit_numbers : Sizes → Placed → List ℤ
bit_numbers sizes placed = concat_map (closed sizes) (concat_map (bit_clauses placed) (range 0 sizes.width))

-- the d of an "equal" whose first is fresh variable n
abbrev pub differences : Sizes → (n : ℕ) → List ℤ
differences sizes n = numbers_of sizes (map (λ k. plus (fresh (n + k))) (range 0 sizes.width))

-- what a literal brings
abbrev pub gadget_of : (w : ℕ) → Placed → Gadget
gadget_of w placed = gadget w placed.fresh (literal_in placed.literal)

-- the ranks of the linking clause
abbrev pub rank_number : Rank → ℕ
rank_number Boolean = 0
rank_number Difference = 1
rank_number Agreement = 2

-- a part of what a literal brings, in numbers: its clauses, or its link if that is of the rank
abbrev pub part_of : Sizes → Part → Gadget → List ℤ
part_of sizes Clauses one = concat_map (closed sizes) one.clauses
part_of sizes (Links rank) one = numbers_of sizes (cond (eqb one.rank (rank_number rank)) one.link [])

-- that part of all literals, in order
abbrev pub all_of : Sizes → Part → (rows : List Literal) → List ℤ
all_of sizes part rows = concat_map (part_of sizes part) (gadgets sizes.width 0 (literals_of rows))

-- the linking clause
abbrev pub linking_of : Sizes → (rows : List Literal) → List ℤ
linking_of sizes rows = closed sizes (linking (gadgets sizes.width 0 (literals_of rows)))

-- clause n, counted from 0, closed by 0
abbrev pub clause_of : (w bases booleans : ℕ) → (rows : List Literal) → (n : ℕ) → List ℤ
clause_of w bases booleans rows n = get_or (clauses_of w bases booleans (literals_of rows)) n [] ++ (pos 0 ∷ [])
