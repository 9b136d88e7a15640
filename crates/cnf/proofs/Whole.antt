-- How the clauses of all literals fall into what is written literal by literal.
-- Assumes nothing.
use Prim.Native.Nat.{ℕ, ◌+◌, ◌<◌}
use native.Mathlib.Numerals.{add-one}
use mathlib.Core.Path.{◌≡◌, refl, ap, ◌∙◌}
use mathlib.Core.List.{List, [], ◌∷◌, ◌++◌, append_assoc, append-nil, map-append}
use lib.IntN.{ℤ, pos}
use lib.ListN.{length, get_or, drop, length-append}
use lib.Seq.{drop-cons}
use Rattle.paper.specs.Lists.{concat_map}
use Rattle.paper.specs.Clauses.{Signed, Gadget, gadget, gadgets, named_clauses, clauses_of, run}
use Rattle.meaning.proofs.Lists.{concat_map_append}
use Rattle.meaning.proofs.Mapped.{concat_map_concat_map, concat_map_map}
use Rattle.lemma.specs.Rows.{literal_in, literals_of}
use Rattle.lemma.specs.declared.rows.Literal.{Literal}
use Rattle.lemma.specs.declared.rows.Literal.TheVariants.{Equal}
use Rattle.cnf.specs.declared.numbers.Sizes.{Sizes}
use Rattle.cnf.specs.declared.literal.Rank.TheVariants.{Boolean, Difference, Agreement}
use Rattle.cnf.specs.declared.literal.Part.{Part}
use Rattle.cnf.specs.declared.literal.Part.TheVariants.{Clauses, Links}
use Rattle.cnf.specs.Parts.{numbers_of, part_of, all_of, linking_of}

-- the rows from k on, of which row k is the first
pub rows_step : (rows : List Literal) (k : ℕ) → k < length rows → drop k rows ≡ get_or rows k (Equal 0 0) ∷ drop (k + 1) rows
rows_step rows k h = rw add-one (drop-cons rows k (Equal 0 0) h)

-- what a row's literal brings, its first fresh variable being n
abbrev pub gadget_at : (w : ℕ) → Literal → (n : ℕ) → Gadget
gadget_at w row n = gadget w n (literal_in row)

-- a part of what rows' literals bring, the first with fresh variable n
abbrev pub parts_from : Sizes → Part → (n : ℕ) → (rows : List Literal) → List ℤ
parts_from sizes part n rows = concat_map (part_of sizes part) (gadgets sizes.width n (literals_of rows))

pub parts_step : (sizes : Sizes) (part : Part) (n : ℕ) (rows : List Literal) (k : ℕ) → k < length rows
    → parts_from sizes part n (drop k rows)
    ≡ part_of sizes part (gadget_at sizes.width (get_or rows k (Equal 0 0)) n) ++ parts_from sizes part (n + (gadget_at sizes.width (get_or rows k (Equal 0 0)) n).freshes) (drop (k + 1) rows)
parts_step sizes part n rows k h = rw (rows_step rows k h)

-- the links of a rank, in numbers, are that part of all literals
numbers_joined : (sizes : Sizes) {A : Type 0} (f : A → List Signed) (xs : List A) → numbers_of sizes (concat_map f xs) ≡ concat_map (λ x. numbers_of sizes (f x)) xs
numbers_joined sizes f [] = refl
numbers_joined sizes f (x ∷ xs) = map-append _ (f x) (concat_map f xs) ∙ rw (numbers_joined sizes f xs)

pub linking_parts : (sizes : Sizes) (rows : List Literal)
    → linking_of sizes rows ≡ all_of sizes (Links Boolean) rows ++ (all_of sizes (Links Difference) rows ++ (all_of sizes (Links Agreement) rows ++ (pos 0 ∷ [])))
linking_parts sizes rows = simp (map-append, numbers_joined sizes, append_assoc)

pub linking_fit : (sizes : Sizes) (rows : List Literal)
    → length (linking_of sizes rows) ≡ length (all_of sizes (Links Boolean) rows) + (length (all_of sizes (Links Difference) rows) + (length (all_of sizes (Links Agreement) rows) + 1))
linking_fit sizes rows = ap (λ (numbers : List ℤ). length numbers) (linking_parts sizes rows) ∙ simp length-append

-- all clauses are each literal's clauses, and the linking clause
pub run_parts : (sizes : Sizes) (rows : List Literal) → run (clauses_of sizes.width sizes.bases sizes.booleans (literals_of rows)) ≡ all_of sizes Clauses rows ++ linking_of sizes rows
unfolding clauses_of named_clauses
run_parts sizes rows = simp (concat_map_map, concat_map_append, concat_map_concat_map, append-nil)

pub clauses_fit : (sizes : Sizes) (rows : List Literal) → length (run (clauses_of sizes.width sizes.bases sizes.booleans (literals_of rows))) ≡ length (all_of sizes Clauses rows) + length (linking_of sizes rows)
clauses_fit sizes rows = ap (λ (numbers : List ℤ). length numbers) (run_parts sizes rows) ∙ length-append (all_of sizes Clauses rows) (linking_of sizes rows)
