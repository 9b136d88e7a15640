-- How many clauses, fresh variables, numbers and bytes a lemma takes (01, The clauses and The lemma), by how many literals of each kind
-- it has: over the width w, and at width 32 the paper's figures.
-- Assumes nothing.
use Prim.Native.Nat.{ℕ, ◌+◌, ◌*◌, ◌≤◌}
use native.Mathlib.Omega.{arith}
use mathlib.Core.Path.{◌≡◌, refl, ◌∙◌}
use mathlib.Core.Bool.{Bool, true, false, cond}
use mathlib.Core.List.{List, [], ◌∷◌, ◌++◌, map}
use lib.Dec.{eqb}
use lib.IntN.{ℤ, pos}
use lib.ListN.{length, length-append, length-map}
use Rattle.paper.specs.Lists.{count, concat_map, range, sum}
use Rattle.paper.specs.Lemma.{Literal, lemma_bytes}
use Rattle.paper.specs.Clauses.{boolean, Signed, plus, minus, Clause, Gadget, differing, agreeing, some_differs, all_agree, reversed, gadgets, links_of, named_clauses, fresh_count, signed_number, clauses_of, run}
use Rattle.meaning.proofs.Lists.{range_length, concat_map_append}
use Rattle.meaning.proofs.Mapped.{length_concat_map, concat_map_concat_map, concat_map_map, length_over_range}

-- the literals by kind: "equal"; those with an e, "differ" and the conclusion; and the Boolean ones
abbrev pub is_equal : Literal → Bool
is_equal (Literal.equal i j) = true
is_equal (Literal.differ i j) = false
is_equal (Literal.is_true m) = false
is_equal (Literal.is_false m) = false
is_equal (Literal.conclusion v u) = false

abbrev pub has_e : Literal → Bool
has_e (Literal.equal i j) = false
has_e (Literal.differ i j) = true
has_e (Literal.is_true m) = false
has_e (Literal.is_false m) = false
has_e (Literal.conclusion v u) = true

abbrev pub is_boolean : Literal → Bool
is_boolean (Literal.equal i j) = false
is_boolean (Literal.differ i j) = false
is_boolean (Literal.is_true m) = true
is_boolean (Literal.is_false m) = true
is_boolean (Literal.conclusion v u) = false

-- every literal is of one kind
kinds : (literals : List Literal) → count is_equal literals + count has_e literals + count is_boolean literals ≡ length literals
kinds [] = refl
kinds (Literal.equal i j ∷ literals) = omega (arith, kinds literals)
kinds (Literal.differ i j ∷ literals) = omega (arith, kinds literals)
kinds (Literal.is_true m ∷ literals) = omega (arith, kinds literals)
kinds (Literal.is_false m ∷ literals) = omega (arith, kinds literals)
kinds (Literal.conclusion v u ∷ literals) = omega (arith, kinds literals)

-- what a measure of gadgets is for each kind: d for "equal", e for those with an e, r for the Boolean ones
abbrev Measures : (w : ℕ) (measure : Gadget → ℕ) (d e r : ℕ) → Type 0
Measures w measure d e r =
    ((i j n : ℕ) → measure (some_differs w i j n) ≡ d) × ((v u n : ℕ) → measure (all_agree w v u n) ≡ e) × ((s : Signed) → measure (reversed s) ≡ r)

-- the sum over literals that count so much by kind
abbrev weighed : (d e r : ℕ) → List Literal → ℕ
weighed d e r literals = d * count is_equal literals + e * count has_e literals + r * count is_boolean literals

-- a measure of all gadgets, from what it is for each kind
total : (w : ℕ) (measure : Gadget → ℕ) (d e r : ℕ) → Measures w measure d e r → (n : ℕ) (literals : List Literal) → sum (map measure (gadgets w n literals)) ≡ weighed d e r literals
total w measure d e r each n [] = omega arith
total w measure d e r each n (Literal.equal i j ∷ literals) = omega (arith, each.0 i j n, total w measure d e r each (n + w) literals)
total w measure d e r each n (Literal.differ i j ∷ literals) = omega (arith, each.1 i j n, total w measure d e r each (n + 1) literals)
total w measure d e r each n (Literal.is_true m ∷ literals) = omega (arith, each.2 (minus (boolean m)), total w measure d e r each (n + 0) literals)
total w measure d e r each n (Literal.is_false m ∷ literals) = omega (arith, each.2 (plus (boolean m)), total w measure d e r each (n + 0) literals)
total w measure d e r each n (Literal.conclusion v u ∷ literals) = omega (arith, each.1 v u n, total w measure d e r each (n + 1) literals)

-- the length of what is joined of all gadgets, likewise
total_length : {A : Type 0} (w : ℕ) (part : Gadget → List A) (d e r : ℕ) → Measures w (λ one. length (part one)) d e r → (literals : List Literal) → length (concat_map part (gadgets w 0 literals)) ≡ weighed d e r literals
total_length w part d e r each literals = length_concat_map part (gadgets w 0 literals) ∙ total w (λ one. length (part one)) d e r each 0 literals

-- two clauses for each bit of each gadget that has clauses, and the linking clause
pub clauses_count_lem : (w bases booleans : ℕ) (literals : List Literal) → length (clauses_of w bases booleans literals) ≡ 2 * w * (count is_equal literals + count has_e literals) + 1
unfolding clauses_of named_clauses
clauses_count_lem w bases booleans literals =
    simp (length-map, length-append) (omega (
      arith,
      total_length w (λ one. one.clauses) (2 * w) (2 * w) 0
          (λ i j n. length_over_range (differing i j n) 2 0 w (λ k. refl), λ v u n. length_over_range (agreeing v u n) 2 0 w (λ k. refl), λ s. refl) literals,
    ))

-- w fresh variables for "equal", one for each e
pub fresh_count_lem : (w : ℕ) (literals : List Literal) → fresh_count w literals ≡ w * count is_equal literals + count has_e literals
unfolding fresh_count
fresh_count_lem w literals = omega (arith, total w (λ one. one.freshes) w 1 0 (λ i j n. refl, λ v u n. refl, λ s. refl) 0 literals)

-- the linking clause has each Boolean literal, w d for "equal" and one e for each of the others
links_count : (w : ℕ) (literals : List Literal)
    → length (links_of 0 (gadgets w 0 literals)) + length (links_of 1 (gadgets w 0 literals)) + length (links_of 2 (gadgets w 0 literals))
    ≡ count is_boolean literals + w * count is_equal literals + count has_e literals
links_count w literals =
    omega (
      arith,
      total_length w (λ one. cond (eqb one.rank 0) one.link []) 0 0 1 (λ i j n. refl, λ v u n. refl, λ s. refl) literals,
      total_length w (λ one. cond (eqb one.rank 1) one.link []) w 0 0 (λ i j n. simp length-map (range_length 0 w), λ v u n. refl, λ s. refl) literals,
      total_length w (λ one. cond (eqb one.rank 2) one.link []) 0 1 0 (λ i j n. refl, λ v u n. refl, λ s. refl) literals,
    )

-- a run has four numbers for each clause of a bit, and the linking clause with its 0
pub numbers_count : (w bases booleans : ℕ) (literals : List Literal)
    → length (run (clauses_of w bases booleans literals))
    ≡ 8 * w * (count is_equal literals + count has_e literals) + (count is_boolean literals + w * count is_equal literals + count has_e literals) + 1
unfolding clauses_of named_clauses
numbers_count w bases booleans literals =
    simp (concat_map_map, concat_map_append, concat_map_concat_map, length-append, length-map)
    (omega (
      arith,
      links_count w literals,
      total_length w (λ one. concat_map closed one.clauses) (8 * w) (8 * w) 0
          (λ i j n. eight (differing i j n) (λ k. refl), λ v u n. eight (agreeing v u n) (λ k. refl), λ s. refl) literals,
    ))
  where
    closed : Clause → List ℤ
    closed clause = map (signed_number w bases booleans) clause ++ (pos 0 ∷ [])

    eight : (f : ℕ → List Clause) → ((k : ℕ) → length (concat_map closed (f k)) ≡ 8) → length (concat_map closed (concat_map f (range 0 w))) ≡ 8 * w
    eight f each = rw concat_map_concat_map (length_over_range (λ k. concat_map closed (f k)) 8 0 w each)

-- At 32 bits: "there are 64(y+z)+1 clauses"
pub clauses_count_32 : (bases booleans : ℕ) (literals : List Literal) → length (clauses_of 32 bases booleans literals) ≡ 64 * (count is_equal literals + count has_e literals) + 1
clauses_count_32 = clauses_count_lem 32

-- "and 32y+z fresh variables"
pub fresh_count_32 : (literals : List Literal) → fresh_count 32 literals ≡ 32 * count is_equal literals + count has_e literals
fresh_count_32 = fresh_count_lem 32

-- "at most 12,625 numbers", if there is at most one "equal" and there are at most 49 literals
pub numbers_at_most : (bases booleans : ℕ) (literals : List Literal) → count is_equal literals ≤ 1 → length literals ≤ 49 → length (run (clauses_of 32 bases booleans literals)) ≤ 12625
numbers_at_most bases booleans literals one few = omega (arith, numbers_count 32 bases booleans literals, kinds literals)

-- a literal's field has at most seven bytes: 343 bytes for 49 literals
pub bytes_at_most : (literals : List Literal) → length (lemma_bytes literals) ≤ 7 * length literals
bytes_at_most [] = omega arith
bytes_at_most (Literal.equal i j ∷ literals) = omega (arith, bytes_at_most literals)
bytes_at_most (Literal.differ i j ∷ literals) = omega (arith, bytes_at_most literals)
bytes_at_most (Literal.is_true m ∷ literals) = omega (arith, bytes_at_most literals)
bytes_at_most (Literal.is_false m ∷ literals) = omega (arith, bytes_at_most literals)
bytes_at_most (Literal.conclusion v u ∷ literals) = omega (arith, bytes_at_most literals)
