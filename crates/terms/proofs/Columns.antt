-- The parts of what the tables hold, where one term more is given: a column that stays or gets a cell, the counts, the reads.
-- Assumes nothing.
use Prim.Native.Nat.{ℕ, ◌+◌, ◌/◌, ◌%◌, ◌<◌, ◌≤◌}
use native.Mathlib.Nat.{add-zero}
use native.Mathlib.Numerals.{add-one}
use native.Mathlib.Omega.{arith}
use mathlib.Core.Path.{◌≡◌, refl, sym, ap, ap₂, ◌∙◌}
use mathlib.Core.Logic.{◌≢◌}
use mathlib.Core.Bool.{Bool, true, false, cond, ◌&&◌, ◌||◌, or-false}
use mathlib.Core.List.{List, [], ◌∷◌, ◌++◌, map, append-nil}
use mathlib.Core.Option.{Option, none, some}
use lib.Dec.{eqb}
use lib.ListN.{get_or, set, take, length-set, get_or-map}
use lib.Seq.{get_or-set_same, get_or-set_other, get_or-take, take-suc-set}
use borrow.Author.Tests.{eqb-true, eqb-false, ne_eqb}
use Rattle.paper.specs.Lists.{any, or_else, concat_map}
use Rattle.paper.specs.Fields.{Series, base, boolean, array}
use Rattle.paper.specs.Terms.{Term, series, same_series, given, fixes, is_fixed}
use Rattle.paper.specs.Load.{read_index, witness_index}
use Rattle.paper.specs.Edges.{source_of, sources, edge_of, edges}
use Rattle.meaning.proofs.Lists.{concat_map_append}
use Rattle.meaning.proofs.Placed.{given_append}
use Rattle.faults.specs.declared.Counts.{Counts}
use Rattle.terms.specs.Tables.{fixed_mark, fixed_in}
use Rattle.faults.specs.Faults.{count_in}
use Rattle.terms.specs.Holds.{Column, Counted, ReadsFound, as_is, as_true}

module _ {A : Type 0} {size : ℕ} {says : ℕ → List A} {n : ℕ} {cells : List ℕ} {list : List A} (column : Column size says n cells list) where
  -- a column that stays
  pub kept : Column size says n cells (list ++ [])
  kept = record { long = column.long; same = column.same ∙ sym (append-nil list) }

  -- a column with one cell more
  pub pushed : (x : ℕ) {new : List A} → n < size → says x ≡ new → Column size says (n + 1) (set cells n x) (list ++ new)
  pushed x {new} room is =
      record {
        long = length-set cells n x ∙ column.long;
        same = ap (λ (m : ℕ). concat_map says (take m (set cells n x))) (add-one n)
            ∙ ap (concat_map says) (take-suc-set cells n x (omega (arith, column.long)))
            ∙ concat_map_append says (take n cells) (x ∷ [])
            ∙ ap₂ ◌++◌ column.same (append-nil (says x) ∙ is);
      }

-- a cell of the guess is that of its column
pub each_as : {A : Type 0} (f : ℕ → A) (xs : List ℕ) → concat_map (λ x. f x ∷ []) xs ≡ map f xs
each_as f [] = refl
each_as {A} f (x ∷ xs) = ap (λ (ys : List A). f x ∷ ys) (each_as f xs)

each_is : (xs : List ℕ) → concat_map as_is xs ≡ xs
each_is [] = refl
each_is (x ∷ xs) = ap (λ (ys : List ℕ). x ∷ ys) (each_is xs)

pub value_at_lem : {size n : ℕ} {cells list : List ℕ} → Column size as_is n cells list → (b : ℕ) → b < n → get_or cells b 0 ≡ get_or list b 0
value_at_lem {size} {n} {cells} {list} column b below =
    sym (get_or-take n cells b 0 below) ∙ ap (λ (xs : List ℕ). get_or xs b 0) (sym (each_is (take n cells)) ∙ column.same)

pub truth_at : {size n : ℕ} {cells : List ℕ} {list : List Bool} → Column size as_true n cells list → (m : ℕ) → m < n → eqb 1 (get_or cells m 0) ≡ get_or list m false
truth_at {size} {n} {cells} {list} column m below =
    ap (eqb 1) (sym (get_or-take n cells m 0 below)) ∙ sym (get_or-map (eqb 1) (take n cells) m 0)
    ∙ ap (λ (xs : List Bool). get_or xs m false) (sym (each_as (eqb 1) (take n cells)) ∙ column.same)

-- the sources and edges of one term more
pub sources_more : (terms : List Term) (term : Term) → sources (terms ++ (term ∷ [])) ≡ sources terms ++ source_of term
unfolding sources
sources_more terms term = concat_map_append source_of terms (term ∷ []) ∙ ap (λ new. concat_map source_of terms ++ new) (append-nil (source_of term))

pub edges_more : (terms : List Term) (term : Term) → edges (terms ++ (term ∷ [])) ≡ edges terms ++ edge_of term
unfolding edges
edges_more terms term = concat_map_append edge_of terms (term ∷ []) ∙ ap (λ new. concat_map edge_of terms ++ new) (append-nil (edge_of term))

-- what one term counts
given_one : (s : Series) (term : Term) → given s (term ∷ []) ≡ cond (same_series s (series term)) 1 0
unfolding given
given_one s term = add-zero _

-- the counts with one term more of a series
module _ {c : Counts} {terms : List Term} (held : Counted c terms) (term : Term) where
  more : (s : Series) → given s (terms ++ (term ∷ [])) ≡ count_in c s + cond (same_series s (series term)) 1 0
  more s = given_append s terms (term ∷ []) ∙ ap₂ ◌+◌ (held.given_as s) (given_one s term)

  pub base_more : series term ≡ base → c.bases < 256 → (sources edges : ℕ) → sources ≤ c.bases + 1 + c.arrays → edges ≤ c.booleans + c.arrays
      → Counted (record { bases = c.bases + 1; booleans = c.booleans; arrays = c.arrays; sources = sources; edges = edges }) (terms ++ (term ∷ []))
  base_more is room sources edges few_sources few_edges =
      record {
        given_as = λ s. more s ∙ ap (λ (r : Series). count_in c s + cond (same_series s r) 1 0) is ∙ go s;
        bases_most = omega arith;
        booleans_most = held.booleans_most;
        arrays_most = held.arrays_most;
        few_sources = few_sources;
        few_edges = few_edges;
      }
    where
      go : (s : Series) → count_in c s + cond (same_series s base) 1 0 ≡ count_in (record { bases = c.bases + 1; booleans = c.booleans; arrays = c.arrays; sources = sources; edges = edges }) s
      go base = refl
      go boolean = omega arith
      go array = omega arith

  pub boolean_more : series term ≡ boolean → c.booleans < 64 → (sources edges : ℕ) → sources ≤ c.bases + c.arrays → edges ≤ c.booleans + 1 + c.arrays
      → Counted (record { bases = c.bases; booleans = c.booleans + 1; arrays = c.arrays; sources = sources; edges = edges }) (terms ++ (term ∷ []))
  boolean_more is room sources edges few_sources few_edges =
      record {
        given_as = λ s. more s ∙ ap (λ (r : Series). count_in c s + cond (same_series s r) 1 0) is ∙ go s;
        bases_most = held.bases_most;
        booleans_most = omega arith;
        arrays_most = held.arrays_most;
        few_sources = few_sources;
        few_edges = few_edges;
      }
    where
      go : (s : Series) → count_in c s + cond (same_series s boolean) 1 0 ≡ count_in (record { bases = c.bases; booleans = c.booleans + 1; arrays = c.arrays; sources = sources; edges = edges }) s
      go base = omega arith
      go boolean = refl
      go array = omega arith

  pub array_more : series term ≡ array → c.arrays < 48 → (sources edges : ℕ) → sources ≤ c.bases + (c.arrays + 1) → edges ≤ c.booleans + (c.arrays + 1)
      → Counted (record { bases = c.bases; booleans = c.booleans; arrays = c.arrays + 1; sources = sources; edges = edges }) (terms ++ (term ∷ []))
  array_more is room sources edges few_sources few_edges =
      record {
        given_as = λ s. more s ∙ ap (λ (r : Series). count_in c s + cond (same_series s r) 1 0) is ∙ go s;
        bases_most = held.bases_most;
        booleans_most = held.booleans_most;
        arrays_most = omega arith;
        few_sources = few_sources;
        few_edges = few_edges;
      }
    where
      go : (s : Series) → count_in c s + cond (same_series s array) 1 0 ≡ count_in (record { bases = c.bases; booleans = c.booleans; arrays = c.arrays + 1; sources = sources; edges = edges }) s
      go base = omega arith
      go boolean = omega arith
      go array = refl

-- what comes last changes nothing where nothing is found there
or_none : (found : Option ℕ) → or_else found none ≡ found
or_none none = refl
or_none (some i) = refl

-- the read that gives a base term, in two runs of terms
witness_append : (before after : List Term) (b a : ℕ) → witness_index (before ++ after) b a ≡ or_else (witness_index before b a) (witness_index after b a)
witness_append [] after b a = refl
witness_append (term ∷ before) after b a = go (read_index b a term) (witness_append before after b a)
  where
    go : (found : Option ℕ) → witness_index (before ++ after) b a ≡ or_else (witness_index before b a) (witness_index after b a)
        → or_else found (witness_index (before ++ after) b a) ≡ or_else (or_else found (witness_index before b a)) (witness_index after b a)
    go none below = below
    go (some i) below = refl

-- the fixed numbers with one term more
fixed_append : (terms : List Term) (term : Term) (b : ℕ) → is_fixed (terms ++ (term ∷ [])) b ≡ (is_fixed terms b || fixes b term)
unfolding is_fixed
fixed_append [] term b = or-false (fixes b term)
fixed_append (first ∷ terms) term b = go (fixes b first) (fixed_append terms term b)
  where
    go : (here : Bool) → any (fixes b) (terms ++ (term ∷ [])) ≡ (any (fixes b) terms || fixes b term)
        → (here || any (fixes b) (terms ++ (term ∷ []))) ≡ ((here || any (fixes b) terms) || fixes b term)
    go true below = refl
    go false below = below

-- the reads with one term more
module _ {bases : ℕ} {reads : List ℕ} {terms : List Term} (held : ReadsFound bases reads terms) (term : Term) where
  pub no_read_more : ((b a : ℕ) → read_index b a term ≡ none) → ((b : ℕ) → fixes b term ≡ false) → ReadsFound bases reads (terms ++ (term ∷ []))
  no_read_more no_read not_fixed =
      record {
        long = held.long;
        within = λ b a below small. stays b a ∙ held.within b a below small;
        past = λ b a beyond small. stays b a ∙ held.past b a beyond small;
        fixed = λ b below. stays_fixed b ∙ held.fixed b below;
        fixed_past = λ b beyond. stays_fixed b ∙ held.fixed_past b beyond;
      }
    where
      stays : (b a : ℕ) → witness_index (terms ++ (term ∷ [])) b a ≡ witness_index terms b a
      stays b a = witness_append terms (term ∷ []) b a ∙ rw (no_read b a) (or_none (witness_index terms b a))

      stays_fixed : (b : ℕ) → is_fixed (terms ++ (term ∷ [])) b ≡ is_fixed terms b
      stays_fixed b = fixed_append terms term b ∙ rw (not_fixed b) (or-false (is_fixed terms b))

  pub read_more : bases < 256 → (x : ℕ) → ((b a : ℕ) → a < 255 → read_index b a term ≡ cond (eqb bases b && eqb (x % 256) a) (some (x / 256)) none)
      → ((b : ℕ) → fixes b term ≡ (eqb bases b && eqb x fixed_mark)) → ReadsFound (bases + 1) (set reads bases x) (terms ++ (term ∷ []))
  read_more room x its marks = record { long = length-set reads bases x ∙ held.long; within = within; past = past; fixed = fixed; fixed_past = fixed_past }
    where
      fixed_past : (b : ℕ) → bases + 1 ≤ b → is_fixed (terms ++ (term ∷ [])) b ≡ false
      fixed_past b beyond = fixed_append terms term b ∙ rw (held.fixed_past b (omega arith), marks b, ne_eqb bases b (λ e. omega arith))

      fixed : (b : ℕ) → b < bases + 1 → is_fixed (terms ++ (term ∷ [])) b ≡ fixed_in (set reads bases x) b
      fixed b below = fixed_append terms term b ∙ ap (λ (own : Bool). is_fixed terms b || own) (marks b) ∙ one_of (eqb bases b) refl
        where
          one_of : (same : Bool) → eqb bases b ≡ same → (is_fixed terms b || (same && eqb x fixed_mark)) ≡ eqb (get_or (set reads bases x) b 0) fixed_mark
          one_of true e =
              rw (held.fixed_past b (omega (arith, eqb-true bases b e)), sym (eqb-true bases b e), get_or-set_same reads bases x 0 (omega (arith, held.long)))
          one_of false e =
              let other : b ≢ bases = λ same. eqb-false bases b e (sym same) in
              rw (or-false (is_fixed terms b), get_or-set_other reads bases b x 0 other) (held.fixed b (omega (arith, other)))

      past : (b a : ℕ) → bases + 1 ≤ b → a < 255 → witness_index (terms ++ (term ∷ [])) b a ≡ none
      past b a beyond small = rw (witness_append terms (term ∷ []) b a, held.past b a (omega arith) small, its b a small, ne_eqb bases b (λ e. omega arith))

      go : (b a : ℕ) (same : Bool) → eqb bases b ≡ same → b < bases + 1 → a < 255
          → or_else (witness_index terms b a) (or_else (cond (same && eqb (x % 256) a) (some (x / 256)) none) none)
          ≡ cond (eqb (get_or (set reads bases x) b 0 % 256) a) (some (get_or (set reads bases x) b 0 / 256)) none
      go b a true e below small =
          rw (held.past b a (omega (arith, eqb-true bases b e)) small, or_none, sym (eqb-true bases b e), get_or-set_same reads bases x 0 (omega (arith, held.long)))
      go b a false e below small =
          let other : b ≢ bases = λ same. eqb-false bases b e (sym same) in
          rw (or_none (witness_index terms b a), get_or-set_other reads bases b x 0 other) (held.within b a (omega arith) small)

      within : (b a : ℕ) → b < bases + 1 → a < 255 → witness_index (terms ++ (term ∷ [])) b a ≡ cond (eqb (get_or (set reads bases x) b 0 % 256) a) (some (get_or (set reads bases x) b 0 / 256)) none
      within b a below small = rw (witness_append terms (term ∷ []) b a, its b a small) (go b a (eqb bases b) refl below small)
