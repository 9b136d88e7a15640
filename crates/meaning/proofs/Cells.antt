-- The cells of an array term are its model: each has the model's value, everywhere else the model is 0, and they stand in order of their indices,
-- at most one for each source.
-- Assumes nothing.
use Prim.Native.Nat.{ℕ, suc, ◌+◌, ◌<◌, ◌≤◌}
use native.Mathlib.Omega.{arith}
use mathlib.Core.Path.{◌≡◌, refl, sym, ap, ◌∙◌}
use mathlib.Core.Logic.{◌⊎◌, inl, inr, ◌≢◌}
use mathlib.Core.Bool.{Bool, true, false, cond}
use mathlib.Core.List.Memᴰ
use mathlib.Core.List.{List, [], ◌∷◌, map}
use mathlib.Core.Option.{Option, none, some}
use borrow.Author.Tests.{ltb-true, ltb-false, eqb-true, eqb-false, eq-eqb, ne_eqb}
use lib.Dec.{eqb, ltb}
use lib.ListN.{length, length-map}
use Rattle.paper.specs.Lists.{◌∈◌, map_option, or_else, keep, find}
use Rattle.paper.specs.Terms.{Term, Assignment}
use Rattle.paper.specs.Edges.{Place, at, index_number, covers, Source, sources}
use Rattle.paper.specs.Reach.{index_value, reaches_at, reaches}
use Rattle.paper.specs.Model.{value_given, model}
use Rattle.paper.specs.Cells.{Cell, cell_of, place, place_all, cells}
use Rattle.meaning.proofs.Lists.{keep_shorter}

-- a cell that is placed makes the cells at most one more
pub place_few : (cell : Cell) (placed : List Cell) → length (place cell placed) ≤ suc (length placed)
place_few cell [] = omega arith
place_few cell (other ∷ later) = go (ltb cell.index other.index) (eqb cell.index other.index) (place_few cell later)
  where
    go : (b c : Bool) → length (place cell later) ≤ suc (length later) → length (cond b (cell ∷ other ∷ later) (cond c (other ∷ later) (other ∷ place cell later))) ≤ suc (suc (length later))
    go true c below = omega arith
    go false true below = omega arith
    go false false below = omega arith

all_few : (placed some_cells : List Cell) → length (place_all placed some_cells) ≤ length placed + length some_cells
all_few placed [] = omega arith
all_few placed (cell ∷ later) = omega (arith, all_few (place cell placed) later, place_few cell placed)

-- the indices strictly ascend: each is below all that come after it
abbrev pub Ascend : List Cell → Type 0
Ascend [] = Unit {0}
Ascend (cell ∷ later) = ((other : Cell) → other ∈ later → cell.index < other.index) × Ascend later

-- so the first is the least
first_least : (first : Cell) (later : List Cell) → Ascend (first ∷ later) → {other : Cell} → other ∈ first ∷ later → first.index ≤ other.index
first_least first later ascend {other} here = go (Memᴰ.cases_cons here)
  where
    go : (other ≡ first) ⊎ (other ∈ later) → first.index ≤ other.index
    go (inl same) = omega (arith, ap (λ (c : Cell). c.index) same)
    go (inr there) = omega (arith, ascend.0 other there)

-- what a placed cell stands among
place_in : (cell : Cell) (placed : List Cell) {other : Cell} → other ∈ place cell placed → (other ≡ cell) ⊎ (other ∈ placed)
place_in cell [] here = Memᴰ.cases_cons here
place_in cell (first ∷ later) {other} here = go (ltb cell.index first.index) (eqb cell.index first.index) (place_in cell later) here
  where
    go : (b c : Bool) → (other ∈ place cell later → (other ≡ cell) ⊎ (other ∈ later))
        → other ∈ cond b (cell ∷ first ∷ later) (cond c (first ∷ later) (first ∷ place cell later)) → (other ≡ cell) ⊎ (other ∈ first ∷ later)
    go true c below there = Memᴰ.cases_cons there
    go false true below there = inr there
    go false false below (Memᴰ.head same) = inr (Memᴰ.head same)
    go false false below (Memᴰ.tail further) = past (below further)
      where
        past : (other ≡ cell) ⊎ (other ∈ later) → (other ≡ cell) ⊎ (other ∈ first ∷ later)
        past (inl same) = inl same
        past (inr there) = inr (Memᴰ.tail there)

place_ascends : (cell : Cell) (placed : List Cell) → Ascend placed → Ascend (place cell placed)
place_ascends cell [] ascend = ((λ other here. absurd (Memᴰ.not-nil here)), tt)
place_ascends cell (first ∷ later) ascend = go (ltb cell.index first.index) (eqb cell.index first.index) refl refl (place_ascends cell later ascend.1)
  where
    among : (other : Cell) → first.index < cell.index → (other ≡ cell) ⊎ (other ∈ later) → first.index < other.index
    among other low (inl same) = omega (arith, ap (λ (c : Cell). c.index) same)
    among other low (inr there) = ascend.0 other there

    go : (b c : Bool) → ltb cell.index first.index ≡ b → eqb cell.index first.index ≡ c → Ascend (place cell later)
        → Ascend (cond b (cell ∷ first ∷ later) (cond c (first ∷ later) (first ∷ place cell later)))
    go true c low same below = ((λ other here. omega (arith, ltb-true cell.index first.index low, first_least first later ascend here)), ascend)
    go false true high same below = ascend
    go false false high differ below =
        let past : first.index < cell.index = omega (arith, ltb-false cell.index first.index high, eqb-false cell.index first.index differ) in
        ((λ other here. among other past (place_in cell later here)), below)

all_ascend : (placed some_cells : List Cell) → Ascend placed → Ascend (place_all placed some_cells)
all_ascend placed [] ascend = ascend
all_ascend placed (cell ∷ later) ascend = all_ascend (place cell placed) later (place_ascends cell placed ascend)

-- the value of the cell that is found, and 0 where there is none
abbrev pub value_with : Option Cell → ℕ
value_with none = 0
value_with (some cell) = cell.value

-- the first cell of an index
abbrev pub cell_with : (x : ℕ) → List Cell → Option Cell
cell_with x = find (λ (cell : Cell). eqb cell.index x)

none_with : (x : ℕ) (some_cells : List Cell) → ((cell : Cell) → cell ∈ some_cells → cell.index ≢ x) → cell_with x some_cells ≡ none
none_with x [] differ = refl
none_with x (cell ∷ later) differ = rw (ne_eqb cell.index x (differ cell (Memᴰ.head refl))) (none_with x later (λ other here. differ other (Memᴰ.tail here)))

-- among cells whose indices ascend, a cell is the first of its index
own_with : (some_cells : List Cell) → Ascend some_cells → (cell : Cell) → cell ∈ some_cells → cell_with cell.index some_cells ≡ some cell
own_with [] ascend cell member = elim member [ ]
own_with (first ∷ later) ascend cell (Memᴰ.head same) = rw (eq-eqb first.index cell.index (ap (λ (c : Cell). c.index) (sym same))) (ap some (sym same))
own_with (first ∷ later) ascend cell (Memᴰ.tail further) =
    rw (ne_eqb first.index cell.index (λ same. omega (arith, ascend.0 cell further))) (own_with later ascend.1 cell further)

or_none : {A : Type 0} (found : Option A) → found ≡ or_else found none
or_none none = refl
or_none (some x) = refl

-- a cell that is placed is found where none of its index stands yet
place_with : (x : ℕ) (cell : Cell) (placed : List Cell) → Ascend placed
    → cell_with x (place cell placed) ≡ or_else (cell_with x placed) (cond (eqb cell.index x) (some cell) none)
place_with x cell [] ascend = refl
place_with x cell (first ∷ later) ascend =
    go (ltb cell.index first.index) (eqb cell.index first.index) refl refl (place_with x cell later ascend.1)
  where
    before : (b : Bool) → eqb cell.index x ≡ b → cell.index < first.index
        → cond b (some cell) (cell_with x (first ∷ later)) ≡ or_else (cell_with x (first ∷ later)) (cond b (some cell) none)
    before true is low =
        ap (λ (found : Option Cell). or_else found (some cell))
        (sym (none_with x (first ∷ later) (λ other here same. omega (arith, eqb-true cell.index x is, first_least first later ascend here))))
    before false is low = or_none (cell_with x (first ∷ later))

    stays : (b : Bool) → eqb cell.index x ≡ b → cell.index ≡ first.index
        → cell_with x (first ∷ later) ≡ or_else (cell_with x (first ∷ later)) (cond b (some cell) none)
    stays true is same = rw (eq-eqb first.index x (sym same ∙ eqb-true cell.index x is))
    stays false is same = or_none (cell_with x (first ∷ later))

    after : (b : Bool) (other : Option Cell) → cell_with x (place cell later) ≡ or_else (cell_with x later) other
        → cond b (some first) (cell_with x (place cell later)) ≡ or_else (cond b (some first) (cell_with x later)) other
    after true other below = refl
    after false other below = below

    go : (b c : Bool) → ltb cell.index first.index ≡ b → eqb cell.index first.index ≡ c
        → cell_with x (place cell later) ≡ or_else (cell_with x later) (cond (eqb cell.index x) (some cell) none)
        → cell_with x (cond b (cell ∷ first ∷ later) (cond c (first ∷ later) (first ∷ place cell later)))
        ≡ or_else (cell_with x (first ∷ later)) (cond (eqb cell.index x) (some cell) none)
    go true c low same below = before (eqb cell.index x) refl (ltb-true cell.index first.index low)
    go false true high same below = stays (eqb cell.index x) refl (eqb-true cell.index first.index same)
    go false false high differ below = after (eqb first.index x) (cond (eqb cell.index x) (some cell) none) below

all_with : (x : ℕ) (placed some_cells : List Cell) → Ascend placed → cell_with x (place_all placed some_cells) ≡ or_else (cell_with x placed) (cell_with x some_cells)
all_with x placed [] ascend = or_none (cell_with x placed)
all_with x placed (cell ∷ later) ascend =
    all_with x (place cell placed) later (place_ascends cell placed ascend)
    ∙ ap (λ (found : Option Cell). or_else found (cell_with x later)) (place_with x cell placed ascend)
    ∙ either (cell_with x placed) (eqb cell.index x)
  where
    either : (found : Option Cell) (b : Bool) → or_else (or_else found (cond b (some cell) none)) (cell_with x later) ≡ or_else found (cond b (some cell) (cell_with x later))
    either none true = refl
    either none false = refl
    either (some c) b = refl

module _ (terms : List Term) (g : Assignment) (a : ℕ) where
  -- what the model asks of a source at an index value
  abbrev gives : (x : ℕ) → Source → Bool
  gives x source = cond (covers g x source.place) (reaches_at terms g x source a) false

  covers_same : (x : ℕ) (p : Place) → covers g x p ≡ eqb (g.value (index_number p)) x
  covers_same x (at index) = refl

  own_gives : (x : ℕ) (source : Source) (b : Bool) → eqb (index_value g source) x ≡ b → gives x source ≡ cond b (reaches terms g source a) false
  unfolding reaches
  own_gives x source true is = rw (covers_same x source.place, is) (ap (λ (y : ℕ). reaches_at terms g y source a) (sym (eqb-true (index_value g source) x is)))
  own_gives x source false is = rw (covers_same x source.place, is)

  -- the first source that the model asks for has the first cell of the index
  kept_with : (x : ℕ) (some_sources : List Source)
      → cell_with x (map (cell_of g) (keep (λ source. reaches terms g source a) some_sources)) ≡ map_option (cell_of g) (find (gives x) some_sources)
  kept_with x [] = refl
  kept_with x (source ∷ later) =
      go (reaches terms g source a) (eqb (index_value g source) x) refl (kept_with x later)
      ∙ ap (λ (b : Bool). map_option (cell_of g) (cond b (some source) (find (gives x) later))) (sym (own_gives x source (eqb (index_value g source) x) refl))
    where
      kept : List Source
      kept = keep (λ source. reaches terms g source a) later

      go : (reached b : Bool) → eqb (index_value g source) x ≡ b → cell_with x (map (cell_of g) kept) ≡ map_option (cell_of g) (find (gives x) later)
          → cell_with x (map (cell_of g) (cond reached (source ∷ kept) kept)) ≡ map_option (cell_of g) (cond (cond b reached false) (some source) (find (gives x) later))
      go true true is below = rw is
      go true false is below = rw is below
      go false true is below = below
      go false false is below = below

  -- the model is what the cells say
  pub model_with : (x : ℕ) → model terms g a x ≡ value_with (cell_with x (cells terms g a))
  unfolding model cells
  model_with x =
      value_of (find (gives x) (sources terms))
      ∙ ap value_with (sym (all_with x [] (map (cell_of g) (keep (λ source. reaches terms g source a) (sources terms))) tt ∙ kept_with x (sources terms)))
    where
      value_of : (found : Option Source) → value_given g found ≡ value_with (map_option (cell_of g) found)
      value_of none = refl
      value_of (some source) = refl

  -- "by array, then index": the cells of an array stand in order of their indices, and no index twice
  pub cells_ascend : Ascend (cells terms g a)
  unfolding cells
  cells_ascend = all_ascend [] (map (cell_of g) (keep (λ source. reaches terms g source a) (sources terms))) tt

  -- what is printed of a cell is the model there
  pub cells_model : (cell : Cell) → cell ∈ cells terms g a → cell.value ≡ model terms g a cell.index
  cells_model cell here = sym (model_with cell.index ∙ ap value_with (own_with (cells terms g a) cells_ascend cell here))

  -- and nothing else need be printed: where there is no cell the model is 0
  pub cells_all : (x : ℕ) → ((cell : Cell) → cell ∈ cells terms g a → cell.index ≢ x) → model terms g a x ≡ 0
  cells_all x differ = model_with x ∙ ap value_with (none_with x (cells terms g a) differ)

  -- how much room the cells take
  pub cells_few : length (cells terms g a) ≤ length (sources terms)
  unfolding cells
  cells_few =
      let kept = keep (λ source. reaches terms g source a) (sources terms) in
      omega (arith, all_few [] (map (cell_of g) kept), length-map kept (cell_of g), keep_shorter (λ source. reaches terms g source a) (sources terms))
