-- Cells in order of their indices: what a search finds among them, and a cell put at that place, come to the paper's `place`.
-- Assumes nothing.
use Rattle.std.proofs.Common.{◌≡◌, ℕ, zero, suc, ◌+◌, ◌-◌, ◌<◌, ◌≤◌, Bool, true, false, List, [], ◌∷◌, ◌++◌, map, length, get_or, set, take, drop, Result, Ok, Err, refl, sym, ap, ◌∙◌, append_assoc, length-append, cond, eqb, arith}
use Rattle.std.proofs.Math.Seq.{take-set-lt, take_at, length-take-le}
use Rattle.std.proofs.lemmas.Bool.Decides.{nat_tests}
use Rattle.std.proofs.lemmas.Cmp.{ranked}
use Rattle.std.proofs.lemmas.List.{take-take, drop-take, take_more_set, set-append_left}
use Rattle.std.proofs.lemmas.List.Edits.{length-insert}
use Rattle.std.proofs.lemmas.List.Sorted.{IsNonDecreasingBy-insert}
use Rattle.std.specs.List.{copy_within, insert}
use Rattle.std.specs.List.Sorted.{IsNonDecreasingBy, IsSearchInRange, IsBinarySearchResult}
use Rattle.std.specs.Ordering.{nat_cmp}
use borrow.Author.Tests.{le-ltb, lt-ltb, eq-eqb, ne_eqb}
use Rattle.paper.specs.Cells.{place}
use Rattle.model.specs.declared.cells.Cell.{Cell}
use Rattle.model.specs.Listed.{cell_in}

-- the indices do not descend
abbrev pub Rises : List Cell → Type 0
Rises cells = IsNonDecreasingBy (λ (cell : Cell). cell.index) cells

-- a cell put at a place, when what stood from there on was copied one place on
moved_on : (xs : List Cell) (at used : ℕ) (x : Cell) → at ≤ used → used < length xs → set (copy_within xs at used (at + 1)) at x ≡ insert (take used xs) at x ++ drop (used + 1) xs
moved_on xs at used x inside room =
    let more : at < length front = omega (arith, length-take-le (at + 1) xs (omega arith)) in
    let whole : at < length (front ++ behind) = omega (arith, more, length-append front behind) in
    let front_is : set front at x ≡ take at xs ++ x ∷ [] = sym (take-set-lt (at + 1) xs at x (omega arith)) ∙ take_more_set xs at x (omega arith) in
    let first : take at (take used xs) ≡ take at xs = take-take at used xs inside in
    let behind_is : drop at (take used xs) ≡ behind = let all : at + (used - at) ≡ used = omega arith in ap (λ (n : ℕ). drop at (take n xs)) (sym all) ∙ drop-take at (used - at) xs in
    let last : at + 1 + (used - at) ≡ used + 1 = omega arith in
    set-append_left (front ++ behind) (drop (at + 1 + (used - at)) xs) at x whole
    ∙ rw (set-append_left front behind at x more, front_is, append_assoc (take at xs) (x ∷ []) behind, first, behind_is, last) refl
  where
    front : List Cell
    front = take (at + 1) xs

    behind : List Cell
    behind = take (used - at) (drop at xs)

-- the cells that are used then
abbrev pub with_it : (xs : List Cell) (at used : ℕ) → Cell → List Cell
with_it xs at used cell = take (used + 1) (set (copy_within xs at used (at + 1)) at cell)

inserted : (xs : List Cell) (at used : ℕ) (cell : Cell) → at ≤ length (take used xs) → used < length xs → with_it xs at used cell ≡ insert (take used xs) at cell
inserted xs at used cell inside room =
    let long : length (take used xs) ≡ used = length-take-le used xs (omega arith) in
    ap (take (used + 1)) (moved_on xs at used cell (omega (arith, long)) room)
    ∙ take_at (insert (take used xs) at cell) (drop (used + 1) xs) (used + 1) (omega (arith, long, length-insert (take used xs) at cell inside))

-- where a cell of the index stands, the paper places nothing
there : (cell : Cell) (cells : List Cell) → Rises cells → (at : ℕ) → at < length cells → ((d : Cell) → (get_or cells at d).index ≡ cell.index) → place (cell_in cell) (map cell_in cells) ≡ map cell_in cells
there cell [] rises at inside same = absurd (omega arith)
there cell (other ∷ later) rises zero inside same = rw (le-ltb cell.index other.index (omega (arith, same other)), eq-eqb cell.index other.index (sym (same other))) refl
there cell (other ∷ later) rises (suc at) inside same =
    rw (le-ltb cell.index other.index (omega (arith, same other, rises 0 (suc at) other (omega arith) inside)))
    (go (eqb cell.index other.index) (there cell later (λ i j d below within. rises (suc i) (suc j) d (omega arith) (omega arith)) at (omega arith) same))
  where
    go : (b : Bool) → place (cell_in cell) (map cell_in later) ≡ map cell_in later → cond b (map cell_in (other ∷ later)) (cell_in other ∷ place (cell_in cell) (map cell_in later)) ≡ map cell_in (other ∷ later)
    go true rest = refl
    go false rest = ap (λ cells. cell_in other ∷ cells) rest

-- and between the lower and the higher ones the cell
between : (cell : Cell) (cells : List Cell) (at : ℕ) → at ≤ length cells → ((k : ℕ) (d : Cell) → k < at → (get_or cells k d).index < cell.index) → ((k : ℕ) (d : Cell) → at ≤ k → k < length cells → cell.index < (get_or cells k d).index)
    → place (cell_in cell) (map cell_in cells) ≡ map cell_in (insert cells at cell)
between cell [] zero inside lower higher = refl
between cell [] (suc at) inside lower higher = absurd (omega arith)
between cell (other ∷ later) zero inside lower higher = rw (lt-ltb cell.index other.index (higher 0 other (omega arith) (omega arith))) refl
between cell (other ∷ later) (suc at) inside lower higher =
    let low : other.index < cell.index = lower 0 other (omega arith) in
    rw (le-ltb cell.index other.index (omega arith), ne_eqb cell.index other.index (λ same. omega arith))
    (ap (λ cells. cell_in other ∷ cells) (between cell later at (omega arith) (λ k d below. lower (suc k) d (omega arith)) (λ k d past within. higher (suc k) d (omega arith) (omega arith))))

-- what a search by index comes to, among the cells that are used
abbrev pub Found : Cell → (xs : List Cell) (used : ℕ) → Result ℕ ℕ → Type 0
Found cell xs used (Ok at) = place (cell_in cell) (map cell_in (take used xs)) ≡ map cell_in (take used xs)
Found cell xs used (Err at) =
    length (take used xs) < length xs → (place (cell_in cell) (map cell_in (take used xs)) ≡ map cell_in (with_it xs at used cell)) × Rises (with_it xs at used cell)

pub found : (cell : Cell) (xs : List Cell) (used : ℕ) → used ≤ length xs → Rises (take used xs) → (r : Result ℕ ℕ) → IsSearchInRange r (length (take used xs))
    → IsBinarySearchResult (λ (other : Cell). nat_cmp other.index cell.index) (take used xs) r → Found cell xs used r
found cell xs used few rises (Ok at) inside same = there cell (take used xs) rises at inside (λ d. ranked _ cell.index _ (sym (same d)))
found cell xs used few rises (Err at) inside parted = λ room.
    let cells = take used xs in
    let parts = parted (λ i j d below within. let le = rises i j d below within in grind (arith, nat_tests)) in
    let lower : (k : ℕ) (d : Cell) → k < at → (get_or cells k d).index < cell.index = λ k d below. ranked _ cell.index _ (sym (parts.0 k d (omega arith) below)) in
    let higher : (k : ℕ) (d : Cell) → at ≤ k → k < length cells → cell.index < (get_or cells k d).index = λ k d past within. ranked _ cell.index _ (sym (parts.1 k d past within)) in
    rw (inserted xs at used cell inside (omega (arith, room, length-take-le used xs few))) (
      between cell cells at inside lower higher,
      IsNonDecreasingBy-insert (λ (one : Cell). one.index) cells at cell rises inside (λ k d below. omega (arith, lower k d below)) (λ k d past within. omega (arith, higher k d past within)),
    )
