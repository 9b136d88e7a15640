-- The cells of the sources up to one: no source, one more, and at the end all that are to be listed.
-- Assumes nothing.
use Prim.Native.Nat.{ℕ, ◌+◌, ◌-◌, ◌<◌, ◌≤◌}
use native.Mathlib.Omega.{arith}
use mathlib.Core.Path.{◌≡◌, sym, ap, ◌∙◌}
use mathlib.Core.Bool.{Bool, true, false, cond}
use mathlib.Core.List.{List, [], ◌∷◌, map}
use lib.ListN.{length, length-append, length-drop, length-map}
use Rattle.paper.specs.Lists.{keep, range}
use Rattle.paper.specs.Cells.{Cell, place, place_all}
use Rattle.paper.specs.Answers.{written_over}
use Rattle.meaning.proofs.Cells.{place_few}
use Rattle.reach.specs.Reached.{Edges, Sources}
use Rattle.model.specs.declared.cells.Cell as Code
use Rattle.model.specs.Listed.{cell_at, cell_in, reaches_in, listed_in}
use Rattle.model.proofs.Holding.{range_step}

-- a run of numbers that holds a part of each cell keeps its length
run_long : (listed : List Cell) (part : Cell → ℕ) (buffer : List ℕ) → length listed ≤ length buffer
    → length (written_over buffer (map part listed)) ≡ length buffer
run_long listed part buffer few = simp (length-append, length-drop, length-map) (omega arith)

module _ (e : Edges) (s : Sources) (n a : ℕ) where
  -- the cells of the sources from k on
  abbrev later : ℕ → List Cell
  later k = map (cell_at s) (keep (reaches_in e s n a) (range k (s.count - k)))

  -- one source more, whether it reaches the array term or not
  one_more : (k : ℕ) → k < s.count → (b : Bool) → reaches_in e s n a k ≡ b → later k ≡ map (cell_at s) (cond b (k ∷ keep (reaches_in e s n a) (range (k + 1) (s.count - (k + 1)))) (keep (reaches_in e s n a) (range (k + 1) (s.count - (k + 1)))))
  one_more k inside b here =
      ap (λ (ks : List ℕ). map (cell_at s) (keep (reaches_in e s n a) ks)) (range_step k s.count inside)
      ∙ ap (λ (c : Bool). map (cell_at s) (cond c (k ∷ keep (reaches_in e s n a) (range (k + 1) (s.count - (k + 1)))) (keep (reaches_in e s n a) (range (k + 1) (s.count - (k + 1)))))) here

  -- there are cells, at most one for each source before k, and the later ones placed among these make the list
  pub record Gathered (cells : List Code.Cell) (k : ℕ) : Type 0 where
    pub few : length cells ≤ k
    pub rest : listed_in e s n a ≡ place_all (map cell_in cells) (later k)

  pub gathered_none : Gathered [] 0
  unfolding listed_in
  gathered_none = let all : s.count - 0 ≡ s.count = omega arith in record { few = omega arith; rest = rw all }

module _ {e : Edges} {s : Sources} {n a : ℕ} {cells : List Code.Cell} {k : ℕ} (known : Gathered e s n a cells k) where
  pub gathered_past : k < s.count → reaches_in e s n a k ≡ false → Gathered e s n a cells (k + 1)
  gathered_past inside here =
      record { few = omega (arith, known.few); rest = known.rest ∙ ap (place_all (map cell_in cells)) (one_more e s n a k inside false here) }

  pub gathered_next : k < s.count → reaches_in e s n a k ≡ true → {next : List Code.Cell} → map cell_in next ≡ place (cell_at s k) (map cell_in cells) → Gathered e s n a next (k + 1)
  gathered_next inside here {next} placed =
      record {
        few = omega (arith, known.few, ap (λ (l : List Cell). length l) placed, place_few (cell_at s k) (map cell_in cells), length-map next cell_in, length-map cells cell_in);
        rest = known.rest ∙ ap (place_all (map cell_in cells)) (one_more e s n a k inside true here) ∙ ap (λ (l : List Cell). place_all l (later e s n a (k + 1))) (sym placed);
      }

pub gathered_all : {e : Edges} {s : Sources} {n a : ℕ} {cells : List Code.Cell} {k : ℕ} → Gathered e s n a cells k → k ≡ s.count → map cell_in cells ≡ listed_in e s n a
gathered_all {e} {s} {n} {a} {cells} {k} known all =
    let none : s.count - k ≡ 0 = omega arith in
    sym (known.rest ∙ ap (λ (m : ℕ). place_all (map cell_in cells) (map (cell_at s) (keep (reaches_in e s n a) (range k m)))) none)
