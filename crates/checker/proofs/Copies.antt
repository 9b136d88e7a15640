-- Parts of the cells copied one by one over the first places of a run: one more, and at the end all are written over it.
-- Assumes nothing.
use Rattle.std.proofs.Common.{◌≡◌, ℕ, ◌+◌, ◌<◌, ◌≤◌, List, ◌++◌, map, length, get_or, set, drop, ap, subst, ◌∙◌, arith}
use Rattle.std.proofs.lemmas.List.{get_or-map, length-map}
use Rattle.std.proofs.lemmas.List.Edits.{paste_more, paste_all}
use lib.Seq.{paste}
use Rattle.paper.specs.Answers.{written_over}
use Rattle.model.specs.declared.cells.Cell.{Cell}

module _ (part : Cell → ℕ) (before : List ℕ) (cells : List Cell) where
  -- the first k are copied
  abbrev pub Copied : List ℕ → ℕ → Type 0
  Copied after k = after ≡ paste before 0 (map part cells) k

  pub copied_more : {after : List ℕ} {k : ℕ} → Copied after k → k < length cells → length cells ≤ length before → (d : Cell) → Copied (set after k (part (get_or cells k d))) (k + 1)
  copied_more {k = k} copied inside room d =
      rw (copied, ← get_or-map part cells k d 0 inside)
      (subst (λ (at : ℕ). set (paste before 0 (map part cells) k) at (get_or (map part cells) k 0) ≡ paste before 0 (map part cells) (k + 1)) {x = 0 + k} (omega arith)
      (paste_more before 0 (map part cells) k 0 (omega arith) (omega (arith, length-map cells part))))

  pub copied_all : {after : List ℕ} {k : ℕ} → Copied after k → k ≡ length cells → after ≡ written_over before (map part cells)
  copied_all {k = k} copied all =
      let many : 0 + k ≡ length (map part cells) = omega (arith, all, length-map cells part) in
      copied ∙ paste_all before 0 (map part cells) k (omega (arith, many)) ∙ ap (λ (n : ℕ). map part cells ++ drop n before) many
