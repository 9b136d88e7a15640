-- The marks: one that gets a row or a link gets it alone, and no other is touched.
-- Assumes nothing.
use Prim.Native.Nat.{ℕ, zero, suc}
use mathlib.Core.Path.{◌≡◌, refl, sym, ap, ◌∙◌}
use mathlib.Core.List.{List, [], ◌∷◌, map}
use lib.ListN.{length, get_or, set}
use Rattle.std.proofs.lemmas.List.{map-set, set-get_or, length-map}
use Rattle.reach.specs.declared.marks.Mark.{Mark}
use Rattle.reach.specs.Reached.{row_of, rows_in, links_in}

-- so many rows, links and marks as there are
pub rows_length : (marks : List Mark) → length (rows_in marks) ≡ length marks
rows_length marks = length-map marks row_of

pub links_length : (marks : List Mark) → length (links_in marks) ≡ length marks
links_length marks = length-map marks (λ (mark : Mark). mark.next)

-- the mark of a source that is not yet marked
abbrev pub blank : Mark
blank = record { low = 0; middle = 0; high = 0; next = 0 }

-- a mark with a link
abbrev pub linked : Mark → ℕ → Mark
linked mark to = record { low = mark.low; middle = mark.middle; high = mark.high; next = to }

-- what is read of a mark
read_at : {A : Type 0} (f : Mark → A) (marks : List Mark) (k : ℕ) → f (get_or marks k blank) ≡ get_or (map f marks) k (f blank)
read_at f [] k = refl
read_at f (mark ∷ marks) zero = refl
read_at f (mark ∷ marks) (suc k) = read_at f marks k

pub row_read : (marks : List Mark) (k : ℕ) → row_of (get_or marks k blank) ≡ get_or (rows_in marks) k 0
row_read = read_at row_of

pub link_read : (marks : List Mark) (k : ℕ) → (get_or marks k blank).next ≡ get_or (links_in marks) k 0
link_read = read_at (λ (mark : Mark). mark.next)

-- what is read of all stays if what is put reads as what stood there
pub put_same : {A : Type 0} (f : Mark → A) (marks : List Mark) (k : ℕ) (new : Mark) → f new ≡ f (get_or marks k blank) → map f (set marks k new) ≡ map f marks
put_same f marks k new same = map-set f marks k new ∙ ap (set (map f marks) k) same ∙ sym (map-set f marks k (get_or marks k blank)) ∙ ap (map f) (set-get_or marks k blank)

module _ (marks : List Mark) (k : ℕ) where
  -- a row put
  pub row_rows : (new : Mark) {row : ℕ} → row_of new ≡ row → rows_in (set marks k new) ≡ set (rows_in marks) k row
  row_rows new is = map-set row_of marks k new ∙ ap (set (rows_in marks) k) is

  pub row_links : (new : Mark) → new.next ≡ (get_or marks k blank).next → links_in (set marks k new) ≡ links_in marks
  row_links new same = put_same (λ (mark : Mark). mark.next) marks k new same

  -- both put
  pub both_links : (new : Mark) → links_in (set marks k new) ≡ set (links_in marks) k new.next
  both_links new = map-set (λ (mark : Mark). mark.next) marks k new

  -- a link put
  module _ (to : ℕ) where
    abbrev new : Mark
    new = linked (get_or marks k blank) to

    pub link_rows : rows_in (set marks k new) ≡ rows_in marks
    link_rows = put_same row_of marks k new refl

    pub link_links : links_in (set marks k new) ≡ set (links_in marks) k to
    link_links = map-set (λ (mark : Mark). mark.next) marks k new
