-- What is left of the literals (02, E1): the rows that stay say the literals that stay.
-- Assumes nothing.
use Rattle.std.proofs.Common.{ℕ, ◌≡◌, Bool, true, false, cond, not, List, [], ◌∷◌, refl, ap, arith}
use Rattle.std.specs.List.{filter}
use Rattle.std.proofs.lemmas.List.Filters.{length-filter_both}
use Rattle.paper.specs.Lists.{keep}
use Rattle.paper.specs.Lemma.{Literal}
use Rattle.lemma.specs.declared.rows.Literal.{Literal as Row}
use Rattle.lemma.specs.Rows.{literal_in, literals_of}
use Rattle.lemma.specs.Fixed.{stays_by, Kept}

-- the rows whose literals stay
abbrev pub row_stays : (reads : List ℕ) (row : Row) → Bool
row_stays reads row = stays_by reads (literal_in row)

same_kept : (reads : List ℕ) (rows : List Row) → literals_of (filter (row_stays reads) rows) ≡ keep (stays_by reads) (literals_of rows)
same_kept reads [] = refl
same_kept reads (row ∷ rows) = go (row_stays reads row) (same_kept reads rows)
  where
    go : (b : Bool) → literals_of (filter (row_stays reads) rows) ≡ keep (stays_by reads) (literals_of rows)
        → literals_of (cond b (row ∷ filter (row_stays reads) rows) (filter (row_stays reads) rows))
        ≡ cond b (literal_in row ∷ keep (stays_by reads) (literals_of rows)) (keep (stays_by reads) (literals_of rows))
    go true below = ap (λ (later : List Literal). literal_in row ∷ later) below
    go false below = below

pub rows_kept : (reads : List ℕ) (rows : List Row) → Kept reads rows (filter (row_stays reads) rows)
rows_kept reads rows =
    let stays = row_stays reads in
    record { same = same_kept reads rows; most = omega (arith, length-filter_both stays (λ row. not (stays row)) (λ row. refl) rows) }
