-- 02, E7: "if an accepted query is cut between two fields, the front part ..": where a string of bytes can be so cut, and what a front is.
-- Assumes nothing.
use Rattle.std.specs.Prelude.{ℕ, ◌≡◌, List, [], ◌∷◌, ◌++◌, map, length}
use Rattle.paper.specs.Lists.{◌∈◌}
use Rattle.paper.specs.Fields.{Item, field, broken, items}

-- where an item begins
abbrev pub place_of : Item → ℕ
place_of (field at kind numbers) = at
place_of (broken at refusal) = at

-- the places between two fields: where a field begins, and the end
abbrev pub cuts : (w : ℕ) → List ℕ → List ℕ
cuts w bytes = map place_of (items w bytes) ++ (length bytes ∷ [])

-- a front, cut between two fields: it ends where a field of the whole begins, or at its end
abbrev pub IsFront : (w : ℕ) → (front whole : List ℕ) → Type 0
IsFront w front whole = (rest : List ℕ) × (whole ≡ front ++ rest) × (length front ∈ cuts w whole)
