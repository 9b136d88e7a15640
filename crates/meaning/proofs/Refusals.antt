-- What it says of bytes that they are refused: number 1 with offset 0 for too many, or a number from 2 to 9 with the offset of a field.
-- Assumes nothing.
use Prim.Native.Nat.{ℕ, zero, suc, ◌+◌, ◌≤◌, ◌<◌}
use native.Mathlib.Omega.{arith}
use mathlib.Core.Path.{◌≡◌, refl, sym, ◌∙◌}
use mathlib.Core.Logic.{◌⊎◌, ⊎_elim, ⊎_map}
use mathlib.Core.Bool.{false≢true}
use mathlib.Core.List.Memᴰ
use mathlib.Core.List.{List, [], ◌∷◌}
use mathlib.Core.Option.{Option, none, some}
use lib.ListN.{length, drop}
use Rattle.paper.specs.Lists.{◌∈◌, first_met}
use Rattle.paper.specs.Fields.{Kind, Item, field, broken, kind_of, tag_at, head_tests, item_of, item_at, items}
use Rattle.paper.specs.Terms.{Query}
use Rattle.paper.specs.Load.{faults, extend, empty, Loaded, load_items, max_bytes, load}
use Rattle.meaning.proofs.Tests.{TwoToNine, AllTwoToNine, none_met, some_met, faults_two_to_nine}
use Rattle.meaning.proofs.Built.{item_in, load_cases, load_field}

-- an item that stands below an end, with a number for a fault where it is broken
abbrev ItemPlaced : (end : ℕ) → Item → Type 0
ItemPlaced end (broken at refusal) = TwoToNine refusal × (at < end)
ItemPlaced end (field at kind numbers) = at < end

-- what stands at a place
item_placed : (w at end : ℕ) (bytes : List ℕ) → at < end → ItemPlaced end (item_at w at bytes)
unfolding item_at
item_placed w at end bytes inside = go (kind_of (tag_at bytes)) refl (first_met (head_tests w bytes)) refl
  where
    numbered : AllTwoToNine (head_tests w bytes)
    numbered = omega arith

    go : (kind : Option Kind) → kind_of (tag_at bytes) ≡ kind → (refusal : ℕ) → first_met (head_tests w bytes) ≡ refusal → ItemPlaced end (item_of w at kind refusal bytes)
    go none unknown refusal met =
        (rw met at (some_met (head_tests w bytes) numbered (λ e. false≢true (sym (rw unknown at (none_met (head_tests w bytes) numbered e).1.0)))), inside)
    go (some kind) known zero met = inside
    go (some kind) known (suc refusal) met = (rw met at (some_met (head_tests w bytes) numbered (omega arith)), inside)

-- equal refusals have the same number and place
same_refusal : {end number place refusal at : ℕ} → Loaded.refused number place ≡ Loaded.refused refusal at → TwoToNine number × (place < end) → TwoToNine refusal × (at < end)
same_refusal {end} {number} {place} {refusal} {at} e found =
    let same : number ≡ refusal = cc in
    let there : place ≡ at = cc in
    (omega arith, omega arith)

-- what items are refused for
loaded_refused : (end : ℕ) (rest : List Item) (query : Query) (refusal at : ℕ) → ((item : Item) → item ∈ rest → ItemPlaced end item) → load_items rest query ≡ Loaded.refused refusal at → TwoToNine refusal × (at < end)
loaded_refused end [] query refusal at placed e = let never : ◌≡◌ {A = ℕ} 0 1 = cc in absurd (omega arith)
loaded_refused end (broken place number ∷ rest) query refusal at placed e = same_refusal e (placed (broken place number) (Memᴰ.head refl))
loaded_refused end (field place kind numbers ∷ rest) query refusal at placed e =
    ⊎_elim (λ unmet. loaded_refused end rest (extend query kind numbers) refusal at (λ item here. placed item (Memᴰ.tail here)) (sym unmet.1 ∙ e))
    (λ met. same_refusal (sym met.1 ∙ e) (some_met (faults query kind numbers) (faults_two_to_nine query kind numbers) met.0, placed (field place kind numbers) (Memᴰ.head refl)))
    (load_field place kind numbers rest query)

-- number 1 is for too many bytes, and any other for a field of the bytes
pub refusals : (w : ℕ) (bytes : List ℕ) (refusal at : ℕ) → load w bytes ≡ Loaded.refused refusal at
    → ((refusal ≡ 1) × (at ≡ 0) × (max_bytes < length bytes)) ⊎ (TwoToNine refusal × (at < length bytes) × (length bytes ≤ max_bytes))
refusals w bytes refusal at e =
    ⊎_map (λ long. (cc, cc, long.0)) (λ short. let (number, place) = fault (sym short.1 ∙ e) in (number, place, short.0)) (load_cases w bytes)
  where
    placed : (item : Item) → item ∈ items w bytes → ItemPlaced (length bytes) item
    placed item here =
        let (place, inside, same) = item_in (length bytes) w 0 bytes here in
        rw same (item_placed w (0 + place) (length bytes) (drop place bytes) (omega arith))

    fault : load_items (items w bytes) empty ≡ Loaded.refused refusal at → TwoToNine refusal × (at < length bytes)
    fault loaded = loaded_refused (length bytes) (items w bytes) empty refusal at placed loaded
