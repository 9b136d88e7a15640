-- For the loader: how the paper's run of items unrolls by what stands at a place (items_end, items_broken, items_field), and that a field has a number for each part of its kind (numbers-length).
-- Assumes nothing.
use Prim.Native.Nat.{ℕ, zero, suc, ◌+◌, ◌≤◌, ◌<◌}
use mathlib.Core.Path.{◌≡◌, refl, sym, ap, ◌∙◌}
use mathlib.Core.Bool.{not}
use mathlib.Core.List.{List, [], ◌∷◌}
use mathlib.Core.Option.{Option, none, some}
use native.Mathlib.Omega.{arith}
use lib.Dec.{ltb, eqb}
use lib.ListN.{length, drop, length-drop, drop_of_length-le}
use lib.Seq.{drop-drop}
use native.Mathlib.Decide.{dec_le}
use borrow.Author.Tests.{ltb-false}
use Rattle.paper.specs.Lists.{is_some, first_met}
use Rattle.paper.specs.Fields.{Part, Kind, Item, kind_of, parts, size, own_length, cut, tag_at, length_at, head_tests, item_of, item_at, followed_by, items_from}
use Rattle.query.specs.Standing.{end, broken, field, of_item, standing}
use Rattle.query.proofs.Heads.{passed, at_end, at_item}

place_of : Item → ℕ
place_of (Item.field at kind numbers) = at
place_of (Item.broken at refusal) = at

item_place : (w at : ℕ) (kind : Option Kind) (refusal : ℕ) (bytes : List ℕ) → place_of (item_of w at kind refusal bytes) ≡ at
unfolding place_of
item_place w at none refusal bytes = refl
item_place w at (some kind) zero bytes = refl
item_place w at (some kind) (suc refusal) bytes = refl

cut_length : (w : ℕ) (ps : List Part) (bytes : List ℕ) → length (cut w ps bytes) ≡ length ps
cut_length w [] bytes = refl
cut_length w (part ∷ rest) bytes = ap suc (cut_length w rest (drop (size w part) bytes))

-- what a field that stands says of the head's tests and of its numbers
field_item : (w at : ℕ) (kind? : Option Kind) (refusal : ℕ) (bytes : List ℕ) (place : ℕ) (kind : Kind) (numbers : List ℕ)
    → item_of w at kind? refusal bytes ≡ Item.field place kind numbers
    → (refusal ≡ 0) × (length numbers ≡ length (parts kind))
field_item w at none refusal bytes place kind numbers e = let z : ◌≡◌ {A = ℕ} 0 1 = cc in absurd (omega arith)
field_item w at (some k) zero bytes place kind numbers e = (
  refl,
  let same : cut w (parts k) (drop 3 bytes) ≡ numbers = cc in
      let kinds_same : k ≡ kind = cc in
      ap length (sym same) ∙ cut_length w (parts k) (drop 3 bytes) ∙ ap (λ (x : Kind). length (parts x)) kinds_same,
)
field_item w at (some k) (suc refusal) bytes place kind numbers e = let z : ◌≡◌ {A = ℕ} 0 1 = cc in absurd (omega arith)

unroll_list : (bound w at : ℕ) (left : List ℕ) → 0 < length left
    → items_from (suc bound) w at left
    ≡ followed_by (item_at w at left) (items_from bound w (at + (3 + length_at left)) (drop (3 + length_at left) left))
unroll_list bound w at [] h = absurd (omega arith)
unroll_list bound w at (byte ∷ left) h = refl

broken_of : (item : Item) (next place refusal : ℕ) → of_item item next ≡ broken place refusal → item ≡ Item.broken place refusal
broken_of (Item.field at kind numbers) next place refusal e = cc
broken_of (Item.broken at r) next place refusal e = cc

field_of : (item : Item) (next : ℕ) (kind : Kind) (numbers : List ℕ) (other : ℕ)
    → of_item item next ≡ field kind numbers other
    → (item ≡ Item.field (place_of item) kind numbers) × (next ≡ other)
unfolding place_of
field_of (Item.field at k ns) next kind numbers other e = ((cc), (cc))
field_of (Item.broken at r) next kind numbers other e = ((cc), (cc))

never_end : (item : Item) (next : ℕ) → of_item item next ≡ end → ⊥
never_end (Item.field at kind numbers) next e = let z : ◌≡◌ {A = ℕ} 0 1 = cc in omega arith
never_end (Item.broken at refusal) next e = let z : ◌≡◌ {A = ℕ} 0 1 = cc in omega arith

item_fits : (w at : ℕ) (left : List ℕ) (place : ℕ) (kind : Kind) (numbers : List ℕ)
    → item_at w at left ≡ Item.field place kind numbers
    → (3 + length_at left ≤ length left) × (length numbers ≡ length (parts kind))
unfolding item_at
item_fits w at left place kind numbers e =
    let found = field_item w at (kind_of (tag_at left)) (first_met (head_tests w left)) left place kind numbers e in (
      ltb-false (length left) (3 + length_at left)
          (passed
          (ltb (length left) 3)
          (not (is_some (kind_of (tag_at left))))
          (not (eqb (length_at left) (own_length w (kind_of (tag_at left)))))
          (ltb (length left) (3 + length_at left))
          found.0).1,
      found.1,
    )

-- the paper's item at a place, and the next place
abbrev item_here : (w : ℕ) → List ℕ → (at : ℕ) → Item
item_here w bytes at = item_at w at (drop at bytes)

abbrev next_of : List ℕ → (at : ℕ) → ℕ
next_of bytes at = at + (3 + length_at (drop at bytes))

module _ (w : ℕ) (bytes : List ℕ) (at : ℕ) where
  unroll : (bound : ℕ) → at < length bytes
      → items_from (suc bound) w at (drop at bytes)
      ≡ followed_by (item_here w bytes at) (items_from bound w (next_of bytes at) (drop (next_of bytes at) bytes))
  unroll bound inside =
      let some_left : 0 < length (drop at bytes) = simp length-drop (omega arith) in
      unroll_list bound w at (drop at bytes) some_left ∙ simp drop-drop

  here_place : place_of (item_here w bytes at) ≡ at
  unfolding item_at
  here_place = item_place w at (kind_of (tag_at (drop at bytes))) (first_met (head_tests w (drop at bytes))) (drop at bytes)

  inside_of : (standing w bytes at ≡ end → ⊥) → at < length bytes
  inside_of stands = go (dec_le (length bytes) at)
    where
      go : Dec (length bytes ≤ at) → at < length bytes
      go (yes h) = absurd (stands (at_end w bytes at h))
      go (no h) = omega arith

  pub items_end : (bound : ℕ) → standing w bytes at ≡ end → items_from (suc bound) w at (drop at bytes) ≡ []
  items_end bound e = go (dec_le (length bytes) at)
    where
      go : Dec (length bytes ≤ at) → items_from (suc bound) w at (drop at bytes) ≡ []
      go (yes h) = rw (drop_of_length-le bytes h)
      go (no h) = absurd (never_end (item_here w bytes at) (next_of bytes at) (sym (at_item w bytes at (omega arith)) ∙ e))

  pub items_broken : (bound place refusal : ℕ) → standing w bytes at ≡ broken place refusal
      → (items_from (suc bound) w at (drop at bytes) ≡ Item.broken place refusal ∷ []) × (place ≡ at)
  unfolding place_of
  items_broken bound place refusal e =
      let inside : at < length bytes = inside_of (λ f. let z : ◌≡◌ {A = ℕ} 0 1 = cc in omega arith) in
      let item : item_here w bytes at ≡ Item.broken place refusal =
      broken_of (item_here w bytes at) (next_of bytes at) place refusal (sym (at_item w bytes at inside) ∙ e) in
      (unroll bound inside ∙ rw item, sym (ap place_of item) ∙ here_place)

  field_here : (kind : Kind) (numbers : List ℕ) (next : ℕ) → standing w bytes at ≡ field kind numbers next
      → (at < length bytes) × (item_here w bytes at ≡ Item.field at kind numbers) × (next_of bytes at ≡ next)
  field_here kind numbers next e =
      let inside : at < length bytes = inside_of (λ f. let z : ◌≡◌ {A = ℕ} 0 1 = cc in omega arith) in
      let found = field_of (item_here w bytes at) (next_of bytes at) kind numbers next (sym (at_item w bytes at inside) ∙ e) in
      (inside, found.0 ∙ ap (λ (place : ℕ). Item.field place kind numbers) here_place, found.1)

  pub items_field : (bound : ℕ) (kind : Kind) (numbers : List ℕ) (next : ℕ) → standing w bytes at ≡ field kind numbers next
      → (items_from (suc bound) w at (drop at bytes) ≡ Item.field at kind numbers ∷ items_from bound w next (drop next bytes))
      × (at + 3 ≤ next)
      × (next ≤ length bytes)
  items_field bound kind numbers next e =
      let here = field_here kind numbers next e in
      let whole = simp length-drop at (item_fits w at (drop at bytes) at kind numbers here.1).0 in
      (unroll bound here.0 ∙ rw (here.1, here.2), omega (arith, here.2), omega (arith, here.0, here.2))
