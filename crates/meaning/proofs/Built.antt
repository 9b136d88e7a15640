-- What is accepted is built up from nothing, a field at a time: each field has a number for each part, of the part's size, and no test
-- of a field is met.
-- Assumes nothing.
use Prim.Native.Nat.{ℕ, zero, suc, ◌+◌, ◌*◌, ◌^◌, ◌≤◌, ◌<◌}
use native.Mathlib.Nat.{not-suc-le-zero, add-zero, add_assoc, mul-le-mul_right, pow-le-pow_right, le_trans, pow-succ', mul_assoc}
use native.Mathlib.Omega.{arith}
use mathlib.Core.Path.{◌≡◌, refl, sym, ap, ap₂, ◌∙◌, subst}
use mathlib.Core.Logic.{◌⊎◌, inl, inr, ⊎_elim, ⊎_map, ◌≢◌}
use mathlib.Core.List.Memᴰ
use mathlib.Core.List.{List, [], ◌∷◌}
use mathlib.Core.Option.{Option, none, some}
use lib.Dec.{ltb}
use lib.ListN.{length, get_or, take, drop, length-take, length-drop}
use lib.Seq.{drop-drop}
use borrow.Author.Tests.{ltb-true, ltb-false}
use Rattle.paper.specs.Lists.{◌∈◌, number_from, number, first_met}
use Rattle.paper.specs.Fields.{Part, Kind, parts, size, cut, Item, field, broken, length_at, kind_of, tag_at, head_tests, item_of, item_at, followed_by, items_from, items}
use Rattle.paper.specs.Terms.{Query}
use Rattle.paper.specs.Load.{faults, extend, empty, Loaded, load_items, max_bytes, load}
use Rattle.meaning.proofs.Tests.{cond_cases, unless_refused_lem}

-- as many numbers as parts, each below the first number that needs more bytes than the part has
pub data Shaped (w : ℕ) : List Part → List ℕ → Type 0 where
  no_part : Shaped w [] []
  one_part : {part : Part} {rest : List Part} {x : ℕ} {numbers : List ℕ} → x < 256 ^ size w part → Shaped w rest numbers → Shaped w (part ∷ rest) (x ∷ numbers)

-- a query that comes of fields, each with its parts' numbers and with no test met against the fields before it
pub data Built (w : ℕ) : Query → Type 0 where
  nothing : Built w empty
  more : {query : Query} → Built w query → (kind : Kind) (numbers : List ℕ) → Shaped w (parts kind) numbers → first_met (faults query kind numbers) ≡ 0 → Built w (extend query kind numbers)

-- every element of a list is a byte
abbrev pub AreBytes : List ℕ → Type 0
AreBytes bytes = (x : ℕ) → x ∈ bytes → x < 256

-- a slice of bytes is such a list
pub are_bytes : (xs : List ℕ) → ((i : ℕ) → get_or xs i 0 < 256) → AreBytes xs
are_bytes [] small x here = absurd (Memᴰ.not-nil here)
are_bytes (y ∷ xs) small x here = go (Memᴰ.cases_cons here) (are_bytes xs (λ i. small (suc i)) x)
  where
    go : (x ≡ y) ⊎ (x ∈ xs) → (x ∈ xs → x < 256) → x < 256
    go (inl same) later = subst (λ (z : ℕ). z < 256) (sym same) (small 0)
    go (inr further) later = later further

-- what is taken or left of bytes is of them
take_in : (k : ℕ) (bytes : List ℕ) {x : ℕ} → x ∈ take k bytes → x ∈ bytes
take_in zero bytes here = absurd (Memᴰ.not-nil here)
take_in (suc k) [] here = here
take_in (suc k) (byte ∷ bytes) (Memᴰ.head same) = Memᴰ.head same
take_in (suc k) (byte ∷ bytes) (Memᴰ.tail further) = Memᴰ.tail (take_in k bytes further)

pub drop_in : (k : ℕ) (bytes : List ℕ) {x : ℕ} → x ∈ drop k bytes → x ∈ bytes
drop_in zero bytes here = here
drop_in (suc k) [] here = here
drop_in (suc k) (byte ∷ bytes) here = Memᴰ.tail (drop_in k bytes here)

-- a number of k bytes is below 256 ^ k
number_from_below : (high : ℕ) (bytes : List ℕ) → AreBytes bytes → number_from high bytes < suc high * 256 ^ length bytes
number_from_below high [] are = omega arith
number_from_below high (byte ∷ bytes) are =
    let small = are byte (Memᴰ.head refl) in
    let within : suc (high * 256 + byte) ≤ suc high * 256 = omega arith in
    rw (pow-succ', ← mul_assoc) (le_trans (number_from_below (high * 256 + byte) bytes (λ x here. are x (Memᴰ.tail here))) (mul-le-mul_right (256 ^ length bytes) within))

pub number_below : (k : ℕ) (bytes : List ℕ) → AreBytes bytes → number (take k bytes) < 256 ^ k
number_below k bytes are =
    let short : length (take k bytes) ≤ k = rw length-take (omega arith) in
    let power = pow-le-pow_right {n = 256} (omega arith) short in
    omega (arith, number_from_below 0 (take k bytes) (λ x here. are x (take_in k bytes here)))

-- the numbers that are cut from bytes fit their parts
pub cut_shaped : (w : ℕ) (rest : List Part) (bytes : List ℕ) → AreBytes bytes → Shaped w rest (cut w rest bytes)
cut_shaped w [] bytes are = no_part
cut_shaped w (part ∷ rest) bytes are =
    one_part (number_below (size w part) bytes are) (cut_shaped w rest (drop (size w part) bytes) (λ x here. are x (drop_in (size w part) bytes here)))

-- an item of a run is the first, or one of the rest
followed_in : (first : Item) {rest : List Item} {item : Item} → item ∈ followed_by first rest → (item ≡ first) ⊎ (item ∈ rest)
followed_in (broken at refusal) (Memᴰ.head same) = inl same
followed_in (broken at refusal) (Memᴰ.tail further) = absurd (Memᴰ.not-nil further)
followed_in (field at kind numbers) (Memᴰ.head same) = inl same
followed_in (field at kind numbers) (Memᴰ.tail further) = inr further

-- each item is what stands at a place of the bytes
pub item_in : (bound w at : ℕ) (bytes : List ℕ) {item : Item} → item ∈ items_from bound w at bytes → (place : ℕ) × (place < length bytes) × (item ≡ item_at w (at + place) (drop place bytes))
item_in zero w at bytes here = absurd (Memᴰ.not-nil here)
item_in (suc bound) w at [] here = absurd (Memᴰ.not-nil here)
item_in (suc bound) w at (byte ∷ bytes) {item} here = go (followed_in (item_at w at left) here) (item_in bound w (at + next) (drop next left))
  where
    left : List ℕ
    left = byte ∷ bytes

    next : ℕ
    next = 3 + length_at left

    go : (item ≡ item_at w at left) ⊎ (item ∈ items_from bound w (at + next) (drop next left))
        → (item ∈ items_from bound w (at + next) (drop next left) → (place : ℕ) × (place < length (drop next left)) × (item ≡ item_at w (at + next + place) (drop place (drop next left))))
        → (place : ℕ) × (place < length left) × (item ≡ item_at w (at + place) (drop place left))
    go (inl same) below = (0, omega arith, rw add-zero same)
    go (inr further) below =
        let (place, inside, same) = below further in
        let within = rw length-drop at inside in
        (next + place, omega arith, same ∙ ap₂ (item_at w) (add_assoc at next place) (drop-drop place next left))

-- the bound of the items is enough where it is as large as the number of bytes
pub items_enough : (bound other w at : ℕ) (bytes : List ℕ) → length bytes ≤ bound → length bytes ≤ other → items_from bound w at bytes ≡ items_from other w at bytes
items_enough zero zero w at bytes h k = refl
items_enough zero (suc other) w at [] h k = refl
items_enough zero (suc other) w at (byte ∷ bytes) h k = absurd (not-suc-le-zero h)
items_enough (suc bound) zero w at [] h k = refl
items_enough (suc bound) zero w at (byte ∷ bytes) h k = absurd (not-suc-le-zero k)
items_enough (suc bound) (suc other) w at [] h k = refl
items_enough (suc bound) (suc other) w at (byte ∷ bytes) h k =
    let left = byte ∷ bytes in
    let next = 3 + length_at left in
    ap (followed_by (item_at w at left)) (items_enough bound other w (at + next) (drop next left) (rw length-drop (omega arith)) (rw length-drop (omega arith)))

-- a field that stands at a place has its parts' numbers
abbrev ItemShaped : ℕ → Item → Type 0
ItemShaped w (broken at refusal) = Unit {0}
ItemShaped w (field at kind numbers) = Shaped w (parts kind) numbers

item_shaped : (w at : ℕ) (bytes : List ℕ) → AreBytes bytes → ItemShaped w (item_at w at bytes)
unfolding item_at
item_shaped w at bytes are = go (kind_of (tag_at bytes)) (first_met (head_tests w bytes))
  where
    go : (kind : Option Kind) (refusal : ℕ) → ItemShaped w (item_of w at kind refusal bytes)
    go none refusal = tt
    go (some kind) zero = cut_shaped w (parts kind) (drop 3 bytes) (λ x here. are x (drop_in 3 bytes here))
    go (some kind) (suc refusal) = tt

-- a load is refused for its length, or is that of the items
pub load_cases : (w : ℕ) (bytes : List ℕ)
    → ((max_bytes < length bytes) × (load w bytes ≡ Loaded.refused 1 0)) ⊎ ((length bytes ≤ max_bytes) × (load w bytes ≡ load_items (items w bytes) empty))
unfolding load
load_cases w bytes =
    ⊎_map (λ long. (ltb-true max_bytes (length bytes) long.0, long.1)) (λ short. (ltb-false max_bytes (length bytes) short.0, short.1))
    (cond_cases (ltb max_bytes (length bytes)) (Loaded.refused 1 0) (load_items (items w bytes) empty))

-- a field is refused by the first of its tests that is met, or the load goes on with it
pub load_field : (at : ℕ) (kind : Kind) (numbers : List ℕ) (rest : List Item) (query : Query)
    → ((first_met (faults query kind numbers) ≡ 0) × (load_items (field at kind numbers ∷ rest) query ≡ load_items rest (extend query kind numbers)))
    ⊎ ((first_met (faults query kind numbers) ≢ 0) × (load_items (field at kind numbers ∷ rest) query ≡ Loaded.refused (first_met (faults query kind numbers)) at))
load_field at kind numbers rest query = unless_refused_lem (first_met (faults query kind numbers)) (λ refusal. Loaded.refused refusal at) (load_items rest (extend query kind numbers))

-- what is refused is not accepted
pub refused_accepted : {A : Type 0} {loaded : Loaded} {refusal at : ℕ} {query : Query} → loaded ≡ Loaded.refused refusal at → loaded ≡ Loaded.accepted query → A
refused_accepted e other = let never : ◌≡◌ {A = ℕ} 0 1 = cc in absurd (omega arith)

-- what is loaded of items is built from what was there before
loaded_built : (w : ℕ) (rest : List Item) (query answer : Query) → ((item : Item) → item ∈ rest → ItemShaped w item) → Built w query → load_items rest query ≡ Loaded.accepted answer → Built w answer
loaded_built w [] query answer shaped built e = let same : query ≡ answer = cc in subst (Built w) same built
loaded_built w (broken at refusal ∷ rest) query answer shaped built e = refused_accepted refl e
loaded_built w (field at kind numbers ∷ rest) query answer shaped built e =
    ⊎_elim
    (λ unmet. loaded_built w rest (extend query kind numbers) answer (λ item here. shaped item (Memᴰ.tail here))
    (more built kind numbers (shaped (field at kind numbers) (Memᴰ.head refl)) unmet.0) (sym unmet.1 ∙ e))
    (λ met. refused_accepted met.1 e) (load_field at kind numbers rest query)

pub accepted_built : (w : ℕ) (bytes : List ℕ) (query : Query) → AreBytes bytes → load w bytes ≡ Loaded.accepted query → Built w query
accepted_built w bytes query are e =
    ⊎_elim (λ long. refused_accepted long.1 e) (λ short. loaded_built w (items w bytes) empty query shaped nothing (sym short.1 ∙ e)) (load_cases w bytes)
  where
    shaped : (item : Item) → item ∈ items w bytes → ItemShaped w item
    shaped item here =
        let (place, inside, same) = item_in (length bytes) w 0 bytes here in
        rw same (item_shaped w (0 + place) (drop place bytes) (λ x there. are x (drop_in place bytes there)))
