-- 02, E7, of bytes: the items of a front that is cut between two fields begin those of the whole, and a front whose items are all fields is
-- so cut. A field goes by its own bytes alone: what stands before a cut is read alike with the rest and without it.
-- Assumes nothing.
use Prim.Native.Nat.{ℕ, zero, suc, ◌+◌, ◌≤◌}
use native.Mathlib.Nat.{add-zero, not-suc-le-zero}
use native.Mathlib.Omega.{arith}
use mathlib.Core.Path.{◌≡◌, refl, sym, ap, ap₂, ◌∙◌, subst}
use mathlib.Core.Logic.{◌⊎◌, inl, inr, ⊎_elim}
use mathlib.Core.List.Memᴰ
use mathlib.Core.List.{List, [], ◌∷◌, ◌++◌, map}
use mathlib.Core.Option.{Option, none, some}
use borrow.Author.Tests.{ltb-false, le-ltb, eqb-true, eq-eqb, not-false}
use lib.Dec.{eqb}
use lib.ListN.{length, get_or, take, drop, length-append, length-take, length-drop}
use lib.Seq.{take-append-le, drop-append-le, get_or-take, take-take, take-add, drop_at, length-take-le}
use Rattle.paper.specs.Lists.{◌∈◌, sum, number, first_met}
use Rattle.paper.specs.Fields.{Part, Kind, parts, size, own_length, cut, Item, field, broken, length_at, kind_of, tag_at, head_tests, item_of, item_at, followed_by, items_from}
use Rattle.paper.specs.Fronts.{place_of}
use Rattle.meaning.proofs.Tests.{AllTwoToNine, none_met}
use Rattle.meaning.proofs.Built.{item_in}

-- Bytes that begin alike
module _ (one other : List ℕ) where
  -- of so many bytes that are the same, fewer are the same, and so are those that begin further on
  fewer : (n many : ℕ) → n ≤ many → take many one ≡ take many other → take n one ≡ take n other
  fewer n many h same = sym (take-take n many one h) ∙ ap (take n) same ∙ take-take n many other h

  further : (k n : ℕ) → take (k + n) one ≡ take (k + n) other → k ≤ length one → k ≤ length other → take n (drop k one) ≡ take n (drop k other)
  further k n same one_has other_has = sym (inside one one_has) ∙ ap (drop k) same ∙ inside other other_has
    where
      inside : (bytes : List ℕ) → k ≤ length bytes → drop k (take (k + n) bytes) ≡ take n (drop k bytes)
      inside bytes has = ap (drop k) (take-add k n bytes) ∙ drop_at (take k bytes) (take n (drop k bytes)) k (length-take-le k bytes has)

-- numbers are cut from as many bytes as the parts have
cut_alike : (w : ℕ) (rest : List Part) (one other : List ℕ) → take (sum (map (size w) rest)) one ≡ take (sum (map (size w) rest)) other
    → sum (map (size w) rest) ≤ length one → sum (map (size w) rest) ≤ length other → cut w rest one ≡ cut w rest other
cut_alike w [] one other same one_has other_has = refl
cut_alike w (part ∷ rest) one other same one_has other_has =
    let here = size w part in
    let later = sum (map (size w) rest) in
    ap₂ (λ (x : ℕ) (xs : List ℕ). x ∷ xs) (ap number (fewer one other here (here + later) (omega arith) same))
    (cut_alike w rest (drop here one) (drop here other) (further one other here later same (omega arith) (omega arith)) (rw length-drop (omega arith)) (rw length-drop (omega arith)))

-- A field that stands at the front of bytes: its place, kind and numbers, its head's length, and that all of it is there
record Stands (w at : ℕ) (left : List ℕ) (there : ℕ) (kind : Kind) (numbers : List ℕ) : Type 0 where
  place : there ≡ at
  are : numbers ≡ cut w (parts kind) (drop 3 left)
  known : kind_of (tag_at left) ≡ some kind
  head : 3 ≤ length left
  own : length_at left ≡ own_length w (some kind)
  whole : 3 + length_at left ≤ length left

stands : (w at : ℕ) (left : List ℕ) {there : ℕ} {kind : Kind} {numbers : List ℕ} → item_at w at left ≡ field there kind numbers → Stands w at left there kind numbers
unfolding item_at
stands w at left {there} {kind} {numbers} e = go (kind_of (tag_at left)) refl (first_met (head_tests w left)) refl e
  where
    go : (known : Option Kind) → kind_of (tag_at left) ≡ known → (refusal : ℕ) → first_met (head_tests w left) ≡ refusal → item_of w at known refusal left ≡ field there kind numbers
        → Stands w at left there kind numbers
    go none is refusal met e = let never : ◌≡◌ {A = ℕ} 0 1 = cc in absurd (omega arith)
    go (some other) is (suc refusal) met e = let never : ◌≡◌ {A = ℕ} 0 1 = cc in absurd (omega arith)
    go (some other) is zero met e =
        let same : other ≡ kind = cc in
        let numbered : AllTwoToNine (head_tests w left) = omega arith in
        let each = none_met (head_tests w left) numbered met in
        record {
          place = cc;
          are = cc;
          known = is ∙ ap some same;
          head = ltb-false (length left) 3 each.0;
          own = rw (is, same) at (eqb-true (length_at left) (own_length w (kind_of (tag_at left))) (not-false (eqb (length_at left) (own_length w (kind_of (tag_at left)))) each.1.1.0));
          whole = ltb-false (length left) (3 + length_at left) each.1.1.1.0;
        }

-- bytes that begin with all of a field have the same field at their front
field_alike : (w at : ℕ) (left other : List ℕ) {there : ℕ} {kind : Kind} {numbers : List ℕ} → item_at w at left ≡ field there kind numbers
    → take (3 + length_at left) left ≡ take (3 + length_at left) other → (length_at other ≡ length_at left) × (item_at w at other ≡ field there kind numbers)
unfolding item_at
field_alike w at left other {there} {kind} {numbers} is same =
    let known : kind_of (tag_at other) ≡ some kind = ap kind_of (sym tag) ∙ at_left.known in
    let unmet : first_met (head_tests w other) ≡ 0 =
    rw (
      known,
      le-ltb (length other) 3 (omega (arith, has, at_left.head)),
      long,
      eq-eqb (length_at left) (own_length w (some kind)) at_left.own,
      le-ltb (length other) (3 + length_at left) has,
    ) in
    let cut_same = cut_alike w (parts kind) (drop 3 left) (drop 3 other) values (rw length-drop (omega (arith, at_left.own, at_left.whole))) (rw length-drop (omega (arith, at_left.own, has))) in
    (long, rw (unmet, known) (ap₂ (λ (place : ℕ) (xs : List ℕ). field place kind xs) (sym at_left.place) (sym cut_same ∙ sym at_left.are)))
  where
    at_left : Stands w at left there kind numbers
    at_left = stands w at left is

    has : 3 + length_at left ≤ length other
    has = let long = simp length-take at (ap length same) in omega (arith, long, at_left.whole)

    tag : tag_at left ≡ tag_at other
    tag = sym (get_or-take (3 + length_at left) left 0 0 (omega arith)) ∙ ap (λ (l : List ℕ). get_or l 0 0) same ∙ get_or-take (3 + length_at left) other 0 0 (omega arith)

    values : take (own_length w (some kind)) (drop 3 left) ≡ take (own_length w (some kind)) (drop 3 other)
    values = rw (← at_left.own) (further left other 3 (length_at left) same at_left.head (omega (arith, has)))

    long : length_at other ≡ length_at left
    long = ap number (sym (further left other 1 2 (fewer left other 3 (3 + length_at left) (omega arith) same) (omega (arith, at_left.head)) (omega (arith, has))))

-- so the items of such bytes begin with it
field_first : (bound w at : ℕ) (left other : List ℕ) {there : ℕ} {kind : Kind} {numbers : List ℕ} → item_at w at left ≡ field there kind numbers
    → take (3 + length_at left) left ≡ take (3 + length_at left) other
    → items_from (suc bound) w at other ≡ field there kind numbers ∷ items_from bound w (at + (3 + length_at left)) (drop (3 + length_at left) other)
field_first bound w at left [] is same = let none_there = simp length-take at (ap length same) in absurd (omega (arith, none_there, (stands w at left is).whole))
field_first bound w at left (byte ∷ bytes) is same =
    let (long, alike) = field_alike w at left (byte ∷ bytes) is same in
    ap₂ (λ (item : Item) (n : ℕ). followed_by item (items_from bound w (at + (3 + n)) (drop (3 + n) (byte ∷ bytes)))) alike long

place_is : (w at : ℕ) (left : List ℕ) → place_of (item_at w at left) ≡ at
unfolding item_at
place_is w at left = go (kind_of (tag_at left)) (first_met (head_tests w left))
  where
    go : (known : Option Kind) (refusal : ℕ) → place_of (item_of w at known refusal left) ≡ at
    go none refusal = refl
    go (some kind) zero = refl
    go (some kind) (suc refusal) = refl

-- The places of the items from a place on, and the end: where bytes can be cut
abbrev pub places : (bound w at : ℕ) → List ℕ → List ℕ
places bound w at bytes = map place_of (items_from bound w at bytes) ++ ((at + length bytes) ∷ [])

-- none is before the bytes
places_after : (bound w at : ℕ) (bytes : List ℕ) {p : ℕ} → p ∈ places bound w at bytes → at ≤ p
places_after bound w at bytes {p} here = ⊎_elim item (λ end. let is : p ≡ at + length bytes = Memᴰ.eq_of_singleton end in omega arith) (Memᴰ.append_cases (map place_of (items_from bound w at bytes)) here)
  where
    item : p ∈ map place_of (items_from bound w at bytes) → at ≤ p
    item there =
        let (one, among, is) = Memᴰ.of_map place_of (items_from bound w at bytes) there in
        let (place, inside, same) = item_in bound w at bytes among in
        let stands_at : p ≡ at + place = sym is ∙ ap place_of same ∙ place_is w (at + place) (drop place bytes) in
        omega arith

-- no item is broken
abbrev pub AllFields : List Item → Type 0
AllFields [] = Unit {0}
AllFields (broken at refusal ∷ rest) = ⊥
AllFields (field at kind numbers ∷ rest) = AllFields rest

-- the items of a front that ends at such a place begin the items of the whole
pub front_items : (bound w at : ℕ) (front rest : List ℕ) → length (front ++ rest) ≤ bound → AllFields (items_from bound w at (front ++ rest))
    → (at + length front) ∈ places bound w at (front ++ rest) → (after : List Item) × (items_from bound w at (front ++ rest) ≡ items_from bound w at front ++ after)
front_items zero w at front rest fits all here = ([], refl)
front_items (suc bound) w at [] rest fits all here = (items_from (suc bound) w at rest, refl)
front_items (suc bound) w at (byte ∷ more) rest fits all here =
    go (item_at w at left) refl all here (λ shorter short fields there. front_items bound w (at + next) shorter rest short fields there)
  where
    front : List ℕ
    front = byte ∷ more

    left : List ℕ
    left = front ++ rest

    next : ℕ
    next = 3 + length_at left

    go : (item : Item) → item_at w at left ≡ item → AllFields (followed_by item (items_from bound w (at + next) (drop next left)))
        → (at + length front) ∈ map place_of (followed_by item (items_from bound w (at + next) (drop next left))) ++ ((at + length left) ∷ [])
        → ((shorter : List ℕ) → length (shorter ++ rest) ≤ bound → AllFields (items_from bound w (at + next) (shorter ++ rest))
        → (at + next + length shorter) ∈ places bound w (at + next) (shorter ++ rest)
        → (after : List Item) × (items_from bound w (at + next) (shorter ++ rest) ≡ items_from bound w (at + next) shorter ++ after))
        → (after : List Item) × (items_from (suc bound) w at left ≡ items_from (suc bound) w at front ++ after)
    go (broken there refusal) is all here below = absurd all
    go (field there kind numbers) is all here below = split (Memᴰ.cases_cons here)
      where
        at_left : Stands w at left there kind numbers
        at_left = stands w at left is

        ends : at + length left ≡ at + next + length (drop next left)
        ends = rw length-drop (omega (arith, at_left.whole))

        -- the field, and then those of a front of the rest
        joined : next ≤ length front → (after : List Item) → items_from bound w (at + next) (drop next front ++ rest) ≡ items_from bound w (at + next) (drop next front) ++ after
            → items_from (suc bound) w at left ≡ items_from (suc bound) w at front ++ after
        joined far after are =
            field_first bound w at left left is refl
            ∙ ap (λ (l : List Item). field there kind numbers ∷ l) (ap (items_from bound w (at + next)) (drop-append-le next front rest far) ∙ are)
            ∙ ap (λ (l : List Item). l ++ after) (sym (field_first bound w at left front is (take-append-le next front rest far)))

        onward : (at + length front) ∈ places bound w (at + next) (drop next left) → (after : List Item) × (items_from (suc bound) w at left ≡ items_from (suc bound) w at front ++ after)
        onward later =
            let far : next ≤ length front = omega (arith, places_after bound w (at + next) (drop next left) later) in
            let apart : drop next left ≡ drop next front ++ rest = drop-append-le next front rest far in
            let place : at + length front ≡ at + next + length (drop next front) = rw length-drop (omega (arith, far)) in
            let short : length (drop next front ++ rest) ≤ bound = rw (← apart, length-drop) (omega (arith, fits)) in
            let (after, are) = below (drop next front) short (rw apart at all) (subst (λ (p : ℕ). p ∈ places bound w (at + next) (drop next front ++ rest)) place (rw apart at later)) in
            (after, joined far after are)

        split : (at + length front ≡ there) ⊎ ((at + length front) ∈ map place_of (items_from bound w (at + next) (drop next left)) ++ ((at + length left) ∷ []))
            → (after : List Item) × (items_from (suc bound) w at left ≡ items_from (suc bound) w at front ++ after)
        split (inl first) = absurd (omega (arith, first, at_left.place))
        split (inr later) = onward (rw ends at later)

-- bytes can be cut where they begin
begin_place : (bound w at : ℕ) (bytes : List ℕ) → length bytes ≤ bound → (at + 0) ∈ places bound w at bytes
begin_place zero w at [] fits = Memᴰ.head refl
begin_place zero w at (byte ∷ bytes) fits = absurd (not-suc-le-zero fits)
begin_place (suc bound) w at [] fits = Memᴰ.head refl
begin_place (suc bound) w at (byte ∷ bytes) fits = first (item_at w at (byte ∷ bytes)) (add-zero at ∙ sym (place_is w at (byte ∷ bytes)))
  where
    first : (item : Item) → at + 0 ≡ place_of item
        → (at + 0) ∈ map place_of (followed_by item (items_from bound w (at + (3 + length_at (byte ∷ bytes))) (drop (3 + length_at (byte ∷ bytes)) (byte ∷ bytes)))) ++ ((at + length (byte ∷ bytes)) ∷ [])
    first (broken there refusal) same = Memᴰ.head same
    first (field there kind numbers) same = Memᴰ.head same

-- and where a front ends whose items are all fields
pub front_place : (bound other w at : ℕ) (front rest : List ℕ) → length front ≤ bound → length (front ++ rest) ≤ other → AllFields (items_from bound w at front)
    → (at + length front) ∈ places other w at (front ++ rest)
front_place zero other w at [] rest short fits all = begin_place other w at rest fits
front_place zero other w at (byte ∷ more) rest short fits all = absurd (not-suc-le-zero short)
front_place (suc bound) other w at [] rest short fits all = begin_place other w at rest fits
front_place (suc bound) zero w at (byte ∷ more) rest short fits all = absurd (not-suc-le-zero fits)
front_place (suc bound) (suc other) w at (byte ∷ more) rest short fits all =
    go (item_at w at front) refl all (λ shorter brief within fields. front_place bound other w (at + next) shorter rest brief within fields)
  where
    front : List ℕ
    front = byte ∷ more

    next : ℕ
    next = 3 + length_at front

    go : (item : Item) → item_at w at front ≡ item → AllFields (followed_by item (items_from bound w (at + next) (drop next front)))
        → ((shorter : List ℕ) → length shorter ≤ bound → length (shorter ++ rest) ≤ other → AllFields (items_from bound w (at + next) shorter)
        → (at + next + length shorter) ∈ places other w (at + next) (shorter ++ rest))
        → (at + length front) ∈ places (suc other) w at (front ++ rest)
    go (broken there refusal) is all below = absurd all
    go (field there kind numbers) is all below =
        let far : next ≤ length front = (stands w at front is).whole in
        let apart : drop next (front ++ rest) ≡ drop next front ++ rest = drop-append-le next front rest far in
        let brief : length (drop next front) ≤ bound = rw length-drop (omega (arith, short)) in
        let within : length (drop next front ++ rest) ≤ other = rw (← apart, length-drop) (omega (arith, fits)) in
        let place : at + next + length (drop next front) ≡ at + length front = rw length-drop (omega (arith, far)) in
        let ends : at + next + length (drop next front ++ rest) ≡ at + length (front ++ rest) = rw (← apart, length-drop) (omega (arith, far, length-append front rest)) in
        let later = below (drop next front) brief within all in
        subst (λ (l : List Item). (at + length front) ∈ map place_of l ++ ((at + length (front ++ rest)) ∷ []))
        (sym (field_first other w at front (front ++ rest) is (sym (take-append-le next front rest far))))
        (Memᴰ.tail (rw apart (rw (place, ends) at later)))
