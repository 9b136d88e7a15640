-- Laws of the paper's list functions, and of Boolean tests, that more than one theorem cites.
-- Assumes nothing.
use Prim.Native.Nat.{ℕ, zero, suc, ◌+◌, ◌<◌, ◌≤◌}
use native.Mathlib.Nat.{zero-add, suc-add, add-zero, add-suc, not-suc-le-zero, le_of_suc-le-suc}
use native.Mathlib.Omega.{arith}
use mathlib.Core.Path.{◌≡◌, refl, sym, ap, ap₂, ◌∙◌, subst}
use mathlib.Core.Logic.{◌⊎◌, inl, inr}
use mathlib.Core.Bool.{Bool, true, false, cond, ◌&&◌, ◌||◌, true≢false, false≢true}
use mathlib.Core.List.Memᴰ
use mathlib.Core.List.{List, [], ◌∷◌, ◌++◌, map, append_assoc}
use mathlib.Core.Option.{none, some, none-ne-some}
use lib.ListN.{length, get_or}
use Rattle.paper.specs.Lists.{◌∈◌, any, all, keep, find, count, concat_map, range}

-- what a conjunction and a disjunction of tests say
pub and_left : (a b : Bool) → (a && b) ≡ true → a ≡ true
and_left true b e = refl
and_left false b e = e

pub and_right : (a b : Bool) → (a && b) ≡ true → b ≡ true
and_right true b e = e
and_right false b e = absurd (false≢true e)

pub or_cases : (a b : Bool) → (a || b) ≡ true → (a ≡ true) ⊎ (b ≡ true)
or_cases true b e = inl refl
or_cases false b e = inr e

pub or_right : (a b : Bool) → b ≡ true → (a || b) ≡ true
or_right true b e = refl
or_right false b e = e

-- two tests that are true together are one
pub same_test : (a b : Bool) → (a ≡ true → b ≡ true) → (b ≡ true → a ≡ true) → a ≡ b
same_test true b there back = sym (there refl)
same_test false true there back = back refl
same_test false false there back = refl

pub cond_false : {A : Type 0} {b : Bool} (x y : A) → b ≡ false → cond b x y ≡ y
cond_false x y e = rw e

pub count_same : {A : Type 0} (test other : A → Bool) → ((x : A) → test x ≡ other x) → (xs : List A) → count test xs ≡ count other xs
count_same test other same [] = refl
count_same test other same (x ∷ xs) = ap₂ (λ b n. cond b 1 0 + n) (same x) (count_same test other same xs)

pub count_append : {A : Type 0} (test : A → Bool) (xs ys : List A) → count test (xs ++ ys) ≡ count test xs + count test ys
count_append test [] ys = sym (zero-add (count test ys))
count_append test (x ∷ xs) ys = omega (arith, count_append test xs ys)

-- tests that agree on a list come to the same, and find the same
pub any_same : {A : Type 0} {test other : A → Bool} (xs : List A) → ((x : A) → x ∈ xs → test x ≡ other x) → any test xs ≡ any other xs
any_same [] same = refl
any_same (x ∷ xs) same = ap₂ ◌||◌ (same x (Memᴰ.head refl)) (any_same xs (λ y here. same y (Memᴰ.tail here)))

pub find_same : {A : Type 0} {test other : A → Bool} (xs : List A) → ((x : A) → x ∈ xs → test x ≡ other x) → find test xs ≡ find other xs
find_same [] same = refl
find_same (x ∷ xs) same =
    ap₂ (λ b found. cond b (some x) found) (same x (Memᴰ.head refl)) (find_same xs (λ y here. same y (Memᴰ.tail here)))

pub keep_same : {A : Type 0} {test other : A → Bool} (xs : List A) → ((x : A) → x ∈ xs → test x ≡ other x) → keep test xs ≡ keep other xs
keep_same [] same = refl
keep_same {A} (x ∷ xs) same =
    ap₂ (λ (b : Bool) (kept : List A). cond b (x ∷ kept) kept) (same x (Memᴰ.head refl)) (keep_same xs (λ y here. same y (Memᴰ.tail here)))

module _ {A : Type 0} (test : A → Bool) where
  -- what is kept is of the list and passes the test; and back
  pub keep_in : (xs : List A) {x : A} → x ∈ keep test xs → (x ∈ xs) × (test x ≡ true)
  keep_in [] here = absurd (Memᴰ.not-nil here)
  keep_in (y ∷ xs) {x} here = go (test y) refl (λ below. keep_in xs below) here
    where
      go : (b : Bool) → test y ≡ b → (x ∈ keep test xs → (x ∈ xs) × (test x ≡ true)) → x ∈ cond b (y ∷ keep test xs) (keep test xs) → (x ∈ y ∷ xs) × (test x ≡ true)
      go true e below (Memᴰ.head same) = (Memᴰ.head same, ap test same ∙ e)
      go true e below (Memᴰ.tail further) = (Memᴰ.tail (below further).0, (below further).1)
      go false e below further = (Memᴰ.tail (below further).0, (below further).1)

  pub keep_has : (xs : List A) {x : A} → x ∈ xs → test x ≡ true → x ∈ keep test xs
  keep_has [] {x = x} member e = elim member [ ]
  keep_has (y ∷ xs) {x} (Memᴰ.head same) e = rw (sym (ap test same) ∙ e) (Memᴰ.head same)
  keep_has (y ∷ xs) {x} (Memᴰ.tail further) e = go (test y) (keep_has xs further e)
    where
      go : (b : Bool) → x ∈ keep test xs → x ∈ cond b (y ∷ keep test xs) (keep test xs)
      go true below = Memᴰ.tail below
      go false below = below

  -- what is kept is at most all, of those too that pass another test; where all pass, all are kept
  pub keep_shorter : (xs : List A) → length (keep test xs) ≤ length xs
  keep_shorter [] = omega arith
  keep_shorter (x ∷ xs) = go (test x) (keep_shorter xs)
    where
      go : (b : Bool) → length (keep test xs) ≤ length xs → length (cond b (x ∷ keep test xs) (keep test xs)) ≤ suc (length xs)
      go true below = omega arith
      go false below = omega arith

  pub keep_fewer : (wanted : A → Bool) (xs : List A) → count wanted (keep test xs) ≤ count wanted xs
  keep_fewer wanted [] = omega arith
  keep_fewer wanted (x ∷ xs) = go (test x) (keep_fewer wanted xs)
    where
      go : (b : Bool) → count wanted (keep test xs) ≤ count wanted xs
          → count wanted (cond b (x ∷ keep test xs) (keep test xs)) ≤ cond (wanted x) 1 0 + count wanted xs
      go true below = omega arith
      go false below = omega arith

  pub keep_all : ((x : A) → test x ≡ true) → (xs : List A) → keep test xs ≡ xs
  keep_all passes [] = refl
  keep_all passes (x ∷ xs) = rw (passes x) (ap (λ (l : List A). x ∷ l) (keep_all passes xs))

  pub keep_append : (xs ys : List A) → keep test (xs ++ ys) ≡ keep test xs ++ keep test ys
  keep_append [] ys = refl
  keep_append (x ∷ xs) ys = go (test x) (keep_append xs ys)
    where
      go : (b : Bool) → keep test (xs ++ ys) ≡ keep test xs ++ keep test ys
          → cond b (x ∷ keep test (xs ++ ys)) (keep test (xs ++ ys)) ≡ cond b (x ∷ keep test xs) (keep test xs) ++ keep test ys
      go true same = ap (λ (l : List A). x ∷ l) same
      go false same = same

  -- where what is left out fails another test, some element that is kept passes it exactly if some element does
  pub any_kept : (wanted : A → Bool) (xs : List A) → ((x : A) → x ∈ xs → test x ≡ false → wanted x ≡ false)
      → any wanted (keep test xs) ≡ any wanted xs
  any_kept wanted [] fails = refl
  any_kept wanted (x ∷ xs) fails = go (test x) refl (any_kept wanted xs (λ y here. fails y (Memᴰ.tail here)))
    where
      go : (b : Bool) → test x ≡ b → any wanted (keep test xs) ≡ any wanted xs → any wanted (cond b (x ∷ keep test xs) (keep test xs)) ≡ (wanted x || any wanted xs)
      go true e below = ap (λ (b : Bool). wanted x || b) below
      go false e below = rw (fails x (Memᴰ.head refl) e) below

  -- some element passes, or all do
  pub any_has : (xs : List A) {x : A} → x ∈ xs → test x ≡ true → any test xs ≡ true
  any_has [] member e = elim member [ ]
  any_has (y ∷ xs) (Memᴰ.head same) e = rw (sym (ap test same) ∙ e)
  any_has (y ∷ xs) (Memᴰ.tail further) e = or_right (test y) (any test xs) (any_has xs further e)

  pub any_in : (xs : List A) → any test xs ≡ true → (x : A) × (x ∈ xs) × (test x ≡ true)
  any_in [] e = absurd (false≢true e)
  any_in (y ∷ xs) e = go (or_cases (test y) (any test xs) e) (any_in xs)
    where
      go : (test y ≡ true) ⊎ (any test xs ≡ true) → (any test xs ≡ true → (x : A) × (x ∈ xs) × (test x ≡ true)) → (x : A) × (x ∈ y ∷ xs) × (test x ≡ true)
      go (inl here) below = (y, Memᴰ.head refl, here)
      go (inr there) below = ((below there).0, Memᴰ.tail (below there).1, (below there).2)

  pub all_in : (xs : List A) {x : A} → all test xs ≡ true → x ∈ xs → test x ≡ true
  all_in [] e member = elim member [ ]
  all_in (y ∷ xs) e (Memᴰ.head same) = ap test same ∙ and_left (test y) (all test xs) e
  all_in (y ∷ xs) e (Memᴰ.tail further) = all_in xs (and_right (test y) (all test xs) e) further

  pub all_has : (xs : List A) → ((x : A) → x ∈ xs → test x ≡ true) → all test xs ≡ true
  all_has [] each = refl
  all_has (y ∷ xs) each = rw (each y (Memᴰ.head refl)) (all_has xs (λ x here. each x (Memᴰ.tail here)))

  pub some_fails : (xs : List A) → all test xs ≡ false → (x : A) × (x ∈ xs) × (test x ≡ false)
  some_fails [] e = absurd (true≢false e)
  some_fails (y ∷ xs) e = go (test y) refl (λ below. some_fails xs below) e
    where
      go : (b : Bool) → test y ≡ b → (all test xs ≡ false → (x : A) × (x ∈ xs) × (test x ≡ false)) → (b && all test xs) ≡ false → (x : A) × (x ∈ y ∷ xs) × (test x ≡ false)
      go true e below fails = ((below fails).0, Memᴰ.tail (below fails).1, (below fails).2)
      go false e below fails = (y, Memᴰ.head refl, e)

  pub none_has : (xs : List A) → ((x : A) → x ∈ xs → test x ≡ false) → any test xs ≡ false
  none_has [] each = refl
  none_has (y ∷ xs) each = rw (each y (Memᴰ.head refl)) (none_has xs (λ x here. each x (Memᴰ.tail here)))

  -- what is found is of the list and passes the test; where nothing is, nothing passes
  pub find_in : (xs : List A) {x : A} → find test xs ≡ some x → (x ∈ xs) × (test x ≡ true)
  find_in [] {x} e = absurd (none-ne-some x e)
  find_in (y ∷ xs) {x} e = go (test y) refl (find_in xs) e
    where
      go : (b : Bool) → test y ≡ b → (find test xs ≡ some x → (x ∈ xs) × (test x ≡ true)) → cond b (some y) (find test xs) ≡ some x → (x ∈ y ∷ xs) × (test x ≡ true)
      go true e below found =
          let same : x ≡ y = cc in
          (Memᴰ.head same, ap test same ∙ e)
      go false e below found = (Memᴰ.tail (below found).0, (below found).1)

  pub find_none : (xs : List A) {x : A} → find test xs ≡ none → x ∈ xs → test x ≡ false
  find_none [] {x = x} e member = elim member [ ]
  find_none (y ∷ xs) {x} e (Memᴰ.head same) = go (test y) refl e
    where
      go : (b : Bool) → test y ≡ b → cond b (some y) (find test xs) ≡ none → test x ≡ false
      go true e found = absurd (none-ne-some y (sym found))
      go false e found = ap test same ∙ e
  find_none (y ∷ xs) {x} e (Memᴰ.tail further) = go (test y) e (λ below. find_none xs below further)
    where
      go : (b : Bool) → cond b (some y) (find test xs) ≡ none → (find test xs ≡ none → test x ≡ false) → test x ≡ false
      go true found below = absurd (none-ne-some y (sym found))
      go false found below = below found

  -- what is found stands before every other that passes
  pub find_first : (xs : List A) {x : A} → find test xs ≡ some x
      → (before after : List A) × (xs ≡ before ++ (x ∷ after)) × ((y : A) → y ∈ before → test y ≡ false)
  find_first [] {x} e = absurd (none-ne-some x e)
  find_first (z ∷ xs) {x} e = go (test z) refl (λ below. find_first xs below) e
    where
      go : (b : Bool) → test z ≡ b → (find test xs ≡ some x → (before after : List A) × (xs ≡ before ++ (x ∷ after)) × ((y : A) → y ∈ before → test y ≡ false))
          → cond b (some z) (find test xs) ≡ some x → (before after : List A) × (z ∷ xs ≡ before ++ (x ∷ after)) × ((y : A) → y ∈ before → test y ≡ false)
      go true e below found = ([], xs, cc, λ y here. absurd (Memᴰ.not-nil here))
      go false e below found =
          let rest = below found in
          (z ∷ rest.0, rest.1, ap (λ (ys : List A). z ∷ ys) rest.2, λ y here. earlier y (Memᴰ.cases_cons here) (rest.3 y))
        where
          earlier : (y : A) → (y ≡ z) ⊎ (y ∈ (below found).0) → (y ∈ (below found).0 → test y ≡ false) → test y ≡ false
          earlier y (inl same) further = ap test same ∙ e
          earlier y (inr there) further = further there

module _ {A B : Type 0} (f : A → List B) where
  pub concat_map_has : (xs : List A) {x : A} {y : B} → x ∈ xs → y ∈ f x → y ∈ concat_map f xs
  concat_map_has [] {x = x} {y = y} member here = elim member [ ]
  concat_map_has (z ∷ xs) {x} {y} (Memᴰ.head same) here = Memᴰ.append_left (concat_map f xs) (subst (λ (a : A). y ∈ f a) same here)
  concat_map_has (z ∷ xs) (Memᴰ.tail further) here = Memᴰ.append_right (f z) (concat_map_has xs further here)

  pub concat_map_in : (xs : List A) {y : B} → y ∈ concat_map f xs → (x : A) × (x ∈ xs) × (y ∈ f x)
  concat_map_in [] here = absurd (Memᴰ.not-nil here)
  concat_map_in (z ∷ xs) {y} here = go (Memᴰ.append_cases (f z) here) (concat_map_in xs)
    where
      go : (y ∈ f z) ⊎ (y ∈ concat_map f xs) → (y ∈ concat_map f xs → (x : A) × (x ∈ xs) × (y ∈ f x)) → (x : A) × (x ∈ z ∷ xs) × (y ∈ f x)
      go (inl there) below = (z, Memᴰ.head refl, there)
      go (inr further) below = ((below further).0, Memᴰ.tail (below further).1, (below further).2)

  pub concat_map_append : (xs ys : List A) → concat_map f (xs ++ ys) ≡ concat_map f xs ++ concat_map f ys
  concat_map_append [] ys = refl
  concat_map_append (x ∷ xs) ys = ap (λ (zs : List B). f x ++ zs) (concat_map_append xs ys) ∙ sym (append_assoc (f x) (concat_map f xs) (concat_map f ys))

-- a table over the first n numbers has f a at a, for a below n
pub range_length : (first n : ℕ) → length (range first n) ≡ n
range_length first zero = refl
range_length first (suc n) = ap suc (range_length (suc first) n)

pub table_at : {A : Type 0} (f : ℕ → A) (first n a : ℕ) (d : A) → a < n → get_or (map f (range first n)) a d ≡ f (first + a)
table_at f first zero a d h = absurd (not-suc-le-zero h)
table_at f first (suc n) zero d h = ap f (sym (add-zero first))
table_at f first (suc n) (suc a) d h = table_at f (suc first) n a d (le_of_suc-le-suc h) ∙ ap f (suc-add first a ∙ sym (add-suc first a))

pub table_past : {A : Type 0} (f : ℕ → A) (first n a : ℕ) (d : A) → n ≤ a → get_or (map f (range first n)) a d ≡ d
table_past f first zero a d h = refl
table_past f first (suc n) zero d h = absurd (not-suc-le-zero h)
table_past f first (suc n) (suc a) d h = table_past f (suc first) n a d (le_of_suc-le-suc h)

pub range_in : (first n : ℕ) {x : ℕ} → x ∈ range first n → (first ≤ x) × (x < first + n)
range_in first zero here = absurd (Memᴰ.not-nil here)
range_in first (suc n) (Memᴰ.head same) = (omega arith, omega arith)
range_in first (suc n) (Memᴰ.tail further) = let below = range_in (suc first) n further in (omega arith, omega arith)
