-- The search for a pair along the links: between a source and the next of its index value there is none to conflict with, and a source that is
-- like an earlier one conflicts with nothing that the earlier one does not.
-- Assumes nothing.
use Prim.Native.Nat.{ℕ, zero, suc, ◌+◌, ◌-◌, ◌<◌, ◌≤◌}
use native.Mathlib.Nat.{sub-zero}
use native.Mathlib.Decide.{ℕ_discrete, dec_lt}
use native.Mathlib.Omega.{arith}
use mathlib.Core.Path.{◌≡◌, refl, sym, ap, ◌∙◌, subst}
use mathlib.Core.Logic.{◌⊎◌, inl, inr}
use mathlib.Core.Bool.{Bool, true, false, cond, false≢true}
use mathlib.Core.List.{List, [], ◌∷◌}
use mathlib.Core.Option.{Option, none, some}
use borrow.Author.Tests.{eq-eqb, ne_eqb}
use lib.ListN.{get_or, set}
use lib.Seq.{get_or-set_other}
use Rattle.paper.specs.Lists.{range}
use Rattle.reach.specs.Reached.{Sources, bit, origin_at, value_at, NextOf, assigned_at}
use Rattle.lemma.specs.Pairs.{Numbers, clash_of, settled_by, clash_in, pair_among, pair_in, Shared, Linked}
use Rattle.lemma.proofs.Ranges.{range_from, range_end, find_skip}

-- a mark that stands where one was put is the one that was put
mark_put : (clear : List Bool) (i : ℕ) (new : Bool) → get_or (set clear i new) i false ≡ true → new ≡ true
mark_put [] i new is = absurd (false≢true is)
mark_put (first ∷ clear) zero new is = is
mark_put (first ∷ clear) (suc i) new is = mark_put clear i new is

module _ (s : Sources) (rows : List ℕ) where
  -- the pairs of the sources from i on
  unfoldable pub rest_from : (i : ℕ) → Option Numbers
  rest_from i = pair_among (clash_in s rows) (range i (s.count - i))

  -- source i conflicts with none of the later sources before t
  abbrev pub Free : (i t : ℕ) → Type 0
  Free i t = (j : ℕ) → i < j → j < t → clash_in s rows i j ≡ false

  -- source k has the index value, the value and the row of source i
  abbrev pub Alike : (i k : ℕ) → Type 0
  Alike i k = (value_at s k ≡ value_at s i) × (assigned_at s k ≡ assigned_at s i) × ((a : ℕ) → bit (get_or rows k 0) a ≡ bit (get_or rows i 0) a)

  pub rest_all : pair_in s rows ≡ rest_from 0
  unfolding pair_in rest_from
  rest_all = rw (sub-zero s.count)

  pub rest_end : (i : ℕ) → s.count ≤ i → rest_from i ≡ none
  unfolding rest_from
  rest_end i past = rw (range_end s.count i past)

  -- the first that conflicts ends the search
  pub rest_hit : (i t : ℕ) → i < t → t < s.count → Free i t → clash_in s rows i t ≡ true → rest_from i ≡ some (record { first = i; later = t })
  unfolding rest_from
  rest_hit i t later inside free clash =
      rw (range_from s.count i (omega arith), find_skip (clash_in s rows i) s.count (i + 1) t (omega arith) (omega arith) (λ k above below. free k (omega arith) below), range_from s.count t inside, clash)

  -- a source that conflicts with none is passed over
  pub rest_free : (i : ℕ) → i < s.count → Free i s.count → rest_from i ≡ rest_from (i + 1)
  unfolding rest_from
  rest_free i inside free =
      rw (range_from s.count i inside, find_skip (clash_in s rows i) s.count (i + 1) s.count (omega arith) (omega arith) (λ k above below. free k (omega arith) below), range_end s.count s.count (omega arith))

  -- at one index value two sources conflict by their values and the row
  pub clash_at : (i t : ℕ) {answer : Bool} → value_at s t ≡ value_at s i
      → clash_of (assigned_at s i) (assigned_at s t) (get_or rows i 0) (origin_at s t) ≡ answer → clash_in s rows i t ≡ answer
  clash_at i t same is = rw (eq-eqb (value_at s i) (value_at s t) (sym same)) is

  -- by what is read of them
  pub clash_read : (i t : ℕ) {one other row origin : ℕ} {answer : Bool} → one ≡ assigned_at s i → other ≡ assigned_at s t → row ≡ get_or rows i 0 → origin ≡ origin_at s t
      → clash_of one other row origin ≡ answer → clash_of (assigned_at s i) (assigned_at s t) (get_or rows i 0) (origin_at s t) ≡ answer
  clash_read i t one_is other_is row_is origin_is is = rw (← one_is, ← other_is, ← row_is, ← origin_is) is

  -- from one source of the index value to the next there is none to conflict with
  free_link : (i t next : ℕ) → value_at s t ≡ value_at s i → NextOf s t next → (j : ℕ) → t < j → j < next → clash_in s rows i j ≡ false
  free_link i t next same link j above below = rw (ne_eqb (value_at s i) (value_at s j) (λ equal. link.between j above below (sym equal ∙ sym same)))

  -- one that does not conflict is passed over, and so are those of another index value
  pub free_over : (i t next : ℕ) → Free i t → value_at s t ≡ value_at s i → clash_in s rows i t ≡ false → NextOf s t next → Free i next
  free_over i t next free same clash link j above below = go (ℕ_discrete j t)
    where
      go : Dec (j ≡ t) → clash_in s rows i j ≡ false
      go (yes here) = rw here clash
      go (no other) = side (dec_lt j t)
        where
          side : Dec (j < t) → clash_in s rows i j ≡ false
          side (yes before) = free j above before
          side (no past) = free_link i t next same link j (omega (arith, other, past)) below

  free_alike : (i k : ℕ) → i < k → Alike i k → Free i s.count → Free k s.count
  free_alike i k later alike free j above below = rw (alike.0, alike.1, alike.2 (origin_at s j)) (free j (omega arith) below)

  -- the marks of the sources from i on: each that is marked conflicts with none
  abbrev pub Cleared : (i : ℕ) → (clear : List Bool) → Type 0
  Cleared i clear = (k : ℕ) → i ≤ k → k < s.count → get_or clear k false ≡ true → Free k s.count

  -- while source i is tried: each that is marked conflicts with none, or is like source i
  abbrev pub Marked : (i : ℕ) → (clear : List Bool) → Type 0
  Marked i clear = (k : ℕ) → i < k → k < s.count → get_or clear k false ≡ true → Free k s.count ⊎ Alike i k

  pub cleared_first : (clear : List Bool) → ((k : ℕ) → k < s.count → get_or clear k false ≡ false) → Cleared 0 clear
  cleared_first clear unknown k above inside marked = absurd (false≢true (sym (unknown k inside) ∙ marked))

  -- what is known when source i comes to be tried holds while it is tried: no source is yet marked for being like it
  pub marked_first : (i : ℕ) (clear : List Bool) → Cleared i clear → Marked i clear
  marked_first i clear cleared k above inside marked = inl (cleared k (omega arith) inside marked)

  -- once source i is free, so are those that are like it
  pub cleared_next : (i : ℕ) (clear : List Bool) → Free i s.count → Marked i clear → Cleared (i + 1) clear
  cleared_next i clear free all k above inside marked = go (all k (omega arith) inside marked)
    where
      go : Free k s.count ⊎ Alike i k → Free k s.count
      go (inl is) = is
      go (inr alike) = free_alike i k (omega arith) alike free

  -- a mark is put where it was, or where source t, which does not conflict with source i, has its origin in the row
  pub marked_put : (i t : ℕ) (clear : List Bool) → i < t → t < s.count → value_at s t ≡ value_at s i → Shared s rows
      → clash_of (assigned_at s i) (assigned_at s t) (get_or rows i 0) (origin_at s t) ≡ false → Marked i clear → Marked i (set clear t (settled_by (get_or clear t false) (get_or rows i 0) (origin_at s t)))
  marked_put i t clear later within same shared clash all k above inside marked = go (ℕ_discrete k t)
    where
      new : Bool
      new = settled_by (get_or clear t false) (get_or rows i 0) (origin_at s t)

      put : (known : Bool) → get_or clear t false ≡ known → Dec (assigned_at s i ≡ assigned_at s t) → Dec (bit (get_or rows i 0) (origin_at s t) ≡ 1)
          → settled_by known (get_or rows i 0) (origin_at s t) ≡ true → Free t s.count ⊎ Alike i t
      put true known values stands is = all t later within known
      put false known values (no apart) is = absurd (false≢true (sym (ne_eqb _ _ apart) ∙ is))
      put false known (yes values) (yes stands) is = inr (same, sym values, shared i t (omega arith) within same stands)
      put false known (no values) (yes stands) is = absurd (false≢true (sym clash ∙ rw (ne_eqb _ _ values, eq-eqb _ _ stands)))

      go : Dec (k ≡ t) → Free k s.count ⊎ Alike i k
      go (yes here) =
          subst (λ (n : ℕ). Free n s.count ⊎ Alike i n) (sym here)
          (put (get_or clear t false) refl (ℕ_discrete _ _) (ℕ_discrete _ _) (mark_put clear t new (ap (λ (n : ℕ). get_or (set clear t new) n false) (sym here) ∙ marked)))
      go (no other) = all k above inside (sym (get_or-set_other clear t k new false other) ∙ marked)

  -- what the search of source i begins with: the first to try has its index value, and it conflicts with none before that
  pub begins : (i next : ℕ) (known : Bool) → (known ≡ true → Free i s.count) → NextOf s i next → (t : ℕ) → t ≡ cond known s.count next
      → (t < s.count → value_at s t ≡ value_at s i) × Free i t
  begins i next true free link t is = ((λ below. absurd (omega (arith, below, is))), (λ j above below. free refl j above (omega arith)))
  begins i next false free link t is =
      subst (λ (n : ℕ). (n < s.count → value_at s n ≡ value_at s i) × Free i n) (sym is) (link.same, free_link i i next refl link)

-- where the search of source i begins: later than source i, and within the table
pub begins_at : (i next count : ℕ) (known : Bool) → i < count → i < next → next ≤ count → (t : ℕ) → t ≡ cond known count next → (i < t) × (t ≤ count)
begins_at i next count true inside later within t is = (omega arith, omega arith)
begins_at i next count false inside later within t is = (omega (arith, is), omega (arith, is))

-- what is left to search, and what is known of it
pub record Searching (s : Sources) (rows : List ℕ) (clear : List Bool) (i : ℕ) : Type 0 where
  pub left : pair_in s rows ≡ rest_from s rows i
  pub cleared : Cleared s rows i clear

-- while source i is tried, with source t next
pub record Trying (s : Sources) (rows : List ℕ) (clear : List Bool) (i t : ℕ) : Type 0 where
  pub later : i < t
  pub within : t ≤ s.count
  pub same : t < s.count → value_at s t ≡ value_at s i
  pub free : Free s rows i t
  pub marked : Marked s rows i clear

-- the first to try, once source i comes to be tried
pub trying_begun : {s : Sources} {rows : List ℕ} {clear : List Bool} {i t : ℕ} (links : List ℕ) → i < s.count → Linked s links → Searching s rows clear i
    → t ≡ cond (get_or clear i false) s.count (get_or links i 0) → Trying s rows clear i t
trying_begun {s} {rows} {clear} {i} {t} links inside linked searching is =
    let next = get_or links i 0 in
    let known = get_or clear i false in
    let link = linked i inside in
    let bounds = begins_at i next s.count known inside link.later link.within t is in
    let begun = begins s rows i next known (searching.cleared i (omega arith) inside) link t is in
    record { later = bounds.0; within = bounds.1; same = begun.0; free = begun.1; marked = marked_first s rows i clear searching.cleared }
