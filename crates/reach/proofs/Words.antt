-- Adjacency words of a list of edges: what one more edge puts into them.
-- Assumes nothing.
use Rattle.std.proofs.Common.{Option, Some, None}
use Prim.Native.Nat.{ℕ, zero, suc, ◌+◌, ◌/◌, ◌%◌, ◌^◌, ◌<◌, ◌≤◌}
use native.Mathlib.Decide.{ℕ_discrete}
use native.Mathlib.Numerals.{add-one}
use native.Mathlib.Omega.{arith}
use mathlib.Core.Path.{◌≡◌, refl, sym, ap, ◌∙◌, subst}
use mathlib.Core.Logic.{◌⊎◌, inl, inr, ⊎_elim}
use mathlib.Core.Bool.{Bool, true, false, cond}
use mathlib.Core.List.Memᴰ
use mathlib.Core.List.{List, [], ◌∷◌, ◌++◌, append-nil}
use lib.Bits.{bit_or, or_lt}
use lib.Dec.{eqb}
use lib.ListN.{length, get_or, take, length-set, replicate}
use lib.Pow.{pow-lt, pow_pos}
use lib.Seq.{get_or-set_same, get_or-set_other, take-suc}
use Rattle.std.proofs.lemmas.List.{get_or-take, length-take-le}
use Rattle.paper.specs.Lists.{◌∈◌, concat_map}
use Rattle.paper.specs.Edges.{Guard, Edge}
use Rattle.paper.specs.Reach.{Joins}
use Rattle.meaning.proofs.Lists.{concat_map_append}
use Rattle.reach.specs.Reached.{open_to, bit, Ends}
use Rattle.reach.specs.Steps.{Joined, Adjacent, EndsBelow, Lent, with_bit, with_edge}
use Rattle.reach.proofs.Bits.{bit_zero, or_left, or_right, or_either, pow_bit, pow_other}
use Rattle.terms.specs.Tables.{edges_of, edges_in}
use Rattle.terms.specs.declared.graph.Edge.{Edge as FoundEdge}
use Rattle.terms.specs.Graph.{open_of, open_in, edges_found, Each}

-- one bit more
module _ (words : List ℕ) (a b : ℕ) (inside : a < length words) where
  put_here : bit (get_or (with_bit words a b) a 0) b ≡ 1
  put_here = rw (get_or-set_same words a (bit_or (get_or words a 0) (2 ^ b)) 0 inside) (or_right (get_or words a 0) (2 ^ b) b (pow_bit b))

  put_keeps : (c d : ℕ) → bit (get_or words c 0) d ≡ 1 → bit (get_or (with_bit words a b) c 0) d ≡ 1
  put_keeps c d is = go (ℕ_discrete c a)
    where
      go : Dec (c ≡ a) → bit (get_or (with_bit words a b) c 0) d ≡ 1
      go (yes same) =
          subst (λ (x : ℕ). bit (get_or (with_bit words a b) x 0) d ≡ 1) (sym same)
          (rw (get_or-set_same words a (bit_or (get_or words a 0) (2 ^ b)) 0 inside)
          (or_left (get_or words a 0) (2 ^ b) d (subst (λ (x : ℕ). bit (get_or words x 0) d ≡ 1) same is)))
      go (no other) = rw (get_or-set_other words a c (bit_or (get_or words a 0) (2 ^ b)) 0 other) is

  put_is : (c d : ℕ) → bit (get_or (with_bit words a b) c 0) d ≡ 1 → (bit (get_or words c 0) d ≡ 1) ⊎ ((c ≡ a) × (d ≡ b))
  put_is c d is = go (ℕ_discrete c a)
    where
      here : c ≡ a → (bit (get_or words a 0) d ≡ 1) ⊎ (bit (2 ^ b) d ≡ 1) → (bit (get_or words c 0) d ≡ 1) ⊎ ((c ≡ a) × (d ≡ b))
      here same (inl old) = inl (subst (λ (x : ℕ). bit (get_or words x 0) d ≡ 1) (sym same) old)
      here same (inr new) = inr (same, pow_other b d new)

      go : Dec (c ≡ a) → (bit (get_or words c 0) d ≡ 1) ⊎ ((c ≡ a) × (d ≡ b))
      go (yes same) =
          here same
          (or_either (get_or words a 0) (2 ^ b) d
          (rw (get_or-set_same words a (bit_or (get_or words a 0) (2 ^ b)) 0 inside) at (subst (λ (x : ℕ). bit (get_or (with_bit words a b) x 0) d ≡ 1) same is)))
      go (no other) = inl (rw (get_or-set_other words a c (bit_or (get_or words a 0) (2 ^ b)) 0 other) at is)

  put_small : b < 48 → ((c : ℕ) → get_or words c 0 < 2 ^ 48) → (c : ℕ) → get_or (with_bit words a b) c 0 < 2 ^ 48
  put_small b_in small c = go (ℕ_discrete c a)
    where
      go : Dec (c ≡ a) → get_or (with_bit words a b) c 0 < 2 ^ 48
      go (yes same) =
          subst (λ (x : ℕ). get_or (with_bit words a b) x 0 < 2 ^ 48) (sym same)
          (rw (get_or-set_same words a (bit_or (get_or words a 0) (2 ^ b)) 0 inside) (or_lt 48 (get_or words a 0) (2 ^ b) (small a) (pow-lt b_in)))
      go (no other) = rw (get_or-set_other words a c (bit_or (get_or words a 0) (2 ^ b)) 0 other) (small c)

  put_length : length (with_bit words a b) ≡ length words
  put_length = length-set words a (bit_or (get_or words a 0) (2 ^ b))

-- one edge more, in the words of both its ends
module _ (edge : Edge) (words : List ℕ) (long : length words ≡ 48) (left_in : edge.left < 48) (right_in_lem : edge.right < 48) where
  abbrev one : List ℕ
  one = with_bit words edge.left edge.right

  l_in : edge.left < length words
  l_in = omega arith

  r_in : edge.right < length one
  r_in = omega (arith, put_length words edge.left edge.right l_in)

  pub edge_keeps : (a b : ℕ) → bit (get_or words a 0) b ≡ 1 → bit (get_or (with_edge edge.left edge.right words) a 0) b ≡ 1
  edge_keeps a b is = put_keeps one edge.right edge.left r_in a b (put_keeps words edge.left edge.right l_in a b is)

  pub edge_here : (a b : ℕ) → Joins edge a b → bit (get_or (with_edge edge.left edge.right words) a 0) b ≡ 1
  edge_here a b (inl ends) =
      put_keeps one edge.right edge.left r_in a b
      (subst (λ (y : ℕ). bit (get_or one a 0) y ≡ 1) ends.1 (subst (λ (z : ℕ). bit (get_or one z 0) edge.right ≡ 1) ends.0 (put_here words edge.left edge.right l_in)))
  edge_here a b (inr ends) =
      subst (λ (y : ℕ). bit (get_or (with_edge edge.left edge.right words) a 0) y ≡ 1) ends.1
      (subst (λ (z : ℕ). bit (get_or (with_edge edge.left edge.right words) z 0) edge.left ≡ 1) ends.0 (put_here one edge.right edge.left r_in))

  pub edge_is : (a b : ℕ) → bit (get_or (with_edge edge.left edge.right words) a 0) b ≡ 1 → (bit (get_or words a 0) b ≡ 1) ⊎ Joins edge a b
  edge_is a b is = second (put_is one edge.right edge.left r_in a b is)
    where
      first : (bit (get_or words a 0) b ≡ 1) ⊎ ((a ≡ edge.left) × (b ≡ edge.right)) → (bit (get_or words a 0) b ≡ 1) ⊎ Joins edge a b
      first (inl old) = inl old
      first (inr ends) = inr (inl (sym ends.0, sym ends.1))

      second : (bit (get_or one a 0) b ≡ 1) ⊎ ((a ≡ edge.right) × (b ≡ edge.left)) → (bit (get_or words a 0) b ≡ 1) ⊎ Joins edge a b
      second (inl old) = first (put_is words edge.left edge.right l_in a b old)
      second (inr ends) = inr (inr (sym ends.0, sym ends.1))

  pub edge_small : ((a : ℕ) → get_or words a 0 < 2 ^ 48) → (a : ℕ) → get_or (with_edge edge.left edge.right words) a 0 < 2 ^ 48
  edge_small small = put_small one edge.right edge.left r_in left_in (put_small words edge.left edge.right l_in right_in_lem small)

pub edge_length : (left right : ℕ) (words : List ℕ) → length (with_edge left right words) ≡ length words
edge_length left right words = simp length-set

module _ {edges : List Edge} {words : List ℕ} (known : Adjacent edges words) where
  -- no edge more puts nothing
  pub none_more : Adjacent (edges ++ []) words
  none_more = subst (λ (es : List Edge). Adjacent es words) (sym (append-nil edges)) known

  -- an edge more puts both its ends: rules D and U, R and L
  pub one_more : (edge : Edge) → edge.left < 48 → edge.right < 48 → Adjacent (edges ++ (edge ∷ [])) (with_edge edge.left edge.right words)
  one_more edge left_in right_in_lem =
      record {
        sound = λ a b is. sound a b (edge_is edge words known.long left_in right_in_lem a b is);
        complete = λ a b joined. complete a b joined (Memᴰ.append_cases edges joined.1);
        small = edge_small edge words known.long left_in right_in_lem known.small;
        long = edge_length edge.left edge.right words ∙ known.long;
      }
    where
      sound : (a b : ℕ) → (bit (get_or words a 0) b ≡ 1) ⊎ Joins edge a b → Joined (edges ++ (edge ∷ [])) a b
      sound a b (inl old) = let j = known.sound a b old in (j.0, Memᴰ.append_left (edge ∷ []) j.1, j.2)
      sound a b (inr joins) = (edge, Memᴰ.append_right edges (Memᴰ.head refl), joins)

      complete : (a b : ℕ) (joined : Joined (edges ++ (edge ∷ [])) a b) → (joined.0 ∈ edges) ⊎ (joined.0 ∈ edge ∷ []) → bit (get_or (with_edge edge.left edge.right words) a 0) b ≡ 1
      complete a b joined (inl earlier) = edge_keeps edge words known.long left_in right_in_lem a b (known.complete a b (joined.0, earlier, joined.2))
      complete a b joined (inr new) = edge_here edge words known.long left_in right_in_lem a b (subst (λ (e : Edge). Joins e a b) (Memᴰ.eq_of_singleton new) joined.2)

-- before the first edge there is nothing
getD_zero : (n a : ℕ) → ◌≡◌ {A = ℕ} (get_or (replicate n 0) a 0) 0
getD_zero zero a = refl
getD_zero (suc n) zero = refl
getD_zero (suc n) (suc a) = getD_zero n a

pub no_edges : Adjacent [] (replicate 48 0)
no_edges =
    record {
      sound = λ a b is. absurd (nothing a b is);
      complete = λ a b joined. absurd (Memᴰ.not-nil joined.1);
      small = λ a. rw (getD_zero 48 a) (pow_pos 48);
      long = refl;
    }
  where
    nothing : (a b : ℕ) → bit (get_or (replicate 48 0) a 0) b ≡ 1 → ⊥
    nothing a b is =
        let none : bit 0 b ≡ 1 = rw (getD_zero 48 a) at is in
        omega (arith, bit_zero b)

-- the open edge of a row is one of its edges
either_way : (P : Edge → Type 0) (test : Bool) (one other : List Edge) → Each P one → Each P other → Each P (cond test one other)
either_way P true _ _ first second = first
either_way P false _ _ first second = second

open_of_each : (P : Edge → Type 0) (values truths : List ℕ) (x left right other number guard : ℕ) → Each P (edges_of left right other number guard) → Each P (open_of values truths x left right other number guard)
open_of_each P values truths x left right other number zero each =
    either_way P (eqb (get_or values number 0) x) [] (record { left = left; right = right; guard = Guard.differ number } ∷ []) tt each
open_of_each P values truths x left right other number (suc zero) each =
    either_way P (eqb 1 (get_or truths (number % 64) 0)) (record { left = left; right = right; guard = Guard.is_true number } ∷ []) (record { left = left; right = other; guard = Guard.is_false number } ∷ []) (each.0, tt) (each.1.0, tt)
open_of_each P values truths x left right other number (suc (suc guard)) each =
    either_way P (eqb 1 (get_or truths (number % 64) 0)) (record { left = left; right = right; guard = Guard.is_true number } ∷ []) [] each tt

pub open_each : (P : Edge → Type 0) (values truths : List ℕ) (x row : ℕ) → Each P (edges_in row) → Each P (open_in values truths x row)
unfolding open_in edges_in
open_each P values truths x row each = open_of_each P values truths x (row % 64) (row / 64 % 64) (row / 4096 % 64) (row / 262144 % 256) (row / 67108864) each

-- one row more
pub rows_more : (f : ℕ → List Edge) (rows : List ℕ) (k : ℕ) → k < length rows → concat_map f (take (k + 1) rows) ≡ concat_map f (take k rows) ++ f (get_or rows k 0)
rows_more f rows k inside =
    ap (λ (n : ℕ). concat_map f (take n rows)) (add-one k)
    ∙ ap (concat_map f) (take-suc rows k 0 inside)
    ∙ concat_map_append f (take k rows) (get_or rows k 0 ∷ [])
    ∙ ap (λ (new : List Edge). concat_map f (take k rows) ++ new) (append-nil (f (get_or rows k 0)))

-- no edge is found
pub found_none : (found : Option FoundEdge) → ((edge : FoundEdge) → found ≡ Some edge → ⊥) → edges_found found ≡ []
found_none (Some edge) none = absurd (none edge refl)
found_none None none = refl

-- one row more: what it joins is put
module _ (f : ℕ → List Edge) (rows : List ℕ) (k : ℕ) (words : List ℕ) (known : Adjacent (concat_map f (take k rows)) words) (inside : k < length rows) where
  more : (new : List Edge) → new ≡ f (get_or rows k 0) → {after : List ℕ} → Adjacent (concat_map f (take k rows) ++ new) after → Adjacent (concat_map f (take (k + 1) rows)) after
  more new is {after} adjacent =
      subst (λ (es : List Edge). Adjacent es after) (ap (λ (last : List Edge). concat_map f (take k rows) ++ last) is ∙ sym (rows_more f rows k inside)) adjacent

  pub row_none : [] ≡ f (get_or rows k 0) → Adjacent (concat_map f (take (k + 1) rows)) words
  row_none is = more [] is (none_more known)

  pub row_one : (edge : Edge) → edge ∷ [] ≡ f (get_or rows k 0) → EndsBelow 48 edge → Adjacent (concat_map f (take (k + 1) rows)) (with_edge edge.left edge.right words)
  row_one edge is ends = more (edge ∷ []) is (one_more known edge ends.0 ends.1)

-- what holds of each of a list holds of whatever is in it
pub in_each : {A : Type 0} (P : A → Type 0) (xs : List A) {x : A} → Each P xs → x ∈ xs → P x
in_each P [] each member = absurd (Memᴰ.not-nil member)
in_each P (y ∷ xs) each (Memᴰ.head same) = subst P (sym same) each.0
in_each P (y ∷ xs) each (Memᴰ.tail further) = in_each P xs each.1 further

each_within : (P Q : Edge → Type 0) → ((edge : Edge) → P edge → Q edge) → (edges : List Edge) → Each P edges → Each Q edges
each_within P Q within [] each = tt
each_within P Q within (edge ∷ edges) each = (within edge each.0, each_within P Q within edges each.1)

-- what the first n rows say, one of them says
pub in_row : (f : ℕ → List Edge) (n : ℕ) (rows : List ℕ) {edge : Edge} → edge ∈ concat_map f (take n rows) → (j : ℕ) × (j < n) × (edge ∈ f (get_or rows j 0))
in_row f zero rows member = absurd (Memᴰ.not-nil member)
in_row f (suc n) [] member = absurd (Memᴰ.not-nil member)
in_row f (suc n) (row ∷ rows) {edge} member =
    ⊎_elim
    (λ here. (0, omega arith, here))
    (λ further. let found = in_row f n rows further in (suc found.0, omega (arith, found.1), found.2))
    (Memᴰ.append_cases (f row) member)

pub row_in : (f : ℕ → List Edge) (n : ℕ) (rows : List ℕ) (j : ℕ) {edge : Edge} → j < n → n ≤ length rows → edge ∈ f (get_or rows j 0) → edge ∈ concat_map f (take n rows)
row_in f zero rows j below long member = absurd (omega arith)
row_in f (suc n) [] j below long member = absurd (omega arith)
row_in f (suc n) (row ∷ rows) zero below long member = Memᴰ.append_left (concat_map f (take n rows)) member
row_in f (suc n) (row ∷ rows) (suc j) below long member = Memᴰ.append_right (f row) (row_in f n rows j (omega arith) (omega arith) member)

-- the rows that are lent say edges whose ends are array terms
module _ {rows : List ℕ} {count n : ℕ} (lent : Lent rows count n) where
  pub lent_ends : (values truths : List ℕ) → Ends (open_to values truths rows count) n
  lent_ends values truths =
      record {
        arrays = lent.arrays;
        ranged = λ x edge member.
            let found = in_row (open_in values truths x) count rows member in
            in_each (EndsBelow n) (open_in values truths x (get_or rows found.0 0)) (open_each (EndsBelow n) values truths x (get_or rows found.0 0) (lent.ends found.0 found.1)) found.2;
      }

  -- and can be lent on with all the room there is
  pub lent_most : Lent rows count 48
  lent_most =
      record {
        arrays = omega arith;
        long = lent.long;
        few = lent.few;
        ends = λ k below. each_within (EndsBelow n) (EndsBelow 48) (λ edge ends. (omega (arith, ends.0, lent.arrays), omega (arith, ends.1, lent.arrays))) (edges_in (get_or rows k 0)) (lent.ends k below);
      }

  -- the row that a walk over the lent ones is at
  module _ {k : ℕ} (inside : k < length (take count rows)) where
    pub lent_given : k < count
    lent_given = omega (arith, length-take-le count rows (omega (arith, lent.few, lent.long)))

    pub lent_inside : k < length rows
    lent_inside = omega (arith, lent_given, lent.few, lent.long)

    pub lent_row : get_or (take count rows) k 0 ≡ get_or rows k 0
    lent_row = get_or-take count rows k 0 lent_given

    pub lent_row_ends : Each (EndsBelow n) (edges_in (get_or (take count rows) k 0))
    lent_row_ends = rw lent_row (lent.ends k lent_given)

    -- the ends of an edge that is found in it are array terms
    pub lent_found : (values truths : List ℕ) (x : ℕ) (edge : Edge) → edge ∷ [] ≡ open_in values truths x (get_or (take count rows) k 0) → EndsBelow n edge
    lent_found values truths x edge is = (subst (Each (EndsBelow n)) (sym is) (open_each (EndsBelow n) values truths x (get_or (take count rows) k 0) lent_row_ends)).0

  -- and where it ends
  pub lent_end : {k : ℕ} → k ≤ length (take count rows) → length (take count rows) ≤ k → k ≡ count
  lent_end {k} upto past = omega (arith, length-take-le count rows (omega (arith, lent.few, lent.long)))
