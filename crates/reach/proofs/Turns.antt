-- Adjacency words on the turn from one index value to another: only writes of the two change, and row by row their bits are taken out or put.
-- Assumes nothing.
use Prim.Native.Nat.{ℕ, ◌+◌, ◌/◌, ◌%◌, ◌^◌, ◌<◌, ◌≤◌}
use native.Mathlib.Decide.{dec_lt, ℕ_discrete}
use native.Mathlib.Omega.{arith}
use mathlib.Core.Path.{◌≡◌, refl, sym, ◌∙◌, subst}
use mathlib.Core.Logic.{◌⊎◌, inl, inr, ⊎_elim}
use mathlib.Core.Bool.{Bool, true, false, cond}
use mathlib.Core.List.Memᴰ
use mathlib.Core.List.{List, [], ◌∷◌}
use lib.ListN.{length, get_or, take}
use Rattle.paper.specs.Lists.{◌∈◌, concat_map}
use Rattle.paper.specs.Edges.{Edge}
use Rattle.paper.specs.Reach.{Joins}
use Rattle.terms.specs.Tables.{edges_of, edges_in}
use Rattle.terms.specs.Graph.{shut_to, open_in, may_open, Each}
use Rattle.terms.proofs.Ways.{written, shut_write, shut_none, may_write, may_open_lem}
use Rattle.reach.specs.Reached.{bit}
use Rattle.reach.specs.Steps.{Joined, Adjacent, EndsBelow, Lent, with_edge, without_edge, edges_at, may_at, shut_at, Apart, Gathered, RowTurned, Turning, Turnable}
use Rattle.reach.proofs.Less.{less_is, less_keeps, less_small, less_long}
use Rattle.reach.proofs.Words.{row_none, row_one, in_row, row_in, edge_keeps, edge_here, edge_is, edge_small, edge_length}

-- what a single edge joins
pub of_one : (edge : Edge) (a b : ℕ) → Joined (edge ∷ []) a b → Joins edge a b
of_one edge a b joined = subst (λ (e : Edge). Joins e a b) (Memᴰ.eq_of_singleton joined.1) joined.2

-- an edge of one of the rows joins a and b
abbrev Somewhere : (ℕ → List Edge) → (count a b : ℕ) → Type 0
Somewhere edges count a b = (j : ℕ) × (j < count) × Joined (edges j) a b

-- an edge is walked both ways
joined_back : {edges : List Edge} {a b : ℕ} → Joined edges a b → Joined edges b a
joined_back joined = (joined.0, joined.1, ⊎_elim (λ ends. inr (ends.1, ends.0)) (λ ends. inl (ends.1, ends.0)) joined.2)

-- what joins what an edge joins joins its ends
to_ends : (edge : Edge) (edges : List Edge) {a b : ℕ} → Joins edge a b → Joined edges a b → Joined edges edge.left edge.right
to_ends edge edges (inl ends) joined = rw (ends.0, ends.1) joined
to_ends edge edges (inr ends) joined = rw (ends.0, ends.1) (joined_back joined)

-- one row more stays apart from those before
module _ (may : ℕ → List Edge) (k : ℕ) (apart : Apart may k) where
  apart_more : ((i a b : ℕ) → i < k → Joined (may i) a b → Joined (may k) a b → ⊥) → Apart may (k + 1)
  apart_more last i j a b before below first second = go (ℕ_discrete j k)
    where
      go : Dec (j ≡ k) → ⊥
      go (yes same) = last i a b (omega arith) first (subst (λ (m : ℕ). Joined (may m) a b) same second)
      go (no other) = apart i j a b before (omega (arith, other)) first second

  pub apart_shut : may k ≡ [] → Apart may (k + 1)
  apart_shut none = apart_more (λ i a b below first second. Memᴰ.not-nil (subst (λ (es : List Edge). second.0 ∈ es) none second.1))

  pub apart_open : (edge : Edge) → may k ≡ edge ∷ [] → ((i : ℕ) → i < k → Joined (may i) edge.left edge.right → ⊥) → Apart may (k + 1)
  apart_open edge one alone =
      apart_more (λ i a b below first second. alone i below (to_ends edge (may i) (of_one edge a b (subst (λ (es : List Edge). Joined es a b) one second)) first))

-- a row joins no more than it may
module _ (values truths : List ℕ) (x row : ℕ) where
  within : (a b : ℕ) → Joined (open_in values truths x row) a b → Joined (may_open truths row) a b
  within a b joined = go (shut_to values x row) refl
    where
      go : (shut : Bool) → shut_to values x row ≡ shut → Joined (may_open truths row) a b
      go true shut = absurd (Memᴰ.not-nil (subst (λ (es : List Edge). joined.0 ∈ es) (shut_none values truths row x shut) joined.1))
      go false unshut = subst (λ (es : List Edge). Joined es a b) (may_open_lem values truths row x unshut) joined

-- from words of edges, and to them
module _ (values truths rows : List ℕ) (count : ℕ) (words : List ℕ) (enough : count ≤ length rows) where
  -- all that may be open
  pub turn_first : (before : ℕ) → Adjacent (concat_map (may_open truths) (take count rows)) words → Turnable values truths rows count before words
  turn_first before known = λ x.
      record {
        complete = λ j a b given which joined.
            let may = within values truths x (get_or rows j 0) a b joined in
            known.complete a b (may.0, row_in (may_open truths) count rows j given enough may.1, may.2);
        sound = λ a b is.
            let joined = known.sound a b is in
            let found = in_row (may_open truths) count rows joined.1 in
            inr (found.0, omega arith, found.1, (joined.0, found.2, joined.2));
        small = known.small;
        long = known.long;
      }

  -- all that is open to an index value
  pub turn_next : (before : ℕ) → Adjacent (concat_map (open_in values truths before) (take count rows)) words → Turnable values truths rows count before words
  turn_next before known = λ x.
      record {
        complete = λ j a b given which joined. complete j a b given (within values truths x (get_or rows j 0) a b joined) which;
        sound = λ a b is.
            let joined = known.sound a b is in
            let found = in_row (open_in values truths before) count rows joined.1 in
            inr (found.0, omega arith, found.1, within values truths before (get_or rows found.0 0) a b (joined.0, found.2, joined.2));
        small = known.small;
        long = known.long;
      }
    where
      complete : (j a b : ℕ) → j < count → Joined (may_open truths (get_or rows j 0)) a b → (j < 0) ⊎ (shut_to values before (get_or rows j 0) ≡ false) → bit (get_or words a 0) b ≡ 1
      complete j a b given may (inl none) = absurd (omega arith)
      complete j a b given may (inr unshut) =
          let joined = subst (λ (es : List Edge). Joined es a b) (sym (may_open_lem values truths (get_or rows j 0) before unshut)) may in
          known.complete a b (joined.0, row_in (open_in values truths before) count rows j given enough joined.1, joined.2)

  pub turn_ended : (before x : ℕ) → Turning (edges_at values truths rows x) (may_at truths rows) (shut_at values rows before) count count words
      → Adjacent (concat_map (open_in values truths x) (take count rows)) words
  turn_ended before x turning =
      record {
        sound = λ a b is. sound a b (turning.sound a b is);
        complete = λ a b joined.
            let found = in_row (open_in values truths x) count rows joined.1 in
            turning.complete found.0 a b found.1 (inl found.1) (joined.0, found.2, joined.2);
        small = turning.small;
        long = turning.long;
      }
    where
      sound : (a b : ℕ) → Somewhere (edges_at values truths rows x) count a b ⊎ ((j : ℕ) × (count ≤ j) × (j < count) × Joined (may_at truths rows j) a b)
          → Joined (concat_map (open_in values truths x) (take count rows)) a b
      sound a b (inl (j, given, joined)) = (joined.0, row_in (open_in values truths x) count rows j given enough joined.1, joined.2)
      sound a b (inr (j, past, given, joined)) = absurd (omega arith)

-- one row
module _ (after may : ℕ → List Edge) (shut : ℕ → Bool) (count k : ℕ) (words : List ℕ) (turning : Turning after may shut count k words) (given : k < count) where
  -- what is joined keeps its bits, and what row k joins has them; no others are left than those of what is joined, or of what other rows may join
  turned : (new : List ℕ) → length new ≡ 48 → ((a : ℕ) → get_or new a 0 < 2 ^ 48)
      → ((a b : ℕ) → bit (get_or words a 0) b ≡ 1 → Somewhere after count a b → bit (get_or new a 0) b ≡ 1)
      → ((a b : ℕ) → Joined (after k) a b → bit (get_or new a 0) b ≡ 1)
      → ((a b : ℕ) → bit (get_or new a 0) b ≡ 1 → Somewhere after count a b ⊎ ((bit (get_or words a 0) b ≡ 1) × (Joined (may k) a b → Somewhere after count a b)))
      → Turning after may shut count (k + 1) new
  turned new long small keeps here is =
      record {
        complete = λ j a b j_in which joined. complete j a b j_in joined which (ℕ_discrete j k);
        sound = λ a b on. sound a b (is a b on);
        small = small;
        long = long;
      }
    where
      earlier : (j : ℕ) → (j < k + 1) ⊎ (shut j ≡ false) → (j ≡ k → ⊥) → (j < k) ⊎ (shut j ≡ false)
      earlier j (inl below) other = inl (omega (arith, other))
      earlier j (inr same) other = inr same

      complete : (j a b : ℕ) → j < count → Joined (after j) a b → (j < k + 1) ⊎ (shut j ≡ false) → Dec (j ≡ k) → bit (get_or new a 0) b ≡ 1
      complete j a b j_in joined which (yes same) = here a b (subst (λ (i : ℕ). Joined (after i) a b) same joined)
      complete j a b j_in joined which (no other) = keeps a b (turning.complete j a b j_in (earlier j which other) joined) (j, j_in, joined)

      later : (a b j : ℕ) → k ≤ j → j < count → Joined (may j) a b → (Joined (may k) a b → Somewhere after count a b) → Dec (j ≡ k)
          → Somewhere after count a b ⊎ ((j : ℕ) × (k + 1 ≤ j) × (j < count) × Joined (may j) a b)
      later a b j past j_in joined at_k (yes same) = inl (at_k (subst (λ (i : ℕ). Joined (may i) a b) same joined))
      later a b j past j_in joined at_k (no other) = inr (j, omega (arith, other), j_in, joined)

      sound : (a b : ℕ) → Somewhere after count a b ⊎ ((bit (get_or words a 0) b ≡ 1) × (Joined (may k) a b → Somewhere after count a b))
          → Somewhere after count a b ⊎ ((j : ℕ) × (k + 1 ≤ j) × (j < count) × Joined (may j) a b)
      sound a b (inl some) = inl some
      sound a b (inr (old, at_k)) = ⊎_elim (λ some. inl some) (λ found. later a b found.0 found.1 found.2 found.3 at_k (ℕ_discrete found.0 k)) (turning.sound a b old)

  -- a row that does not change
  pub turn_same : shut k ≡ false → after k ≡ may k → Turning after may shut count (k + 1) words
  turn_same unshut same =
      turned words turning.long turning.small (λ a b is some. is) (λ a b joined. turning.complete k a b given (inr unshut) joined)
      (λ a b is. inr (is, λ joined. (k, given, subst (λ (es : List Edge). Joined es a b) (sym same) joined)))

  module _ (edge : Edge) (left_in : edge.left < 48) (right_in_lem : edge.right < 48) (one : may k ≡ edge ∷ []) where
    -- one that is opened
    pub turn_put : after k ≡ may k → Turning after may shut count (k + 1) (with_edge edge.left edge.right words)
    turn_put same =
        turned (with_edge edge.left edge.right words) (edge_length edge.left edge.right words ∙ turning.long) (edge_small edge words turning.long left_in right_in_lem turning.small)
        (λ a b is some. edge_keeps edge words turning.long left_in right_in_lem a b is)
        (λ a b joined. edge_here edge words turning.long left_in right_in_lem a b (of_one edge a b (subst (λ (es : List Edge). Joined es a b) (same ∙ one) joined)))
        (λ a b is.
        ⊎_elim
        (λ old. inr (old, λ joined. (k, given, subst (λ (es : List Edge). Joined es a b) (sym same) joined)))
        (λ joins. inl (k, given, subst (λ (es : List Edge). Joined es a b) (sym (same ∙ one)) (edge, Memᴰ.head refl, joins)))
        (edge_is edge words turning.long left_in right_in_lem a b is))

    -- one that is shut, where no other joins its ends
    pub turn_taken : after k ≡ [] → (Somewhere after count edge.left edge.right → ⊥) → Turning after may shut count (k + 1) (without_edge edge.left edge.right words)
    turn_taken none alone =
        turned (without_edge edge.left edge.right words) (less_long edge words turning.long left_in right_in_lem) (less_small edge words turning.long left_in right_in_lem turning.small)
        (λ a b is some. less_keeps edge words turning.long left_in right_in_lem a b is (λ joins. alone (some.0, some.1, to_ends edge (after some.0) joins some.2)))
        (λ a b joined. absurd (Memᴰ.not-nil (subst (λ (es : List Edge). joined.0 ∈ es) none joined.1)))
        (λ a b is.
        let less = less_is edge words turning.long left_in right_in_lem a b is in
        inr (less.0, λ joined. absurd (less.1 (of_one edge a b (subst (λ (es : List Edge). Joined es a b) one joined)))))

-- a write's row that is lent ends at array terms
pub write_ends : (row : ℕ) → Each (EndsBelow 48) (edges_in row) → row / 67108864 ≡ 0 → EndsBelow 48 (written row)
unfolding edges_in
write_ends row ends kind = (subst (λ (guard : ℕ). Each (EndsBelow 48) (edges_of (row % 64) (row / 64 % 64) (row / 4096 % 64) (row / 262144 % 256) guard)) kind ends).0

-- a row of the lent ones, as the code turns it
module _ (values truths rows : List ℕ) (count before x k : ℕ) (lent : Lent rows count 48) (given : k < count) (apart : Apart (may_at truths rows) count) (words new : List ℕ)
    (turning : Turning (edges_at values truths rows x) (may_at truths rows) (shut_at values rows before) count k words) where
  abbrev row : ℕ
  row = get_or rows k 0

  abbrev Next : List ℕ → Type 0
  Next it = Turning (edges_at values truths rows x) (may_at truths rows) (shut_at values rows before) count (k + 1) it

  alone : shut_to values x row ≡ true → Somewhere (edges_at values truths rows x) count (row % 64) (row / 64 % 64) → ⊥
  alone shut (j, j_in, joined) = go (dec_lt j k) (ℕ_discrete j k)
    where
      here : Joined (may_open truths row) (row % 64) (row / 64 % 64)
      here = subst (λ (es : List Edge). Joined es (row % 64) (row / 64 % 64)) (sym (may_write truths row (shut_write values truths row x shut))) (written row, Memᴰ.head refl, inl (refl, refl))

      there : Joined (may_at truths rows j) (row % 64) (row / 64 % 64)
      there = within values truths x (get_or rows j 0) (row % 64) (row / 64 % 64) joined

      go : Dec (j < k) → Dec (j ≡ k) → ⊥
      go (yes below) which = apart j k (row % 64) (row / 64 % 64) below given there here
      go (no past) (no other) = apart k j (row % 64) (row / 64 % 64) (omega (arith, past, other)) j_in here there
      go (no past) (yes same) =
          let own = subst (λ (i : ℕ). Joined (edges_at values truths rows x i) (row % 64) (row / 64 % 64)) same joined in
          Memᴰ.not-nil (subst (λ (es : List Edge). own.0 ∈ es) (shut_none values truths row x shut) own.1)

  pub turn_row : RowTurned values before x row words new → Next new
  turn_row is = go (shut_to values x row) (shut_to values before row) refl refl is
    where
      one : (y : ℕ) → shut_to values y row ≡ true → may_open truths row ≡ written row ∷ []
      one y shut = may_write truths row (shut_write values truths row y shut)

      ends : (y : ℕ) → shut_to values y row ≡ true → EndsBelow 48 (written row)
      ends y shut = write_ends row (lent.ends k given) (shut_write values truths row y shut)

      go : (shut opened : Bool) → shut_to values x row ≡ shut → shut_to values before row ≡ opened
          → new ≡ cond shut (without_edge (row % 64) (row / 64 % 64) words) (cond opened (with_edge (row % 64) (row / 64 % 64) words) words) → Next new
      go true opened shut was same =
          subst Next (sym same) (turn_taken (edges_at values truths rows x) (may_at truths rows) (shut_at values rows before) count k words turning given (written row) (ends x shut).0 (ends x shut).1 (one x shut) (shut_none values truths row x shut) (alone shut))
      go false true unshut was same =
          subst Next (sym same) (turn_put (edges_at values truths rows x) (may_at truths rows) (shut_at values rows before) count k words turning given (written row) (ends before was).0 (ends before was).1 (one before was) (may_open_lem values truths row x unshut))
      go false false unshut was same =
          subst Next (sym same) (turn_same (edges_at values truths rows x) (may_at truths rows) (shut_at values rows before) count k words turning given was (may_open_lem values truths row x unshut))

-- one row more is gathered
module _ (truths rows : List ℕ) (k : ℕ) (again : Bool) (words : List ℕ) (known : Gathered truths rows k words again) (inside : k < length rows) where
  pub gathered_none : [] ≡ may_open truths (get_or rows k 0) → Gathered truths rows (k + 1) words again
  gathered_none is =
      record {
        adjacent = row_none (may_open truths) rows k words known.adjacent inside is;
        apart = λ none. apart_shut (may_at truths rows) k (known.apart none) (sym is);
      }

  -- an edge that is put joins what an earlier one joins, if its bit was there
  pub gathered_one : (edge : Edge) → edge ∷ [] ≡ may_open truths (get_or rows k 0) → EndsBelow 48 edge
      → (found : Bool) → (found ≡ false → (again ≡ false) × (bit (get_or words edge.left 0) edge.right ≡ 0))
      → Gathered truths rows (k + 1) (with_edge edge.left edge.right words) found
  gathered_one edge is ends found none_found =
      record {
        adjacent = row_one (may_open truths) rows k words known.adjacent inside edge is ends;
        apart = λ none. apart_open (may_at truths rows) k (known.apart (none_found none).0) edge (sym is) (alone_yet (none_found none).1);
      }
    where
      alone_yet : bit (get_or words edge.left 0) edge.right ≡ 0 → (i : ℕ) → i < k → Joined (may_at truths rows i) edge.left edge.right → ⊥
      alone_yet none i below joined =
          omega (arith, none, known.adjacent.complete edge.left edge.right (joined.0, row_in (may_open truths) k rows i below (omega arith) joined.1, joined.2))
