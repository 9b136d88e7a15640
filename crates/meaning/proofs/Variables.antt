-- Every number of the clauses names a variable: a bit or a Boolean of the terms, or a fresh one, and none is above the count that is reported.
-- Assumes nothing.
use Prim.Native.Nat.{ℕ, ◌+◌, ◌*◌, ◌<◌, ◌≤◌}
use native.Mathlib.Nat.{mul-suc, mul-le-mul_left}
use native.Mathlib.Omega.{arith}
use mathlib.Core.Path.{◌≡◌, refl, sym, subst}
use mathlib.Core.Logic.{◌⊎◌, inl, inr, ⊎_elim}
use mathlib.Core.List.Memᴰ
use mathlib.Core.List.{List, [], ◌∷◌, map}
use lib.IntN.{ℤ, pos, neg_ℤ}
use Rattle.paper.specs.Lists.{◌∈◌, sum, concat_map, range}
use Rattle.paper.specs.Lemma.{Literal}
use Rattle.paper.specs.Clauses.{Variable, bit, boolean, fresh, Signed, plus, minus, Clause, Gadget, differing, agreeing, gadget, gadgets, named_clauses, fresh_count, variable_number, signed_number, clauses_of}
use Rattle.meaning.proofs.Lists.{concat_map_in, range_in}
use Rattle.meaning.proofs.Literals.{Within}
use Rattle.meaning.proofs.Named.{linking_in}

-- a number that names one of so many variables, which are counted from 1
abbrev pub Names : (variables : ℕ) → ℤ → Type 0
Names variables n = (v : ℕ) × (1 ≤ v) × (v ≤ variables) × ((n ≡ pos v) ⊎ (n ≡ neg_ℤ (pos v)))

map_in : {A B : Type 0} (f : A → B) (xs : List A) {y : B} → y ∈ map f xs → (x : A) × (x ∈ xs) × (y ≡ f x)
map_in f [] here = absurd (Memᴰ.not-nil here)
map_in f (x ∷ xs) (Memᴰ.head same) = (x, Memᴰ.head refl, same)
map_in f (x ∷ xs) (Memᴰ.tail further) = let (z, there, is) = map_in f xs further in (z, Memᴰ.tail there, is)

module _ (w bases booleans freshes : ℕ) where
  abbrev Known : Variable → Type 0
  Known (bit b k) = (b < bases) × (k < w)
  Known (boolean m) = m < booleans
  Known (fresh n) = n < freshes

  abbrev KnownSigned : Signed → Type 0
  KnownSigned (plus variable) = Known variable
  KnownSigned (minus variable) = Known variable

  abbrev KnownAll : Clause → Type 0
  KnownAll clause = (s : Signed) → s ∈ clause → KnownSigned s

  one_known : {a : Signed} → KnownSigned a → KnownAll (a ∷ [])
  one_known known s here = subst KnownSigned (sym (Memᴰ.eq_of_singleton here)) known

  more_known : {a : Signed} {rest : Clause} → KnownSigned a → KnownAll rest → KnownAll (a ∷ rest)
  more_known known others s here = ⊎_elim (λ same. subst KnownSigned (sym same) known) (λ further. others s further) (Memᴰ.cases_cons here)

  -- the two clauses of a bit
  two_known : {a b c d e f : Signed} → KnownSigned a → KnownSigned b → KnownSigned c → KnownSigned d → KnownSigned e → KnownSigned f
      → (clause : Clause) → clause ∈ (a ∷ b ∷ c ∷ []) ∷ (d ∷ e ∷ f ∷ []) ∷ [] → KnownAll clause
  two_known a b c d e f clause here =
      ⊎_elim (λ same. subst KnownAll (sym same) (more_known a (more_known b (one_known c))))
      (λ second. subst KnownAll (sym (Memᴰ.eq_of_singleton second)) (more_known d (more_known e (one_known f))))
      (Memᴰ.cases_cons here)

  abbrev KnownGadget : Gadget → Type 0
  KnownGadget one = ((clause : Clause) → clause ∈ one.clauses → KnownAll clause) × KnownAll one.link

  agree_known : (v u n : ℕ) → v < bases → u < bases → n + 1 ≤ freshes → KnownGadget (gadget w n (Literal.differ v u))
  agree_known v u n v_in u_in fits = (
    (λ clause here.
        let (k, inside, within) = concat_map_in (agreeing v u n) (range 0 w) here in
        let k_in : k < w = omega (arith, (range_in 0 w inside).1) in
        two_known (v_in, k_in) (u_in, k_in) (omega arith) (v_in, k_in) (u_in, k_in) (omega arith) clause within),
    one_known (omega arith),
  )

  gadget_known : (n : ℕ) (l : Literal) → Within bases booleans l → n + (gadget w n l).freshes ≤ freshes → KnownGadget (gadget w n l)
  gadget_known n (Literal.equal i j) (i_in, j_in) fits = (
    (λ clause here.
        let (k, inside, within) = concat_map_in (differing i j n) (range 0 w) here in
        let k_in : k < w = omega (arith, (range_in 0 w inside).1) in
        two_known (i_in, k_in) (j_in, k_in) (omega arith) (i_in, k_in) (j_in, k_in) (omega arith) clause within),
    λ s here.
        let (k, inside, same) = map_in (λ k. plus (fresh (n + k))) (range 0 w) here in
        subst KnownSigned (sym same) (omega (arith, (range_in 0 w inside).1)),
  )
  gadget_known n (Literal.differ i j) (i_in, j_in) fits = agree_known i j n i_in j_in fits
  gadget_known n (Literal.is_true m) m_in fits = ((λ clause here. absurd (Memᴰ.not-nil here)), one_known m_in)
  gadget_known n (Literal.is_false m) m_in fits = ((λ clause here. absurd (Memᴰ.not-nil here)), one_known m_in)
  gadget_known n (Literal.conclusion v u) (v_in, u_in) fits = agree_known v u n v_in u_in fits

  gadgets_known : (n : ℕ) (literals : List Literal) → ((l : Literal) → l ∈ literals → Within bases booleans l)
      → n + sum (map (λ one. one.freshes) (gadgets w n literals)) ≤ freshes → (one : Gadget) → one ∈ gadgets w n literals → KnownGadget one
  gadgets_known n [] within fits one here = absurd (Memᴰ.not-nil here)
  gadgets_known n (l ∷ literals) within fits one (Memᴰ.head same) =
      subst KnownGadget (sym same) (gadget_known n l (within l (Memᴰ.head refl)) (omega arith))
  gadgets_known n (l ∷ literals) within fits one (Memᴰ.tail further) =
      gadgets_known (n + (gadget w n l).freshes) literals (λ k here. within k (Memᴰ.tail here)) (omega arith) one further

  -- a known variable has a number from 1 to the last
  variable_number_lem : (variable : Variable) → Known variable
      → (1 ≤ variable_number w bases booleans variable) × (variable_number w bases booleans variable ≤ w * bases + booleans + freshes)
  variable_number_lem (bit b k) (b_in, k_in) = (omega arith, omega (arith, mul-le-mul_left w b_in, mul-suc w b))
  variable_number_lem (boolean m) m_in = (omega arith, omega arith)
  variable_number_lem (fresh n) n_in = (omega arith, omega arith)

  signed_names : (s : Signed) → KnownSigned s → Names (w * bases + booleans + freshes) (signed_number w bases booleans s)
  signed_names (plus variable) known = let (low, high) = variable_number_lem variable known in (variable_number w bases booleans variable, low, high, inl refl)
  signed_names (minus variable) known = let (low, high) = variable_number_lem variable known in (variable_number w bases booleans variable, low, high, inr refl)

-- the clauses of a lemma that names given terms
pub clauses_name : (w bases booleans : ℕ) (literals : List Literal) → ((l : Literal) → l ∈ literals → Within bases booleans l)
    → (clause : List ℤ) → clause ∈ clauses_of w bases booleans literals → (n : ℤ) → n ∈ clause
    → Names (w * bases + booleans + fresh_count w literals) n
unfolding clauses_of named_clauses fresh_count
clauses_name w bases booleans literals within clause here n number =
    let (named, there, same) = map_in (map (signed_number w bases booleans)) (named_clauses w literals) here in
    let (s, inside, is) = map_in (signed_number w bases booleans) named (subst (λ (c : List ℤ). n ∈ c) same number) in
    subst (Names (w * bases + booleans + fresh_count w literals)) (sym is) (signed_names w bases booleans (fresh_count w literals) s (all_known named there s inside))
  where
    every : List Gadget
    every = gadgets w 0 literals

    known : (one : Gadget) → one ∈ every → KnownGadget w bases booleans (fresh_count w literals) one
    known one here = gadgets_known w bases booleans (fresh_count w literals) 0 literals within (omega arith) one here

    all_known : (c : Clause) → c ∈ named_clauses w literals → KnownAll w bases booleans (fresh_count w literals) c
    all_known c there =
        ⊎_elim
        (λ own. let (one, in_every, within_it) = concat_map_in (λ one. one.clauses) every own in (known one in_every).0 c within_it)
        (λ last s inside.
        let (one, in_every, within_it) = linking_in every (subst (λ (k : Clause). s ∈ k) (Memᴰ.eq_of_singleton last) inside) in
        (known one in_every).1 s within_it)
        (Memᴰ.append_cases (concat_map (λ one. one.clauses) every) there)
