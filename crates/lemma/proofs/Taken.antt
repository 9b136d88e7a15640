-- The pair that the code's tables give is the paper's, where their clashes are the paper's conflicts.
-- Assumes nothing.
use Prim.Native.Nat.{ℕ, ◌<◌}
use native.Mathlib.Omega.{arith}
use mathlib.Core.Path.{◌≡◌, refl, sym, ap, ap₂, ◌∙◌}
use mathlib.Core.Bool.{Bool, true, false, cond}
use mathlib.Core.List.Memᴰ
use mathlib.Core.List.{List, [], ◌∷◌, map}
use mathlib.Core.Option.{Option, none, some}
use lib.Dec.{eqb}
use lib.ListN.{get_or}
use Rattle.paper.specs.Lists.{◌∈◌, or_else, map_option, find, range}
use Rattle.paper.specs.Terms.{Term, Assignment, Query, assigned}
use Rattle.paper.specs.Edges.{Source}
use Rattle.paper.specs.Reach.{reaches}
use Rattle.paper.specs.Conflict.{Pair, conflicts, first_pair, conflict}
use Rattle.meaning.proofs.Lists.{find_same, range_in}
use Rattle.terms.specs.declared.Tables.{Tables}
use Rattle.terms.specs.Tables.{source_in}
use Rattle.terms.specs.Holds.{Holds}
use Rattle.terms.specs.Graph.{Graphed}
use Rattle.reach.specs.Reached.{Sources, opens_in, sources_in, origin_at, value_at, RowOf}
use Rattle.reach.proofs.Paper.{source_at, bit_same, origin_same, index_same, value_same, sources_same, row_paper}
use Rattle.lemma.specs.Pairs.{Numbers, clash_in, pair_among, pair_in}

find_map : {A B : Type 0} (f : A → B) (test : B → Bool) (xs : List A) → find test (map f xs) ≡ map_option f (find (λ x. test (f x)) xs)
find_map f test [] = refl
find_map {A} {B} f test (x ∷ xs) = go (test (f x)) (find_map f test xs)
  where
    go : (passes : Bool) → find test (map f xs) ≡ map_option f (find (λ y. test (f y)) xs)
        → cond passes (some (f x)) (find test (map f xs)) ≡ map_option f (cond passes (some x) (find (λ y. test (f y)) xs))
    go true below = refl
    go false below = below

-- the two sources that numbers name
abbrev pub pair_at : Sources → Numbers → Pair
pair_at s numbers = record { first = source_in (get_or s.sources numbers.first 0); later = source_in (get_or s.sources numbers.later 0) }

module _ (terms : List Term) (g : Assignment) (t : Tables) where
  among_same : (clash : ℕ → ℕ → Bool) (is : List ℕ) → ((i j : ℕ) → i ∈ is → j ∈ is → clash i j ≡ conflicts terms g (source_at t i) (source_at t j))
      → map_option (pair_at (sources_in t)) (pair_among clash is) ≡ first_pair terms g (map (source_at t) is)
  among_same clash [] same = refl
  among_same clash (i ∷ later) same =
      go (find (clash i) later) (among_same clash later (λ k j here there. same k j (Memᴰ.tail here) (Memᴰ.tail there)))
      ∙ ap (λ (found : Option Source). or_else (map_option {B = Pair} (λ source. record { first = source_at t i; later = source }) found) (first_pair terms g (map (source_at t) later)))
      (ap (map_option (source_at t)) (find_same later (λ j there. same i j (Memᴰ.head refl) (Memᴰ.tail there)))
      ∙ sym (find_map (source_at t) (conflicts terms g (source_at t i)) later))
    where
      go : (found : Option ℕ) → map_option (pair_at (sources_in t)) (pair_among clash later) ≡ first_pair terms g (map (source_at t) later)
          → map_option (pair_at (sources_in t)) (or_else (map_option (λ j. record { first = i; later = j }) found) (pair_among clash later))
          ≡ or_else (map_option (λ source. record { first = source_at t i; later = source }) (map_option (source_at t) found)) (first_pair terms g (map (source_at t) later))
      go none below = below
      go (some j) below = refl

  taken_same : (rows : List ℕ) → ((i j : ℕ) → i < t.counts.sources → j < t.counts.sources → clash_in (sources_in t) rows i j ≡ conflicts terms g (source_at t i) (source_at t j))
      → map_option (pair_at (sources_in t)) (pair_in (sources_in t) rows) ≡ first_pair terms g (map (source_at t) (range 0 t.counts.sources))
  unfolding pair_in
  taken_same rows same =
      among_same (clash_in (sources_in t) rows) (range 0 t.counts.sources)
      (λ i j here there. same i j (omega (arith, (range_in 0 t.counts.sources here).1)) (omega (arith, (range_in 0 t.counts.sources there).1)))

module _ {query : Query} {t : Tables} (held : Holds query t) (graph : Graphed query t) where
  module _ (words : List ℕ) (rows : (k : ℕ) → k < t.counts.sources → RowOf (opens_in t) t.counts.arrays (value_at (sources_in t) k) (origin_at (sources_in t) k) (get_or words k 0)) where
    -- two sources clash in the tables exactly where they conflict
    clash_same : (i j : ℕ) → i < t.counts.sources → j < t.counts.sources
        → clash_in (sources_in t) words i j ≡ conflicts query.terms (assigned query.guess) (source_at t i) (source_at t j)
    unfolding conflicts
    clash_same i j i_in j_in =
        ap₃ (λ index value reach. cond index (cond value false reach) false)
        (ap₂ eqb (index_same held graph i i_in) (index_same held graph j j_in))
        (ap₂ eqb (value_same held graph i i_in) (value_same held graph j j_in))
        (bit_same (reaches query.terms (assigned query.guess) (source_at t i) (origin_at (sources_in t) j)) (row_paper held graph i i_in (get_or words i 0) (rows i i_in) (origin_at (sources_in t) j))
        ∙ ap (reaches query.terms (assigned query.guess) (source_at t i)) (origin_same held graph j))
      where
        ap₃ : (f : Bool → Bool → Bool → Bool) {a b c a' b' c' : Bool} → a ≡ a' → b ≡ b' → c ≡ c' → f a b c ≡ f a' b' c'
        ap₃ f p q r = λ i. f (p i) (q i) (r i)

    -- the pair that the tables give is the paper's
    pub pair_paper : map_option (pair_at (sources_in t)) (pair_in (sources_in t) words) ≡ conflict query.terms (assigned query.guess)
    unfolding conflict
    pair_paper = taken_same query.terms (assigned query.guess) t words clash_same ∙ ap (first_pair query.terms (assigned query.guess)) (sources_same held graph)
