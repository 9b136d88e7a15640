-- What it says of a term that it stands in a query after other terms: it names terms that are already given, it has the next number of
-- its series, and an equality has two witnesses. And the laws of the number of terms given.
-- Assumes nothing.
use Prim.Native.Nat.{ℕ, ◌+◌, ◌≤◌, ◌<◌}
use native.Mathlib.Nat.{zero-add}
use native.Mathlib.Omega.{arith}
use mathlib.Core.Path.{◌≡◌, refl, sym, ap, ◌∙◌}
use mathlib.Core.Logic.{◌⊎◌, inl, inr, ◌≢◌}
use mathlib.Core.Bool.{true, false, false≢true}
use mathlib.Core.List.Memᴰ
use mathlib.Core.List.{List, [], ◌∷◌, ◌++◌}
use lib.ListN.{length, length-append}
use Rattle.paper.specs.Lists.{◌∈◌}
use Rattle.paper.specs.Fields.{Series, base, boolean, array}
use Rattle.paper.specs.Terms.{Term, series, same_series, given, Assignment}

-- every number that a term names is below the count of its series
abbrev pub Below : (Series → ℕ) → Term → Type 0
Below c (Term.free_base own) = Unit {0}
Below c (Term.free_boolean own) = Unit {0}
Below c (Term.variable own) = Unit {0}
Below c (Term.write own beneath index value) = (beneath < c array) × (index < c base) × (value < c base)
Below c (Term.conditional own chooser if_true if_false) = (chooser < c boolean) × (if_true < c array) × (if_false < c array)
Below c (Term.read own from index) = (from < c array) × (index < c base)
Below c (Term.equality own left right left_witness right_witness) = (left < c array) × (right < c array) × (left_witness < c base) × (right_witness < c base)
Below c (Term.fixed own value) = Unit {0}

-- the term's own number
abbrev pub own_number : Term → ℕ
own_number (Term.free_base own) = own
own_number (Term.free_boolean own) = own
own_number (Term.variable own) = own
own_number (Term.write own beneath index value) = own
own_number (Term.conditional own chooser if_true if_false) = own
own_number (Term.read own from index) = own
own_number (Term.equality own left right left_witness right_witness) = own
own_number (Term.fixed own value) = own

-- what a term asks of the guess: a fixed number has its value; an equality's witnesses are two reads of its sides at one index, whose
-- values differ where its truth is false
abbrev pub Witnessed : List Term → Assignment → Term → Type 0
Witnessed before g (Term.free_base own) = Unit {0}
Witnessed before g (Term.free_boolean own) = Unit {0}
Witnessed before g (Term.variable own) = Unit {0}
Witnessed before g (Term.write own beneath index value) = Unit {0}
Witnessed before g (Term.conditional own chooser if_true if_false) = Unit {0}
Witnessed before g (Term.read own from index) = Unit {0}
Witnessed before g (Term.equality own left right left_witness right_witness) =
    (i : ℕ) × (Term.read left_witness left i ∈ before) × (Term.read right_witness right i ∈ before) × (g.truth own ≡ false → g.value left_witness ≢ g.value right_witness)
Witnessed before g (Term.fixed own value) = g.value own ≡ value

-- what a term has where it stands after others
abbrev pub Placed : List Term → Assignment → Term → Type 0
Placed before g term = Below (λ s. given s before) term × (own_number term ≡ given (series term) before) × Witnessed before g term

-- where the counts grow, the numbers named stay below them
pub below_grows : (c d : Series → ℕ) → ((s : Series) → c s ≤ d s) → (term : Term) → Below c term → Below d term
below_grows c d grows term below = go term below (grows base) (grows boolean) (grows array)
  where
    go : (term : Term) → Below c term → c base ≤ d base → c boolean ≤ d boolean → c array ≤ d array → Below d term
    go (Term.free_base own) below bases booleans arrays = tt
    go (Term.free_boolean own) below bases booleans arrays = tt
    go (Term.variable own) below bases booleans arrays = tt
    go (Term.write own beneath index value) below bases booleans arrays = omega arith
    go (Term.conditional own chooser if_true if_false) below bases booleans arrays = omega arith
    go (Term.read own from index) below bases booleans arrays = omega arith
    go (Term.equality own left right left_witness right_witness) below bases booleans arrays = omega arith
    go (Term.fixed own value) below bases booleans arrays = tt

-- witnesses stay among more terms, and under an assignment that agrees on the base terms given before and on the term's own truth or value
pub witnessed_kept : (term : Term) {before terms : List Term} (g h : Assignment) → ((t : Term) → t ∈ before → t ∈ terms)
    → (series term ≡ boolean → h.truth (own_number term) ≡ g.truth (own_number term))
    → (series term ≡ base → h.value (own_number term) ≡ g.value (own_number term)) → ((b : ℕ) → b < given base before → h.value b ≡ g.value b)
    → Below (λ s. given s before) term → Witnessed before g term → Witnessed terms h term
witnessed_kept (Term.free_base own) g h among truths own_value values below witnessed = tt
witnessed_kept (Term.free_boolean own) g h among truths own_value values below witnessed = tt
witnessed_kept (Term.variable own) g h among truths own_value values below witnessed = tt
witnessed_kept (Term.write own beneath index value) g h among truths own_value values below witnessed = tt
witnessed_kept (Term.conditional own chooser if_true if_false) g h among truths own_value values below witnessed = tt
witnessed_kept (Term.read own from index) g h among truths own_value values below witnessed = tt
witnessed_kept (Term.equality own left right left_witness right_witness) g h among truths own_value values below (i, on_left, on_right, differ) = (
  i,
  among (Term.read left_witness left i) on_left,
  among (Term.read right_witness right i) on_right,
  λ e same. differ (sym (truths refl) ∙ e) (sym (values left_witness below.2) ∙ same ∙ values right_witness below.3),
)
witnessed_kept (Term.fixed own value) g h among truths own_value values below witnessed = own_value refl ∙ witnessed

-- the test on series is their equality
pub same_series_lem : (s t : Series) → same_series s t ≡ true → s ≡ t
same_series_lem base base e = refl
same_series_lem base boolean e = absurd (false≢true e)
same_series_lem base array e = absurd (false≢true e)
same_series_lem boolean base e = absurd (false≢true e)
same_series_lem boolean boolean e = refl
same_series_lem boolean array e = absurd (false≢true e)
same_series_lem array base e = absurd (false≢true e)
same_series_lem array boolean e = absurd (false≢true e)
same_series_lem array array e = refl

pub own_series : (s : Series) → same_series s s ≡ true
own_series base = refl
own_series boolean = refl
own_series array = refl

-- how many terms of a series two runs of terms give
pub given_append : (s : Series) (before after : List Term) → given s (before ++ after) ≡ given s before + given s after
unfolding given
given_append s [] after = sym (zero-add (given s after))
given_append s (term ∷ before) after = let below = given_append s before after in omega arith

-- more terms are given further on
pub given_grows : (s : Series) {terms : List Term} (before after : List Term) → terms ≡ before ++ after → given s before ≤ given s terms
given_grows s before after split = rw (split, given_append) (omega arith)

-- a term's own series has more terms after it than before it
pub given_next : (before after : List Term) (term : Term) → given (series term) before < given (series term) (before ++ (term ∷ after))
unfolding given
given_next before after term = rw (given_append (series term) before (term ∷ after)) (rw own_series (omega arith))

-- a member of a list stands somewhere in it
pub split_in : {term : Term} {terms : List Term} → term ∈ terms → (before after : List Term) × (terms ≡ before ++ (term ∷ after))
split_in (Memᴰ.head {xs = terms} same) = ([], terms, ap (λ (t : Term). t ∷ terms) (sym same))
split_in (Memᴰ.tail {x = first} further) =
    let (before, after, split) = split_in further in
    (first ∷ before, after, ap (λ (terms : List Term). first ∷ terms) split)

-- a place in a list with one term more is the last, or a place in the list
pub split_last : (terms before after : List Term) (last term : Term) → terms ++ (last ∷ []) ≡ before ++ (term ∷ after)
    → ((before ≡ terms) × (term ≡ last)) ⊎ ((rest : List Term) × (terms ≡ before ++ (term ∷ rest)))
split_last [] [] after last term e = inl (refl, cc)
split_last (first ∷ terms) [] after last term e = inr (terms, cc)
split_last [] (first ∷ before) after last term e = absurd (omega (arith, simp length-append at (ap length e)))
split_last (first ∷ terms) (other ∷ before) after last term e =
    let same : first ≡ other = cc in
    go (split_last terms before after last term (cc))
  where
    go : ((before ≡ terms) × (term ≡ last)) ⊎ ((rest : List Term) × (terms ≡ before ++ (term ∷ rest)))
        → ((◌≡◌ {A = List Term} (other ∷ before) (first ∷ terms)) × (term ≡ last)) ⊎ ((rest : List Term) × (◌≡◌ {A = List Term} (first ∷ terms) (other ∷ (before ++ (term ∷ rest)))))
    go (inl (here, this)) = inl (cc, this)
    go (inr (rest, there)) = inr (rest, cc)
