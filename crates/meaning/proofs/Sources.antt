-- How many sources and array terms an accepted query has. 01, Sources, edges, reach: "It never exceeds 48 times 302".
-- Assumes nothing.
use Prim.Native.Nat.{ℕ, pred, ◌+◌, ◌≤◌}
use native.Mathlib.Omega.{arith}
use mathlib.Core.Path.{◌≡◌, refl, sym, ◌∙◌}
use mathlib.Core.Bool.{cond}
use mathlib.Core.List.{List, [], ◌∷◌, ◌++◌, append-nil, append_assoc}
use lib.ListN.{length, length-append}
use Rattle.paper.specs.Fields.{Series, base, array}
use Rattle.paper.specs.Terms.{Term, series, same_series, given, Query}
use Rattle.paper.specs.Edges.{source_of, sources}
use Rattle.meaning.proofs.Lists.{concat_map_append}
use Rattle.meaning.proofs.Placed.{given_append}
use Rattle.meaning.proofs.Accepted.{Below, Accepted}

-- what holds of no terms, and of each term more, holds of them all
pub along : (P : List Term → Type 0) (terms : List Term) → P [] → ((before after : List Term) (term : Term) → terms ≡ before ++ (term ∷ after) → P before → P (before ++ (term ∷ []))) → P terms
along P terms start step = go [] terms refl start
  where
    go : (before after : List Term) → terms ≡ before ++ after → P before → P terms
    go before [] split holds = rw (split, append-nil) holds
    go before (term ∷ after) split holds = go (before ++ (term ∷ [])) after (split ∙ sym (append_assoc before (term ∷ []) after)) (step before after term split holds)

-- a source is not the first term of its series: a read names an index, a write the array beneath
sourced : (c : Series → ℕ) (term : Term) → Below c term
    → pred (c base) + pred (c array) + length (source_of term) ≤ pred (c base + cond (same_series base (series term)) 1 0) + pred (c array + cond (same_series array (series term)) 1 0)
sourced c (Term.free_base own) below = omega arith
sourced c (Term.free_boolean own) below = omega arith
sourced c (Term.variable own) below = omega arith
sourced c (Term.write own beneath index value) below = omega arith
sourced c (Term.conditional own chooser if_true if_false) below = omega arith
sourced c (Term.read own from index) below = omega arith
sourced c (Term.equality own left right left_witness right_witness) below = omega arith
sourced c (Term.fixed own value) below = omega arith

module _ {w : ℕ} {query : Query} (accepted : Accepted w query) where
  -- each series of sources lacks its first term
  sources_below : length (sources query.terms) ≤ pred (given base query.terms) + pred (given array query.terms)
  unfolding sources given
  sources_below = along (λ terms. length (sources terms) ≤ pred (given base terms) + pred (given array terms)) query.terms (omega arith) step
    where
      step : (before after : List Term) (term : Term) → query.terms ≡ before ++ (term ∷ after)
          → length (sources before) ≤ pred (given base before) + pred (given array before)
          → length (sources (before ++ (term ∷ []))) ≤ pred (given base (before ++ (term ∷ []))) + pred (given array (before ++ (term ∷ [])))
      step before after term split holds = simp (concat_map_append, length-append, append-nil, given_append) (omega (arith, sourced (λ s. given s before) term (accepted.each before after term split).0))

  -- at most 255 reads and 47 writes
  pub sources_bound : length (sources query.terms) ≤ 302
  sources_bound = omega (arith, sources_below, accepted.limits base, accepted.limits array)

  -- the limit of the array terms
  pub arrays_bound : given array query.terms ≤ 48
  arrays_bound = accepted.limits array
