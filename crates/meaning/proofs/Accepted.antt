-- What it says of a query that it is accepted: its terms are placed, within the limits, and its guess has a value for each base term
-- and a truth for each Boolean.
-- Assumes nothing.
use Prim.Native.Nat.{ℕ, zero, suc, ◌+◌, ◌^◌, ◌≤◌, ◌<◌}
use native.Mathlib.Omega.{arith}
use mathlib.Core.Path.{◌≡◌, refl, ap, ◌∙◌}
use mathlib.Core.Logic.{◌⊎◌, inl, inr}
use mathlib.Core.Bool.{Bool, true, false, cond}
use mathlib.Core.List.Memᴰ
use mathlib.Core.List.{List, [], ◌∷◌, ◌++◌, map}
use lib.Dec.{eqb}
use lib.ListN.{length, get_or, length-append, length-map, get_or-append}
use borrow.Author.Tests.{leb-false}
use Rattle.paper.specs.Lists.{◌∈◌}
use Rattle.paper.specs.Fields.{Series, base, boolean, parts, gives}
use Rattle.paper.specs.Terms.{Term, series, same_series, given, Query, assigned}
use Rattle.paper.specs.Load.{limit, each_part, as_value, as_truth, next_term, extend, Loaded, load}
use Rattle.meaning.proofs.Tests.{faultless}
use Rattle.meaning.proofs.Built.{AreBytes, Built, nothing, more, accepted_built}
pub use Rattle.meaning.proofs.Placed.{Below, own_number, Witnessed, Placed}
use Rattle.meaning.proofs.Placed.{below_grows, witnessed_kept, same_series_lem, given_append, given_grows, given_next, split_in, split_last}
use Rattle.meaning.proofs.Next.{next_counts, next_small, next_placed}

-- all that an accepted query has
pub record Accepted (w : ℕ) (query : Query) : Type 0 where
  pub values : length query.guess.values ≡ given base query.terms
  pub truths : length query.guess.truths ≡ given boolean query.terms
  pub small : (b : ℕ) → b < given base query.terms → (assigned query.guess).value b < 2 ^ w
  pub limits : (s : Series) → given s query.terms ≤ limit s
  pub each : (before after : List Term) (term : Term) → query.terms ≡ before ++ (term ∷ after) → Placed before (assigned query.guess) term

-- a value for each base term, a truth for each Boolean
counted : {w : ℕ} {query : Query} → Built w query → (length query.guess.values ≡ given base query.terms) × (length query.guess.truths ≡ given boolean query.terms)
unfolding given extend
counted nothing = (refl, refl)
counted (more {query} built kind numbers shaped unmet) =
    let (values, truths) = counted built in
    let (same, one_value, one_truth) = next_counts kind (given (gives kind) query.terms) shaped in
    (simp (length-append, given_append, values, one_value), simp (length-append, given_append, length-map, truths, one_truth))

-- every value is below 2 ^ w
all_small : {w : ℕ} {query : Query} → Built w query → (x : ℕ) → x ∈ query.guess.values → x < 2 ^ w
unfolding extend
all_small nothing x here = absurd (Memᴰ.not-nil here)
all_small {w} (more {query} built kind numbers shaped unmet) x here = go (Memᴰ.append_cases query.guess.values here) (λ before. all_small built x before)
  where
    go : (x ∈ query.guess.values) ⊎ (x ∈ each_part as_value (parts kind) numbers) → (x ∈ query.guess.values → x < 2 ^ w) → x < 2 ^ w
    go (inl before) below = below before
    go (inr new) below = next_small shaped new

-- no series has more terms than its limit
limited : {w : ℕ} {query : Query} → Built w query → (s : Series) → given s query.terms ≤ limit s
unfolding given extend
limited nothing s = omega arith
limited (more {query} built kind numbers shaped unmet) s = rw given_append (go (same_series s (series term)) refl (limited built s))
  where
    term : Term
    term = next_term query.terms kind numbers

    room : given (gives kind) query.terms < limit (gives kind)
    room = leb-false (limit (gives kind)) (given (gives kind) query.terms) (faultless query kind numbers unmet).room

    go : (b : Bool) → same_series s (series term) ≡ b → given s query.terms ≤ limit s → given s query.terms + (cond b 1 0 + 0) ≤ limit s
    go true same below = rw (same_series_lem s (series term) same ∙ (next_counts kind (given (gives kind) query.terms) shaped).0) (omega (arith, room))
    go false other below = omega arith

-- what is looked up inside a list is of it
getD_in : (xs : List ℕ) (i d : ℕ) → i < length xs → get_or xs i d ∈ xs
getD_in [] i d h = absurd (omega arith)
getD_in (x ∷ xs) zero d h = Memᴰ.head refl
getD_in (x ∷ xs) (suc i) d h = Memᴰ.tail (getD_in xs i d (omega arith))

-- each term is placed after those before it
placed : {w : ℕ} {query : Query} → Built w query → (before after : List Term) (term : Term) → query.terms ≡ before ++ (term ∷ after) → Placed before (assigned query.guess) term
unfolding extend
placed nothing before after term e = absurd (omega (arith, simp length-append at (ap length e)))
placed (more {query} built kind numbers shaped unmet) before after term e = go (split_last query.terms before after (next_term query.terms kind numbers) term e) (λ rest there. placed built before rest term there)
  where
    go : ((before ≡ query.terms) × (term ≡ next_term query.terms kind numbers)) ⊎ ((rest : List Term) × (query.terms ≡ before ++ (term ∷ rest)))
        → ((rest : List Term) → query.terms ≡ before ++ (term ∷ rest) → Placed before (assigned query.guess) term)
        → Placed before (assigned (extend query kind numbers).guess) term
    go (inl (here, this)) below = rw (here, this) (next_placed query (counted built).0 (counted built).1 kind shaped (faultless query kind numbers unmet))
    go (inr (rest, there)) below =
        let (named, own, witnessed) = below rest there in
        (named, own, witnessed_kept term (assigned query.guess) (assigned (extend query kind numbers).guess) (λ t among. among) truths own_value values named witnessed)
      where
        -- what the guess gives to the terms before stays
        truths : series term ≡ boolean → get_or (query.guess.truths ++ map (eqb 1) (each_part as_truth (parts kind) numbers)) (own_number term) false ≡ get_or query.guess.truths (own_number term) false
        truths bool = get_or-append query.guess.truths (map (eqb 1) (each_part as_truth (parts kind) numbers)) false (own_number term) (rw ((counted built).1, ← bool, there, (below rest there).1) (given_next before rest term))

        own_value : series term ≡ base → get_or (query.guess.values ++ each_part as_value (parts kind) numbers) (own_number term) 0 ≡ get_or query.guess.values (own_number term) 0
        own_value is_base = get_or-append query.guess.values (each_part as_value (parts kind) numbers) 0 (own_number term) (rw ((counted built).0, ← is_base, there, (below rest there).1) (given_next before rest term))

        values : (b : ℕ) → b < given base before → get_or (query.guess.values ++ each_part as_value (parts kind) numbers) b 0 ≡ get_or query.guess.values b 0
        values b h = get_or-append query.guess.values (each_part as_value (parts kind) numbers) 0 b (rw (counted built).0 (omega (arith, given_grows base before (term ∷ rest) there)))

-- what is built, and so what is accepted, has all of this
pub built_accepted : {w : ℕ} {query : Query} → Built w query → Accepted w query
built_accepted {w} {query} built =
    record {
      values = (counted built).0;
      truths = (counted built).1;
      small = λ b h. all_small built (get_or query.guess.values b 0) (getD_in query.guess.values b 0 (rw (counted built).0 h));
      limits = limited built;
      each = placed built;
    }

pub accepted : (w : ℕ) (bytes : List ℕ) (query : Query) → AreBytes bytes → load w bytes ≡ Loaded.accepted query → Accepted w query
accepted w bytes query are e = built_accepted (accepted_built w bytes query are e)

-- the same of a term of the query, by membership
module _ {w : ℕ} {query : Query} (accepted_query : Accepted w query) {term : Term} (here : term ∈ query.terms) where
  -- the numbers that it names are of given terms
  pub below : Below (λ s. given s query.terms) term
  below =
      let (before, after, split) = split_in here in
      below_grows (λ s. given s before) (λ s. given s query.terms) (λ s. given_grows s before (term ∷ after) split) term (accepted_query.each before after term split).0

  -- its own number is of a given term
  pub own_below : own_number term < given (series term) query.terms
  own_below =
      let (before, after, split) = split_in here in
      rw (split, (accepted_query.each before after term split).1) (given_next before after term)

  -- its witnesses are among the terms
  pub witnessed : Witnessed query.terms (assigned query.guess) term
  witnessed =
      let (before, after, split) = split_in here in
      let (named, own, seen) = accepted_query.each before after term split in
      witnessed_kept term (assigned query.guess) (assigned query.guess) (λ t among. rw split (Memᴰ.append_left (term ∷ after) among)) (λ bool. refl) (λ is_base. refl) (λ b h. refl) named seen
