-- 01, The query: the terms that the fields give, and the guess, as two things. Each term carries its own number in its series.
-- Assumes nothing.
use Rattle.std.specs.Prelude.{ℕ, Bool, true, false, List, eqb, get_or}
use Rattle.paper.specs.Lists.{any, count}
use Rattle.paper.specs.Fields.{Series, base, boolean, array, Kind}

pub data Term : Type 0 where
  free_base free_boolean variable : (own : ℕ) → Term
  write : (own beneath index value : ℕ) → Term
  conditional : (own chooser if_true if_false : ℕ) → Term
  read : (own from index : ℕ) → Term
  equality : (own left right left_witness right_witness : ℕ) → Term
  fixed : (own value : ℕ) → Term

-- the term of a field with these numbers for its parts; the assigned value or truth is no part of it, but the value of a fixed number is
abbrev pub term_of : Kind → (own : ℕ) → List ℕ → Term
term_of Kind.free_base own numbers = Term.free_base own
term_of Kind.free_boolean own numbers = Term.free_boolean own
term_of Kind.variable own numbers = Term.variable own
term_of Kind.write own numbers = Term.write own (get_or numbers 0 0) (get_or numbers 1 0) (get_or numbers 2 0)
term_of Kind.conditional own numbers = Term.conditional own (get_or numbers 0 0) (get_or numbers 1 0) (get_or numbers 2 0)
term_of Kind.read own numbers = Term.read own (get_or numbers 0 0) (get_or numbers 1 0)
term_of Kind.equality own numbers = Term.equality own (get_or numbers 0 0) (get_or numbers 1 0) (get_or numbers 3 0) (get_or numbers 4 0)
term_of Kind.fixed own numbers = Term.fixed own (get_or numbers 0 0)

abbrev pub series : Term → Series
series (Term.free_base own) = base
series (Term.free_boolean own) = boolean
series (Term.variable own) = array
series (Term.write own beneath index value) = array
series (Term.conditional own chooser if_true if_false) = array
series (Term.read own from index) = base
series (Term.equality own left right left_witness right_witness) = boolean
series (Term.fixed own value) = base

abbrev pub same_series : Series → Series → Bool
same_series base base = true
same_series base boolean = false
same_series base array = false
same_series boolean base = false
same_series boolean boolean = true
same_series boolean array = false
same_series array base = false
same_series array boolean = false
same_series array array = true

-- how many terms of a series are given: the number that its next term gets
unfoldable pub given : Series → List Term → ℕ
given wanted terms = count (λ term. same_series wanted (series term)) terms

-- is base term b a fixed number?
abbrev pub fixes : (b : ℕ) → Term → Bool
fixes b (Term.free_base own) = false
fixes b (Term.free_boolean own) = false
fixes b (Term.variable own) = false
fixes b (Term.write own beneath index value) = false
fixes b (Term.conditional own chooser if_true if_false) = false
fixes b (Term.read own from index) = false
fixes b (Term.equality own left right left_witness right_witness) = false
fixes b (Term.fixed own value) = eqb own b

unfoldable pub is_fixed : List Term → (b : ℕ) → Bool
is_fixed terms b = any (fixes b) terms

-- The guess: an assigned value for each base term, an assigned truth for each Boolean, in order
pub record Guess : Type 0 where
  pub values : List ℕ
  pub truths : List Bool

pub record Query : Type 0 where
  pub terms : List Term
  pub guess : Guess

-- Values of the base terms and truths of the Booleans, by number: a guess, or those of an interpretation
pub record Assignment : Type 0 where
  pub value : ℕ → ℕ
  pub truth : ℕ → Bool

abbrev pub assigned : Guess → Assignment
assigned guess = record { value = λ b. get_or guess.values b 0; truth = λ m. get_or guess.truths m false }
