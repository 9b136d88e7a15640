-- Short names for what an accepted query comes to under its own guess.
-- Assumes nothing.
use Prim.Native.Nat.{ℕ}
use mathlib.Core.List.{List}
use mathlib.Core.Option.{Option}
use Rattle.paper.specs.Terms.{Query, Assignment, assigned}
use Rattle.paper.specs.Reach.{pairs}
use Rattle.paper.specs.Conflict.{Pair, conflict}
use Rattle.paper.specs.Lemma.{Literal, lemma}
use Rattle.paper.specs.Model.{model}

abbrev pub guess_of : Query → Assignment
guess_of query = assigned query.guess

abbrev pub pair_of : Query → Option Pair
pair_of query = conflict query.terms (guess_of query)

abbrev pub pairs_of : Query → ℕ
pairs_of query = pairs query.terms (guess_of query)

abbrev pub lemma_of : Query → Pair → List Literal
lemma_of query pair = lemma query.terms (guess_of query) pair

abbrev pub model_of : Query → (a x : ℕ) → ℕ
model_of query = model query.terms (guess_of query)
