-- Demand 2 of an accepted query: with no conflicting pair the model has its guess; with one, the lemma holds everywhere and fails there.
-- Assumes nothing.
use Prim.Native.Nat.{ℕ, ◌≤◌}
use mathlib.Core.Path.{◌≡◌, refl, sym, ◌∙◌}
use mathlib.Core.Logic.{◌⊎◌, inl, inr}
use mathlib.Core.Bool.{true, false, cond, not, true≢false, false≢true}
use mathlib.Core.List.Memᴰ
use mathlib.Core.List.{List, [], ◌∷◌}
use mathlib.Core.Option.{Option, none, some}
use lib.ListN.{length}
use Rattle.paper.specs.Lists.{◌∈◌}
use Rattle.paper.specs.Fields.{base, boolean}
use Rattle.paper.specs.Terms.{Term, given, Query, Assignment}
use Rattle.paper.specs.Interpretations.{Memories, GivesFixed, Interpretation, Consistent}
use Rattle.paper.specs.Edges.{index_number, sources}
use Rattle.paper.specs.Conflict.{Pair, conflict}
use Rattle.paper.specs.Lemma.{Literal, hypotheses, stays, path, says, is_conclusion, lemma_holds}
use Rattle.meaning.proofs.Lists.{any_kept}
use Rattle.meaning.proofs.Accepted.{Accepted, below, own_below, witnessed}
use Rattle.meaning.proofs.Sources.{arrays_bound}
use Rattle.meaning.proofs.Given.{Numbered, open_is_edge}
use Rattle.meaning.proofs.Walks.{walk_among}
use Rattle.meaning.proofs.Soundness.{walk_sound}
use Rattle.meaning.proofs.Literals.{lemma_same, Within}
use Rattle.meaning.proofs.Fixed.{whole_lemma, lemma_kept, unmet}
use Rattle.meaning.proofs.Model.{model_interprets}
use Rattle.meaning.proofs.Whole.{guess_of, pair_of, lemma_of, model_of}
use Rattle.meaning.proofs.Conflicts.{Taken, taken, taken_first, taken_later, path_way, path_short, supposed, lemma_fails, lemma_within}
use Rattle.meaning.proofs.Bounds.{literals_bound}

module _ {w : ℕ} {query : Query} (ok : Accepted w query) where
  pub numbered : Numbered query.terms
  numbered = record { names = λ term here. below ok here; own = λ term here. own_below ok here }

  -- the guess gives each fixed number its value
  pub guess_fixed : GivesFixed query.terms (guess_of query)
  guess_fixed own value here = witnessed ok here

  -- no conflict: the model is an interpretation with the guess
  pub model_fits : pair_of query ≡ none → Interpretation w query.terms (guess_of query) (model_of query)
  model_fits quiet = model_interprets query.terms numbered (guess_of query) quiet w ok.small (λ term here. witnessed ok here)

  module _ (pair : Pair) (found : pair_of query ≡ some pair) where
    -- the pair is the least, as the paper takes it
    pub pair_taken : Taken query.terms (guess_of query) (sources query.terms) pair.first pair.later
    unfolding conflict
    pair_taken = taken query.terms (guess_of query) (sources query.terms) pair found

    -- at every assignment that gives each fixed number its value, the lemma says what it says with nothing left out
    pub lemma_whole : (g : Assignment) → GivesFixed query.terms g → lemma_holds g (lemma_of query pair) ≡ lemma_holds g (whole_lemma query.terms (guess_of query) pair)
    lemma_whole g gives =
        rw (lemma_kept query.terms (guess_of query) pair)
        (any_kept (stays query.terms) (λ l. cond (is_conclusion l) (says g l) (not (says g l))) (whole_lemma query.terms (guess_of query) pair)
        (λ l here out. go l out (Memᴰ.append_cases hyps here)))
      where
        hyps : List Literal
        hyps = hypotheses (index_number pair.first.place) (index_number pair.later.place) (path query.terms (guess_of query) pair)

        go : (l : Literal) → stays query.terms l ≡ false → (l ∈ hyps) ⊎ (l ∈ Literal.conclusion pair.first.value pair.later.value ∷ [])
            → cond (is_conclusion l) (says g l) (not (says g l)) ≡ false
        go l out (inl here) =
            unmet query.terms (guess_of query) g guess_fixed gives l out (supposed query.terms numbered (guess_of query) pair pair_taken l here)
        go l out (inr last) = absurd (true≢false (rw (Memᴰ.eq_of_singleton last) at out))

    -- the lemma holds in every interpretation of the terms
    pub lemma_sound : (g : Assignment) (memory : Memories) → Interpretation w query.terms g memory → lemma_holds g (lemma_of query pair) ≡ true
    lemma_sound g memory valid =
        lemma_whole g (λ own value here. valid.holds (Term.fixed own value) here)
        ∙ walk_sound w query.terms g memory valid numbered pair.first pair.later
        (taken_first query.terms (guess_of query) pair_taken)
        (taken_later query.terms (guess_of query) pair_taken)
        (walk_among (open_is_edge query.terms numbered (guess_of query) ((guess_of query).value _))
        (path_way query.terms numbered (guess_of query) pair pair_taken))

    -- and is false under the guess
    pub lemma_false : lemma_holds (guess_of query) (lemma_of query pair) ≡ false
    lemma_false = lemma_fails query.terms numbered (guess_of query) pair pair_taken

    pub lemma_names : (l : Literal) → l ∈ lemma_of query pair → Within (given base query.terms) (given boolean query.terms) l
    lemma_names = lemma_within query.terms numbered (guess_of query) pair pair_taken

    -- so no interpretation has the guess
    pub conflict_refutes : Consistent w query → ⊥
    conflict_refutes (g, memory, valid, fits) =
        false≢true
        (sym lemma_false
        ∙ sym (lemma_same fits.values fits.truths (lemma_of query pair) lemma_names)
        ∙ lemma_sound g memory valid)

    pub literals_most : length (lemma_of query pair) ≤ 49
    literals_most =
        literals_bound query.terms (guess_of query) pair
        (path_short query.terms numbered (guess_of query) pair pair_taken)
        (arrays_bound ok)

  -- So there is no pair exactly if some memories fit
  pub fits_none : Consistent w query → pair_of query ≡ none
  fits_none consistent = go (pair_of query) refl
    where
      go : (found : Option Pair) → pair_of query ≡ found → found ≡ none
      go none is = refl
      go (some pair) is = absurd (conflict_refutes pair is consistent)

  pub none_fits : pair_of query ≡ none → Consistent w query
  none_fits quiet = (guess_of query, model_of query, model_fits quiet, record { values = λ b here. refl; truths = λ m here. refl })

  pub unfit_some : (Consistent w query → ⊥) → (pair : Pair) × (pair_of query ≡ some pair)
  unfit_some unfit = go (pair_of query) refl
    where
      go : (found : Option Pair) → pair_of query ≡ found → (pair : Pair) × (pair_of query ≡ some pair)
      go none quiet = absurd (unfit (none_fits quiet))
      go (some pair) is = (pair, is)
