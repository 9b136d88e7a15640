-- 02, E7, of the answers: what the calls say of a front that is cut between two fields, and what of the whole.
-- Assumes nothing.
use Prim.Native.Nat.{ℕ, ◌<◌, ◌≤◌}
use native.Mathlib.Nat.{le_refl}
use native.Mathlib.Omega.{arith}
use mathlib.Core.Path.{◌≡◌, refl, sym, ap, ◌∙◌, subst}
use mathlib.Core.Logic.{◌⊎◌, inl, inr, ⊎_elim, ⊎_map}
use mathlib.Core.List.Memᴰ
use mathlib.Core.List.{List, ◌++◌}
use mathlib.Core.Option.{Option, none, some}
use lib.ListN.{length}
use Rattle.paper.specs.Lists.{◌∈◌}
use Rattle.paper.specs.Terms.{Query}
use Rattle.paper.specs.Interpretations.{Memories, Interpretation}
use Rattle.paper.specs.Load.{Loaded, load}
use Rattle.paper.specs.Edges.{Source, sources}
use Rattle.paper.specs.Reach.{Reaches}
use Rattle.paper.specs.Conflict.{Pair}
use Rattle.paper.specs.Reading.{read_lemma}
use Rattle.paper.specs.Fronts.{IsFront}
use Rattle.paper.specs.Answers.{Verdict, Checked, check_refused, check}
use Rattle.meaning.proofs.Built.{AreBytes}
use Rattle.meaning.proofs.Accepted.{Accepted, accepted}
use Rattle.meaning.proofs.Whole.{guess_of, pair_of, lemma_of}
use Rattle.meaning.proofs.Verdict.{fits_none}
use Rattle.meaning.proofs.Reading.{lemma_read}
use Rattle.meaning.proofs.Called.{check_none, check_some}
use Rattle.meaning.proofs.Demands.{Lemma, refused_alike, consistent_exactly, clash, bounded}
use Rattle.meaning.proofs.Answered.{check_by_room}
use Rattle.meaning.proofs.Begins.{Begins, front_accepted, accepted_front}
use Rattle.meaning.proofs.Growth.{reach_kept, pair_kept, memories_front, rules_out_whole}

-- a front of bytes is bytes
pub front_bytes : (front rest : List ℕ) → AreBytes (front ++ rest) → AreBytes front
front_bytes front rest are x here = are x (Memᴰ.append_left rest here)

module _ (w : ℕ) (bytes : List ℕ) (query : Query) (are_bytes : AreBytes bytes) (loaded : load w bytes ≡ Loaded.accepted query)
    (front : List ℕ) (cut : IsFront w front bytes) where
  pub part : (part : Query) × (load w front ≡ Loaded.accepted part) × Begins part query
  part = front_accepted w front bytes query loaded cut

  pub part_bytes : AreBytes front
  part_bytes = front_bytes front cut.0 (subst AreBytes cut.1 are_bytes)

  whole_ok : Accepted w query
  whole_ok = accepted w bytes query are_bytes loaded

  part_ok : Accepted w part.0
  part_ok = accepted w front part.0 part_bytes part.1

  -- what is of the query that was cut off is of the one that the front loads
  as_loaded : (goal : Query → Type 0) → goal part.0 → (front_query : Query) → load w front ≡ Loaded.accepted front_query → goal front_query
  as_loaded goal holds front_query is = let same : part.0 ≡ front_query = cc (part.1, is) in subst goal same holds

  -- walks of the front are walks of the whole
  pub walks_stay : (front_query : Query) → load w front ≡ Loaded.accepted front_query → (source : Source) → source ∈ sources front_query.terms → (a : ℕ)
      → Reaches front_query.terms (guess_of front_query) source a → Reaches query.terms (guess_of query) source a
  walks_stay =
      as_loaded
      (λ one. (source : Source) → source ∈ sources one.terms → (a : ℕ) → Reaches one.terms (guess_of one) source a → Reaches query.terms (guess_of query) source a)
      (reach_kept part_ok part.2)

  -- if the whole is consistent, so is the front, whatever the buffers
  pub consistent_fronts : (room other : ℕ) → (check w bytes room).verdict ≡ Verdict.consistent → (check w front other).verdict ≡ Verdict.consistent
  consistent_fronts room other e = go (pair_of part.0) refl
    where
      go : (found : Option Pair) → pair_of part.0 ≡ found → (check w front other).verdict ≡ Verdict.consistent
      go none quiet = ap (λ (one : Checked). one.verdict) (check_none w front part.0 part.1 other quiet)
      go (some pair) found = absurd (pair_kept part_ok part.2 whole_ok pair found (fits_none whole_ok ((consistent_exactly w bytes query are_bytes loaded room).0 e)))

  -- If the front is in conflict, so is the whole, or what is lent for its lemma is too short
  pub conflict_or_short : (room other : ℕ) → (check w front room).verdict ≡ Verdict.in_conflict
      → ((check w bytes other).verdict ≡ Verdict.in_conflict) ⊎ ((other < 343) × (check w bytes other ≡ check_refused 10 0))
  conflict_or_short room other e = go (pair_of query) refl
    where
      go : (found : Option Pair) → pair_of query ≡ found → ((check w bytes other).verdict ≡ Verdict.in_conflict) ⊎ ((other < 343) × (check w bytes other ≡ check_refused 10 0))
      go none quiet = let (pair, found, written) = clash w front part.0 part_bytes part.1 room e in absurd (pair_kept part_ok part.2 whole_ok pair found quiet)
      go (some pair) found =
          ⊎_map (λ (fits, is). ap (λ (one : Checked). one.verdict) is) (λ (long, is). (omega (arith, (bounded w bytes query are_bytes loaded).bytes pair found), is))
          (check_some w bytes query loaded other pair found)

  -- with 343 bytes, and with as many as hold its lemma
  pub conflict_stays_343 : (room other : ℕ) → (check w front room).verdict ≡ Verdict.in_conflict → 343 ≤ other → (check w bytes other).verdict ≡ Verdict.in_conflict
  conflict_stays_343 room other e enough = ⊎_elim (λ stays. stays) (λ (small, is). absurd (omega arith)) (conflict_or_short room other e)

  pub conflict_stays : (room other : ℕ) → (check w front room).verdict ≡ Verdict.in_conflict → length (check w bytes 343).written ≤ other
      → (check w bytes other).verdict ≡ Verdict.in_conflict
  conflict_stays room other e fits =
      ⊎_elim (λ (long, is). absurd (omega arith)) (λ (fit, same). ap (λ (one : Checked). one.verdict) same ∙ conflict_stays_343 room 343 e (le_refl 343))
      (check_by_room w bytes query are_bytes loaded other 343 (le_refl 343))

  -- memories that fit the whole fit the front
  pub memories_fit : (front_query : Query) → load w front ≡ Loaded.accepted front_query → (memory : Memories)
      → Interpretation w query.terms (guess_of query) memory → Interpretation w front_query.terms (guess_of front_query) memory
  memories_fit front_query is memory valid = as_loaded (λ one. Interpretation w one.terms (guess_of one) memory) (memories_front part_ok part.2 valid) front_query is

  -- the front's lemma rules the whole's guess out
  pub front_rules_out : (room : ℕ) → (check w front room).verdict ≡ Verdict.in_conflict → Lemma w query (check w front room).written
  front_rules_out room e =
      let (pair, found, written) = clash w front part.0 part_bytes part.1 room e in
      record {
        literals = lemma_of part.0 pair;
        read = ap read_lemma written ∙ lemma_read (lemma_of part.0 pair);
        rules_out = rules_out_whole part_ok part.2 pair found;
      }

-- a verdict is of accepted bytes
verdict_accepted : (w : ℕ) (bytes : List ℕ) (room : ℕ) (verdict : Verdict) → (check w bytes room).verdict ≡ verdict
    → (verdict ≡ Verdict.refused) ⊎ ((query : Query) × (load w bytes ≡ Loaded.accepted query))
verdict_accepted w bytes room verdict e = go (load w bytes) refl
  where
    go : (one : Loaded) → load w bytes ≡ one → (verdict ≡ Verdict.refused) ⊎ ((query : Query) × (load w bytes ≡ Loaded.accepted query))
    go (Loaded.refused refusal at) is = inl (sym e ∙ ap (λ (one : Checked). one.verdict) (refused_alike w bytes refusal at is room 0 0).0)
    go (Loaded.accepted query) is = inr (query, is)

-- Whatever is put after a query in conflict, it is never consistent
pub never_mended : (w : ℕ) (front rest : List ℕ) → AreBytes (front ++ rest) → (room other : ℕ) → (check w front room).verdict ≡ Verdict.in_conflict
    → (check w (front ++ rest) other).verdict ≡ Verdict.consistent → ⊥
never_mended w front rest are_bytes room other clashes quiet =
    go (verdict_accepted w front room Verdict.in_conflict clashes) (verdict_accepted w (front ++ rest) other Verdict.consistent quiet)
  where
    go : (Verdict.in_conflict ≡ Verdict.refused) ⊎ ((query : Query) × (load w front ≡ Loaded.accepted query))
        → (Verdict.consistent ≡ Verdict.refused) ⊎ ((query : Query) × (load w (front ++ rest) ≡ Loaded.accepted query)) → ⊥
    go (inl never) other_one = let z : ◌≡◌ {A = ℕ} 0 1 = cc in omega arith
    go (inr one) (inl never) = let z : ◌≡◌ {A = ℕ} 0 1 = cc in omega arith
    go (inr (part, is)) (inr (query, loaded)) =
        let calm = consistent_fronts w (front ++ rest) query are_bytes loaded front (accepted_front w front rest part is) other room quiet in
        let z : ◌≡◌ {A = ℕ} 0 1 = cc (calm, clashes) in
        omega arith
