-- The demands, said of the answers of the three calls: each joins what the calls answer with what the answers mean.
-- Assumes nothing.
use Prim.Native.Nat.{ℕ, ◌+◌, ◌*◌, ◌<◌, ◌≤◌}
use native.Mathlib.Omega.{arith}
use mathlib.Core.Path.{◌≡◌, refl, sym, ap, ◌∙◌}
use mathlib.Core.Logic.{◌⊎◌, inl, inr, ◌↔◌}
use mathlib.Core.Bool.{Bool, true, false}
use mathlib.Core.List.{List}
use mathlib.Core.Option.{Option, none, some}
use lib.IntN.{ℤ}
use lib.ListN.{length}
use Rattle.paper.specs.Lists.{◌∈◌, all, count}
use Rattle.paper.specs.Fields.{base, boolean}
use Rattle.paper.specs.Terms.{given, Query, Assignment}
use Rattle.paper.specs.Interpretations.{Memories, GivesFixed, Interpretation, Consistent}
use Rattle.paper.specs.Load.{Loaded, load}
use Rattle.paper.specs.Conflict.{Pair}
use Rattle.paper.specs.Lemma.{Literal, lemma_holds, lemma_bytes}
use Rattle.paper.specs.Clauses.{run, clauses_of, clause_holds, assignment_of}
use Rattle.paper.specs.Reading.{read_lemma, read_run}
use Rattle.paper.specs.Answers.{Verdict, Checked, check_refused, check, Looked, look_refused, look, Written, write_refused, write_clauses}
use Rattle.meaning.proofs.Built.{AreBytes}
use Rattle.meaning.proofs.Accepted.{Accepted, accepted}
use Rattle.meaning.proofs.Fixed.{whole_lemma}
use Rattle.meaning.proofs.Whole.{guess_of, pair_of, pairs_of, lemma_of, model_of}
use Rattle.meaning.proofs.Memories.{interprets_same}
use Rattle.meaning.proofs.Called.{check_none, check_some, in_conflict, look_none, write_some, clauses_are, written}
use Rattle.meaning.proofs.Verdict.{numbered, model_fits, lemma_whole, lemma_sound, lemma_false, lemma_names, conflict_refutes, fits_none, none_fits, literals_most}
use Rattle.meaning.proofs.Clauses.{clauses_say_lemma}
use Rattle.meaning.proofs.Variables.{Names, clauses_name}
use Rattle.meaning.proofs.Reading.{lemma_read, clauses_read}
use Rattle.meaning.proofs.Counts.{is_equal, has_e, clauses_count_lem, fresh_count_lem, numbers_at_most, bytes_at_most}
use Rattle.meaning.proofs.Bounds.{equal_once, pairs_bound}

-- two verdicts are never the same
code : Verdict → ℕ
code Verdict.consistent = 0
code Verdict.in_conflict = 1
code Verdict.refused = 2

-- what is refused as it is read is refused by each call alike
pub refused_alike : (w : ℕ) (bytes : List ℕ) (refusal at : ℕ) → load w bytes ≡ Loaded.refused refusal at
    → (room a x : ℕ) → (check w bytes room ≡ check_refused refusal at) × (look w bytes a x ≡ look_refused refusal at) × (write_clauses w bytes room ≡ write_refused refusal at)
unfolding check look write_clauses
refused_alike w bytes refusal at is room a x = (rw is, rw is, rw is)

-- A lemma that rules a guess out: it holds in every interpretation of the terms, and fails under the guess
pub record RulesOut (w : ℕ) (query : Query) (literals : List Literal) : Type 0 where
  pub everywhere : (g : Assignment) (memory : Memories) → Interpretation w query.terms g memory → lemma_holds g literals ≡ true
  pub not_here : lemma_holds (guess_of query) literals ≡ false

-- Clauses that can hold at an assignment of bits to the terms' variables, which are the first: the others can be set so that all hold
abbrev pub Settable : (w : ℕ) → Query → (bits : ℕ → Bool) → List (List ℤ) → Type 0
Settable w query bits clauses =
    (truth : ℕ → Bool)
    × ((v : ℕ) → v ≤ w * given base query.terms + given boolean query.terms → truth v ≡ bits v)
    × (all (clause_holds truth) clauses ≡ true)

-- Clauses that say a lemma there: they can hold exactly if the lemma holds
abbrev pub SayAt : (w : ℕ) → Query → (bits : ℕ → Bool) → List (List ℤ) → List Literal → Type 0
SayAt w query bits clauses literals =
    Settable w query bits clauses ↔ (lemma_holds (assignment_of w (given base query.terms) (given boolean query.terms) bits) literals ≡ true)

-- and at every one
unfoldable pub Say : (w : ℕ) → Query → List (List ℤ) → List Literal → Type 0
Say w query clauses literals = (bits : ℕ → Bool) → SayAt w query bits clauses literals

-- 02, E1: "Interpretations and the assignments of demand 3 are now those that give each such term its value": of bits, those by which each fixed
-- number is its value
abbrev pub RespectsFixed : (w : ℕ) → Query → (bits : ℕ → Bool) → Type 0
RespectsFixed w query bits = GivesFixed query.terms (assignment_of w (given base query.terms) (given boolean query.terms) bits)

-- What is read off bytes is a lemma that rules the guess out
pub record Lemma (w : ℕ) (query : Query) (bytes : List ℕ) : Type 0 where
  pub literals : List Literal
  pub read : read_lemma bytes ≡ some literals
  pub rules_out : RulesOut w query literals

-- What is read off numbers is so many clauses over so many variables, which say the lemma that is read off bytes; they are counted by the
-- literals that the lemma has. At bits that respect the fixed numbers they say the lemma with nothing left out just as well.
pub record Clausal (w : ℕ) (query : Query) (bytes : List ℕ) (numbers : List ℤ) (variables many : ℕ) : Type 0 where
  pub literals : List Literal
  pub clauses : List (List ℤ)
  pub lemma_read : read_lemma bytes ≡ some literals
  pub run_read : read_run numbers ≡ some clauses
  pub many_are : many ≡ length clauses
  pub many_by : many ≡ 2 * w * (count is_equal literals + count has_e literals) + 1
  pub variables_by : variables ≡ w * given base query.terms + given boolean query.terms + (w * count is_equal literals + count has_e literals)
  pub names : (clause : List ℤ) → clause ∈ clauses → (n : ℤ) → n ∈ clause → Names variables n
  pub say : Say w query clauses literals
  pub say_whole : (pair : Pair) → pair_of query ≡ some pair → (bits : ℕ → Bool) → RespectsFixed w query bits
      → SayAt w query bits clauses (whole_lemma query.terms (guess_of query) pair)

-- The bounds of 01: pairs; literals and bytes of the lemma; numbers of its clauses at width 32
pub record Bounded (w : ℕ) (query : Query) : Type 0 where
  pub pairs : pairs_of query ≤ 14496
  pub literals : (pair : Pair) → pair_of query ≡ some pair → length (lemma_of query pair) ≤ 49
  pub bytes : (pair : Pair) → pair_of query ≡ some pair → length (lemma_bytes (lemma_of query pair)) ≤ 343
  pub numbers : (pair : Pair) → pair_of query ≡ some pair
      → length (run (clauses_of 32 (given base query.terms) (given boolean query.terms) (lemma_of query pair))) ≤ 12625

module _ (w : ℕ) (bytes : List ℕ) (query : Query) (are_bytes : AreBytes bytes) (loaded : load w bytes ≡ Loaded.accepted query) where
  ok : Accepted w query
  ok = accepted w bytes query are_bytes loaded

  pub consistent_exactly : (room : ℕ) → ((check w bytes room).verdict ≡ Verdict.consistent) ↔ Consistent w query
  unfolding code
  consistent_exactly room = go (pair_of query) refl
    where
      never : (pair : Pair) → pair_of query ≡ some pair → (check w bytes room).verdict ≡ Verdict.consistent → ⊥
      never pair found e = by (check_some w bytes query loaded room pair found)
        where
          by : ((length (lemma_bytes (lemma_of query pair)) ≤ room) × (check w bytes room ≡ in_conflict w bytes query loaded pair))
              ⊎ ((room < length (lemma_bytes (lemma_of query pair))) × (check w bytes room ≡ check_refused 10 0)) → ⊥
          by (inl (fits, is)) = let z : ◌≡◌ {A = ℕ} 1 0 = ap (λ (one : Checked). code one.verdict) (sym is) ∙ ap code e in omega arith
          by (inr (fits, is)) = let z : ◌≡◌ {A = ℕ} 2 0 = ap (λ (one : Checked). code one.verdict) (sym is) ∙ ap code e in omega arith

      go : (found : Option Pair) → pair_of query ≡ found → ((check w bytes room).verdict ≡ Verdict.consistent) ↔ Consistent w query
      go none quiet = (
        (λ e. none_fits ok quiet),
        λ some_fit. ap (λ (one : Checked). one.verdict) (check_none w bytes query loaded room quiet),
      )
      go (some pair) found = ((λ e. absurd (never pair found e)), λ some_fit. absurd (conflict_refutes ok pair found some_fit))

  -- the pair, where the verdict says so
  quiet : (room : ℕ) → (check w bytes room).verdict ≡ Verdict.consistent → pair_of query ≡ none
  quiet room e = fits_none ok ((consistent_exactly room).0 e)

  pub lookup_interprets : (room : ℕ) → (check w bytes room).verdict ≡ Verdict.consistent → Interpretation w query.terms (guess_of query) (λ a x. (look w bytes a x).value)
  lookup_interprets room e =
      interprets_same w query.terms (numbered ok) (guess_of query) (model_of query) (λ a x. (look w bytes a x).value)
      (λ a x a_in x_in. sym (ap (λ (one : Looked). one.value) (look_none w bytes query loaded a x (quiet room e) a_in x_in)))
      ok.small
      (model_fits ok (quiet room e))

  -- the pair, where the verdict says so
  pub clash : (room : ℕ) → (check w bytes room).verdict ≡ Verdict.in_conflict → (pair : Pair) × (pair_of query ≡ some pair) × ((check w bytes room).written ≡ lemma_bytes (lemma_of query pair))
  unfolding code
  clash room e = go (pair_of query) refl
    where
      by : (pair : Pair) → pair_of query ≡ some pair
          → ((length (lemma_bytes (lemma_of query pair)) ≤ room) × (check w bytes room ≡ in_conflict w bytes query loaded pair))
          ⊎ ((room < length (lemma_bytes (lemma_of query pair))) × (check w bytes room ≡ check_refused 10 0))
          → (pair : Pair) × (pair_of query ≡ some pair) × ((check w bytes room).written ≡ lemma_bytes (lemma_of query pair))
      by pair found (inl (fits, is)) = (pair, found, ap (λ (one : Checked). one.written) is)
      by pair found (inr (long, is)) = let z : ◌≡◌ {A = ℕ} 2 1 = ap (λ (one : Checked). code one.verdict) (sym is) ∙ ap code e in absurd (omega arith)

      go : (found : Option Pair) → pair_of query ≡ found
          → (pair : Pair) × (pair_of query ≡ some pair) × ((check w bytes room).written ≡ lemma_bytes (lemma_of query pair))
      go none is = let z : ◌≡◌ {A = ℕ} 0 1 = ap (λ (one : Checked). code one.verdict) (sym (check_none w bytes query loaded room is)) ∙ ap code e in absurd (omega arith)
      go (some pair) is = by pair is (check_some w bytes query loaded room pair is)

  pub conflict_rules_out : (room : ℕ) → (check w bytes room).verdict ≡ Verdict.in_conflict → Lemma w query (check w bytes room).written
  conflict_rules_out room e =
      let (pair, found, bytes_are_lem) = clash room e in
      record {
        literals = lemma_of query pair;
        read = ap read_lemma bytes_are_lem ∙ lemma_read (lemma_of query pair);
        rules_out = record { everywhere = lemma_sound ok pair found; not_here = lemma_false ok pair found };
      }

  pub clauses_exactly : (room : ℕ) → (check w bytes room).verdict ≡ Verdict.in_conflict → (run_room : ℕ) → (write_clauses w bytes run_room).refusal ≡ 0
      → Clausal w query (check w bytes room).written (write_clauses w bytes run_room).written (write_clauses w bytes run_room).variables (write_clauses w bytes run_room).clauses
  unfolding Say
  clauses_exactly room in_conflict_lem run_room e =
      let (pair, found, bytes_are_lem) = clash room in_conflict_lem in
      by pair found bytes_are_lem (write_some w bytes query loaded run_room pair found)
    where
      by : (pair : Pair) → pair_of query ≡ some pair → (check w bytes room).written ≡ lemma_bytes (lemma_of query pair)
          → ((length (run (clauses_are w bytes query loaded pair)) ≤ run_room) × (write_clauses w bytes run_room ≡ written w bytes query loaded pair))
          ⊎ ((run_room < length (run (clauses_are w bytes query loaded pair))) × (write_clauses w bytes run_room ≡ write_refused 10 0))
          → Clausal w query (check w bytes room).written (write_clauses w bytes run_room).written (write_clauses w bytes run_room).variables (write_clauses w bytes run_room).clauses
      by pair found bytes_are_lem (inl (fits, is)) =
          record {
            literals = lemma_of query pair;
            clauses = clauses_are w bytes query loaded pair;
            lemma_read = ap read_lemma bytes_are_lem ∙ lemma_read (lemma_of query pair);
            run_read =
                ap (λ (one : Written). read_run one.written) is
                ∙ clauses_read w (given base query.terms) (given boolean query.terms) (lemma_of query pair);
            many_are = ap (λ (one : Written). one.clauses) is;
            many_by = ap (λ (one : Written). one.clauses) is ∙ clauses_count_lem w (given base query.terms) (given boolean query.terms) (lemma_of query pair);
            variables_by =
                ap (λ (one : Written). one.variables) is
                ∙ ap (λ (n : ℕ). w * given base query.terms + given boolean query.terms + n) (fresh_count_lem w (lemma_of query pair));
            names =
                rw (ap (λ (one : Written). one.variables) is)
                (clauses_name w (given base query.terms) (given boolean query.terms) (lemma_of query pair) (lemma_names ok pair found));
            say = clauses_say_lemma w (given base query.terms) (given boolean query.terms) (lemma_of query pair) (lemma_names ok pair found);
            say_whole =
                λ other is bits respects.
                let g = assignment_of w (given base query.terms) (given boolean query.terms) bits in
                let one = clauses_say_lemma w (given base query.terms) (given boolean query.terms) (lemma_of query pair) (lemma_names ok pair found) bits in
                let same : other ≡ pair = cc (found, is) in
                rw same
                (let whole = lemma_whole ok pair found g respects in
                ((λ set. sym whole ∙ one.0 set), λ holds. one.1 (whole ∙ holds)));
          }
      by pair found bytes_are_lem (inr (long, is)) = let z : ◌≡◌ {A = ℕ} 10 0 = ap (λ (one : Written). one.refusal) (sym is) ∙ e in absurd (omega arith)

  -- what 01 bounds, of an accepted query
  pub bounded : Bounded w query
  bounded =
      record {
        pairs = pairs_bound ok;
        literals = literals_most ok;
        bytes = λ pair found. omega (arith, bytes_at_most (lemma_of query pair), literals_most ok pair found);
        numbers =
            λ pair found.
            numbers_at_most (given base query.terms) (given boolean query.terms) (lemma_of query pair)
            (equal_once query.terms (guess_of query) pair)
            (literals_most ok pair found);
      }
