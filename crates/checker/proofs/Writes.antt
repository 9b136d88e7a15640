-- What a check and the clause writer answer from the tables is the paper's answer.
-- Assumes nothing.
use Prim.Native.Nat.{ℕ, ◌+◌, ◌*◌, ◌<◌, ◌≤◌}
use native.Mathlib.Nat.{not-le_of_lt}
use mathlib.Core.Path.{◌≡◌, refl, sym, ap, ap₂, ◌∙◌, subst}
use mathlib.Core.Logic.{◌⊎◌, inl, inr}
use mathlib.Core.Bool.{false}
use mathlib.Core.List.{List}
use mathlib.Core.Option.{none, some}
use lib.IntN.{ℤ}
use lib.ListN.{length}
use Rattle.paper.specs.Fields.{base, boolean}
use Rattle.paper.specs.Terms.{given}
use Rattle.paper.specs.Load.{load}
use Rattle.paper.specs.Load as Load
use Rattle.paper.specs.Lemma.{Literal, lemma_bytes}
use Rattle.paper.specs.Clauses.{clauses_of, fresh_count, run}
use Rattle.paper.specs.Answers.{Verdict, written_over}
use Rattle.meaning.proofs.Whole.{lemma_of}
use Rattle.meaning.proofs.Called.{check_none, check_some, write_none, write_some}
use Rattle.meaning.proofs.Demands.{refused_alike}
use Rattle.meaning.proofs.Answered.{refused_numbered}
use Rattle.terms.specs.declared.Tables.{Tables}
use Rattle.lemma.specs.Pairs.{Numbers, found_of}
use Rattle.lemma.specs.declared.rows.Literal.{Literal as Row}
use Rattle.lemma.specs.Rows.{literals_of}
use Rattle.front.specs.declared.Ruling.{Ruling}
use Rattle.front.specs.Fronted.{Judged, Made}
use Rattle.std.specs.Prelude.{Ok, Err}
use Rattle.paper.specs.declared.Refusal.{Refusal}
use Rattle.paper.specs.declared.Reason.TheVariants.{NoRoom, OtherVerdict}
use Rattle.paper.specs.Reasons.{number_of}
use Rattle.checker.specs.declared.Verdict.TheVariants.{Consistent, Conflict}
use Rattle.checker.specs.Reports.{WriteReport, CheckAllows, WriteAllows}
use Rattle.front.proofs.Facts.{pairs_are, quiet, clash, pair, lemma_is}

-- of a refused load
pub check_refused_lem : (bytes before : List ℕ) (refusal : Refusal) → load 32 bytes ≡ Load.refused (number_of refusal.reason) refusal.offset → CheckAllows bytes before before (Err refusal)
check_refused_lem bytes before refusal is = rw (refused_alike 32 bytes (number_of refusal.reason) refusal.offset is (length before) 0 0).0 (record { report = refl; buffer = refl })

pub write_refused_lem : (bytes : List ℕ) (before : List ℤ) (refusal : Refusal) → load 32 bytes ≡ Load.refused (number_of refusal.reason) refusal.offset → WriteAllows bytes before before (Err refusal)
write_refused_lem bytes before refusal is =
    rw (refused_alike 32 bytes (number_of refusal.reason) refusal.offset is (length before) 0 0).2
    (record { report = rw (refused_numbered 32 bytes (number_of refusal.reason) refusal.offset is); run = refl })

-- what is said of counts and literals is said of those that are the same
carried : {bases bases' booleans booleans' : ℕ} {literals literals' : List Literal} (P : (bases booleans : ℕ) → List Literal → Type 0)
    → bases ≡ bases' → booleans ≡ booleans' → literals ≡ literals' → P bases booleans literals → P bases' booleans' literals'
carried P p q u said = rw (sym p, sym q, sym u) said

-- an answer that has room, and one that has none
roomy : {long room : ℕ} {P Q : Type 0} → long ≤ room → ((long ≤ room) × P) ⊎ ((room < long) × Q) → P
roomy fits (inl (room, is)) = is
roomy fits (inr (over, is)) = absurd (not-le_of_lt over fits)

short : {long room : ℕ} {P Q : Type 0} → room < long → ((long ≤ room) × P) ⊎ ((room < long) × Q) → Q
short over (inl (fits, is)) = absurd (not-le_of_lt over fits)
short over (inr (room, is)) = is

module _ {bytes : List ℕ} {t : Tables} {ruling : Ruling} (known : Judged bytes t ruling) where
  pub checks_quiet : found_of ruling.found ≡ none → (before : List ℕ) → CheckAllows bytes before before (Ok (Consistent ruling.pairs))
  checks_quiet nothing before =
      rw (check_none 32 bytes known.query known.loaded (length before) (quiet known nothing))
      (record { report = ap (λ (n : ℕ). record { verdict = Verdict.consistent; refusal = 0; offset = 0; pairs = n; length = 0 }) (pairs_are known); buffer = refl })

  pub writes_quiet : found_of ruling.found ≡ none → (before : List ℤ) → WriteAllows bytes before before (Err (record { reason = OtherVerdict; offset = 0 }))
  writes_quiet nothing before = rw (write_none 32 bytes known.query known.loaded (length before) (quiet known nothing)) (record { report = refl; run = refl })

  module _ (numbers : Numbers) (found : found_of ruling.found ≡ some numbers) {rows : List Row} (made : Made t numbers rows) where
    -- the literals that were made, and the paper's
    abbrev mine : List Literal
    mine = literals_of rows

    pub checks_short : (before : List ℕ) → length before < length (lemma_bytes mine) → CheckAllows bytes before before (Err (record { reason = NoRoom; offset = 0 }))
    checks_short before over =
        let same = lemma_is known numbers found rows made in
        rw (short (subst (λ (l : List Literal). length before < length (lemma_bytes l)) same over) (check_some 32 bytes known.query known.loaded (length before) (pair known numbers found) (clash known numbers found)))
        (record { report = refl; buffer = refl })

    pub checks_conflict : (before after : List ℕ) (long : ℕ) → length (lemma_bytes mine) ≤ length before → long ≡ length (lemma_bytes mine) → after ≡ written_over before (lemma_bytes mine)
        → CheckAllows bytes before after (Ok (Conflict ruling.pairs long))
    checks_conflict before after long fits long_is buffer =
        let same = lemma_is known numbers found rows made in
        rw (roomy (subst (λ (l : List Literal). length (lemma_bytes l) ≤ length before) same fits) (check_some 32 bytes known.query known.loaded (length before) (pair known numbers found) (clash known numbers found)))
        (record {
          report =
              ap₂ (λ (n m : ℕ). record { verdict = Verdict.in_conflict; refusal = 0; offset = 0; pairs = n; length = m }) (pairs_are known)
              (long_is ∙ ap (λ (l : List Literal). length (lemma_bytes l)) same);
          buffer = buffer ∙ ap (λ (l : List Literal). written_over before (lemma_bytes l)) same;
        })

    -- its clauses, by the counts of the tables
    abbrev clauses : List (List ℤ)
    clauses = clauses_of 32 t.counts.bases t.counts.booleans mine

    -- what is said of them is said of the paper's
    theirs : (P : (bases booleans : ℕ) → List Literal → Type 0) → P t.counts.bases t.counts.booleans mine
        → P (given base known.query.terms) (given boolean known.query.terms) (lemma_of known.query (pair known numbers found))
    theirs P said = carried P (sym (known.holds.counts.given_as base)) (sym (known.holds.counts.given_as boolean)) (lemma_is known numbers found rows made) said

    pub writes_short : (before : List ℤ) → length before < length (run clauses) → WriteAllows bytes before before (Err (record { reason = NoRoom; offset = 0 }))
    writes_short before over =
        rw (short (theirs (λ bases booleans l. length before < length (run (clauses_of 32 bases booleans l))) over) (write_some 32 bytes known.query known.loaded (length before) (pair known numbers found) (clash known numbers found)))
        (record { report = refl; run = refl })

    pub writes_clauses : (before after : List ℤ) (variables many long : ℕ) → length (run clauses) ≤ length before
        → variables ≡ 32 * t.counts.bases + t.counts.booleans + fresh_count 32 mine → many ≡ length clauses → long ≡ length (run clauses) → after ≡ written_over before (run clauses)
        → WriteAllows bytes before after (Ok (record { variables = variables; clauses = many; count = long }))
    writes_clauses before after variables many long fits variables_are many_is long_is buffer =
        rw (roomy (theirs (λ bases booleans l. length (run (clauses_of 32 bases booleans l)) ≤ length before) fits) (write_some 32 bytes known.query known.loaded (length before) (pair known numbers found) (clash known numbers found)))
        (record {
          report =
              theirs
              (λ bases booleans l.
              reported variables many long
              ≡ reported (32 * bases + booleans + fresh_count 32 l) (length (clauses_of 32 bases booleans l)) (length (run (clauses_of 32 bases booleans l))))
              (rw (variables_are, many_is, long_is));
          run = theirs (λ bases booleans l. after ≡ written_over before (run (clauses_of 32 bases booleans l))) buffer;
        })
      where
        reported : (variables many long : ℕ) → WriteReport
        reported variables many long = record { refused = false; refusal = 0; offset = 0; variables = variables; clauses = many; count = long }
