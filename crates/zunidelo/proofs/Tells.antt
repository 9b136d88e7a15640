-- What a report of the public function's answer tells is what the paper's answer tells: an answer is the paper's, so its numbers are. And
-- what the returned number tells.
-- Assumes nothing.
use Prim.Native.Nat.{ℕ, ◌<◌, ◌≤◌}
use native.Mathlib.Omega.{arith}
use mathlib.Core.Path.{◌≡◌, refl, sym, ap, ◌∙◌}
use mathlib.Core.Logic.{◌⊎◌, ⊎_map}
use mathlib.Core.Bool.{Bool, true, false, not}
use mathlib.Core.List.{List}
use borrow.Author.Tests.{eqb-true}
use lib.Dec.{eqb}
use lib.IntN.{ℤ}
use Rattle.paper.specs.Answers.{Verdict}
use Rattle.paper.specs.Answers as Paper
use Rattle.checker.specs.Reports.{Checked, Looked, Written, report_of, CheckedAs, look_report_of, look_reported, write_report_of, WrittenAs}
use Rattle.checker.proofs.Told.{Over}
use Rattle.zunidelo.specs.Told.{place, returned, unless_refused, check_numbers, look_numbers, write_numbers, CheckTold, LookTold, WriteTold}

-- an answer r that is the case `one` of its enum
pub check_tells : (answer : Paper.Checked) (before after : List ℕ) (r one : Checked) → r ≡ one → CheckedAs answer before after r
    → CheckTold answer before after (check_numbers (report_of one)) (returned (report_of one).verdict)
check_tells answer before after r one same is =
    record {
      returns = ap (λ report. returned report.verdict) (sym (ap report_of same) ∙ is.report);
      reports = ap check_numbers (sym (ap report_of same) ∙ is.report);
      buffer = is.buffer;
    }

pub look_tells : (answer : Paper.Looked) (r one : Looked) → r ≡ one → look_report_of r ≡ look_reported answer
    → LookTold answer (look_numbers (look_report_of one)) (returned (unless_refused (look_report_of one).refused Verdict.consistent))
look_tells answer r one same is =
    record {
      returns = ap (λ report. returned (unless_refused report.refused Verdict.consistent)) (sym (ap look_report_of same) ∙ is);
      reports = ap look_numbers (sym (ap look_report_of same) ∙ is);
    }

pub write_tells : (answer : Paper.Written) (before after : List ℤ) (r one : Written) → r ≡ one → WrittenAs answer before after r
    → WriteTold answer before after (write_numbers (write_report_of one)) (returned (unless_refused (write_report_of one).refused Verdict.in_conflict))
write_tells answer before after r one same is =
    record {
      returns = ap (λ report. returned (unless_refused report.refused Verdict.in_conflict)) (sym (ap write_report_of same) ∙ is.report);
      reports = ap write_numbers (sym (ap write_report_of same) ∙ is.report);
      buffer = is.run;
    }

-- what is returned tells the verdict, and of the clause writer that nothing was refused
pub returned_consistent : (verdict : Verdict) → returned verdict ≡ 0 → verdict ≡ Verdict.consistent
returned_consistent Verdict.consistent is = refl
returned_consistent Verdict.in_conflict is = absurd (omega (arith, is))
returned_consistent Verdict.refused is = absurd (omega (arith, is))

pub returned_conflict : (verdict : Verdict) → returned verdict ≡ 1 → verdict ≡ Verdict.in_conflict
returned_conflict Verdict.consistent is = absurd (omega (arith, is))
returned_conflict Verdict.in_conflict is = refl
returned_conflict Verdict.refused is = absurd (omega (arith, is))

pub returned_written : (refusal : ℕ) → returned (unless_refused (not (eqb refusal 0)) Verdict.in_conflict) ≡ 1 → refusal ≡ 0
returned_written refusal = go (eqb refusal 0) refl
  where
    go : (none : Bool) → eqb refusal 0 ≡ none → returned (unless_refused (not none) Verdict.in_conflict) ≡ 1 → refusal ≡ 0
    go true e is = eqb-true refusal 0 e
    go false e is = absurd (omega (arith, is))

-- what the paper's answer writes is written over the buffer, as many elements as are reported
pub check_over : {answer : Paper.Checked} {before after report : List ℕ} {r : ℕ} → CheckTold answer before after report r
    → Over before after answer.written (place report 3)
check_over told = record { long_is = ap (λ numbers. place numbers 3) told.reports; after_is = told.buffer }

pub write_over : {answer : Paper.Written} {before after : List ℤ} {report : List ℕ} {r : ℕ} → WriteTold answer before after report r
    → Over before after answer.written (place report 4)
write_over told = record { long_is = ap (λ numbers. place numbers 4) told.reports; after_is = told.buffer }

-- an answer by room, as it is told: the answer that a large room holds, or the refusal
pub told_by_room : {A : Type 0} (returns : A → ℕ) (reports : A → List ℕ) (one full refused : A) (room long reported r s : ℕ) (report full_report : List ℕ)
    → r ≡ returns one → report ≡ reports one → s ≡ returns full → full_report ≡ reports full → reported ≡ long
    → ((room < long) × (one ≡ refused)) ⊎ ((long ≤ room) × (one ≡ full))
    → ((room < reported) × (r ≡ returns refused) × (report ≡ reports refused)) ⊎ ((reported ≤ room) × (r ≡ s) × (report ≡ full_report))
told_by_room returns reports one full refused room long reported r s report full_report r_is report_is s_is Full-is same by =
    ⊎_map (λ (longer, is). (rw same longer, r_is ∙ ap returns is, report_is ∙ ap reports is))
    (λ (short, is). (rw same short, r_is ∙ ap returns is ∙ sym s_is, report_is ∙ ap reports is ∙ sym Full-is))
    by
