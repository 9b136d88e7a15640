-- Each answer is told by its report, and so by the paper's answer; and what stands in a buffer that was written over.
-- Assumes nothing.
use Prim.Native.Nat.{ℕ, zero, suc, ◌≤◌}
use native.Mathlib.Omega.{arith}
use mathlib.Core.Path.{◌≡◌, refl, sym, ap, ◌∙◌}
use mathlib.Core.Bool.{Bool, true, false, cond, not}
use mathlib.Core.List.{List, [], ◌∷◌, map}
use mathlib.Core.Option.{some}
use lib.Dec.{eqb}
use lib.IntN.{ℤ}
use lib.ListN.{length, take, drop, length-map}
use lib.Seq.{take_at, drop_at}
use Rattle.paper.specs.Cells.{Cell}
use Rattle.paper.specs.Answers.{Verdict, written_over}
use Rattle.paper.specs.Answers as Paper
use Rattle.meaning.proofs.Cells.{cell_with, value_with}
use Rattle.std.specs.Prelude.{Ok, Err}
use Rattle.paper.specs.declared.Refusal.{Refusal}
use Rattle.paper.specs.declared.Reason.{Reason}
use Rattle.paper.specs.declared.Reason.TheVariants.{TooLong, RunsPastEnd, UnknownTag, WrongLength, TooMany, NotGiven, WrongTruth, WrongWitness, EqualWitnesses, NoRoom, NoCell, OtherVerdict}
use Rattle.paper.specs.Reasons.{number_of, reason_of}
use Rattle.checker.specs.declared.Verdict.TheVariants.{Consistent, Conflict}
use Rattle.checker.specs.Reports.{Checked, Looked, Listed, Written, Report, report_of, reported, LookReport, look_report_of, look_reported, ListReport, list_report_of, list_reported, WriteReport, write_report_of, write_reported}
use Rattle.checker.specs.Reports.{CheckedAs, ListedAs, beside, WrittenAs}

-- a reason is that of its number
reason_told : (reason : Reason) → reason ≡ reason_of (number_of reason)
reason_told TooLong = refl
reason_told RunsPastEnd = refl
reason_told UnknownTag = refl
reason_told WrongLength = refl
reason_told TooMany = refl
reason_told NotGiven = refl
reason_told WrongTruth = refl
reason_told WrongWitness = refl
reason_told EqualWitnesses = refl
reason_told NoRoom = refl
reason_told NoCell = refl
reason_told OtherVerdict = refl

-- and 1 to 12 have one
pub numbered : (n : ℕ) → 1 ≤ n → n ≤ 12 → number_of (reason_of n) ≡ n
numbered zero above below = absurd (omega (arith, above))
numbered (suc zero) above below = refl
numbered (suc (suc zero)) above below = refl
numbered (suc (suc (suc zero))) above below = refl
numbered (suc (suc (suc (suc zero)))) above below = refl
numbered (suc (suc (suc (suc (suc zero))))) above below = refl
numbered (suc (suc (suc (suc (suc (suc zero)))))) above below = refl
numbered (suc (suc (suc (suc (suc (suc (suc zero))))))) above below = refl
numbered (suc (suc (suc (suc (suc (suc (suc (suc zero)))))))) above below = refl
numbered (suc (suc (suc (suc (suc (suc (suc (suc (suc zero))))))))) above below = refl
numbered (suc (suc (suc (suc (suc (suc (suc (suc (suc (suc zero)))))))))) above below = refl
numbered (suc (suc (suc (suc (suc (suc (suc (suc (suc (suc (suc zero))))))))))) above below = refl
numbered (suc (suc (suc (suc (suc (suc (suc (suc (suc (suc (suc (suc zero)))))))))))) above below = refl
numbered (suc (suc (suc (suc (suc (suc (suc (suc (suc (suc (suc (suc (suc n))))))))))))) above below = absurd (omega (arith, below))

-- the refusal with a number and an offset
abbrev pub refusal_by : (number offset : ℕ) → Refusal
refusal_by number offset = record { reason = reason_of number; offset = offset }

refusal_told : (refusal : Refusal) → refusal ≡ refusal_by (number_of refusal.reason) refusal.offset
refusal_told refusal = ap (λ (reason : Reason). let r : Refusal = record { reason = reason; offset = refusal.offset } in r) (reason_told refusal.reason)

abbrev pub checked_by : Verdict → Report → Checked
checked_by Verdict.refused report = Err (refusal_by report.refusal report.offset)
checked_by Verdict.consistent report = Ok (Consistent report.pairs)
checked_by Verdict.in_conflict report = Ok (Conflict report.pairs report.length)

pub checked_told : (r : Checked) → r ≡ checked_by (report_of r).verdict (report_of r)
checked_told (Err refusal) = ap Err (refusal_told refusal)
checked_told (Ok (Consistent pairs)) = refl
checked_told (Ok (Conflict pairs long)) = refl

abbrev pub looked_by : Bool → LookReport → Looked
looked_by true report = Err (refusal_by report.refusal report.offset)
looked_by false report = Ok report.value

pub looked_told : (r : Looked) → r ≡ looked_by (look_report_of r).refused (look_report_of r)
looked_told (Err refusal) = ap Err (refusal_told refusal)
looked_told (Ok value) = refl

abbrev pub listed_by : Bool → ListReport → Listed
listed_by true report = Err (refusal_by report.refusal report.offset)
listed_by false report = Ok report.count

pub listed_told : (r : Listed) → r ≡ listed_by (list_report_of r).refused (list_report_of r)
listed_told (Err refusal) = ap Err (refusal_told refusal)
listed_told (Ok count) = refl

abbrev pub written_by : Bool → WriteReport → Written
written_by true report = Err (refusal_by report.refusal report.offset)
written_by false report = Ok (record { variables = report.variables; clauses = report.clauses; count = report.count })

pub written_told : (r : Written) → r ≡ written_by (write_report_of r).refused (write_report_of r)
written_told (Err refusal) = ap Err (refusal_told refusal)
written_told (Ok totals) = refl

-- The first so many elements of a buffer are written over: they stand first in it, and the rest stays
pub record Over {A : Type 0} (before after written : List A) (long : ℕ) : Type 0 where
  pub long_is : long ≡ length written
  pub after_is : after ≡ written_over before written

module _ {A : Type 0} {before after written : List A} {long : ℕ} (over : Over before after written long) where
  pub front : take long after ≡ written
  front = ap (take long) over.after_is ∙ take_at written (drop (length written) before) long (sym over.long_is)

  pub rest : drop long after ≡ drop long before
  rest =
      ap (drop long) over.after_is
      ∙ drop_at written (drop (length written) before) long (sym over.long_is)
      ∙ ap (λ (n : ℕ). drop n before) (sym over.long_is)

-- A contract allows the answer that the paper's answer tells, and no other; and what the paper's answer writes is written over the buffer
abbrev pub check_told : Paper.Checked → Checked
check_told answer = checked_by answer.verdict (reported answer)

module _ {answer : Paper.Checked} {before after : List ℕ} {r : Checked} (allowed : CheckedAs answer before after r) where
  pub check_told_lem : r ≡ check_told answer
  check_told_lem = checked_told r ∙ ap (λ report. checked_by report.verdict report) allowed.report

  pub check_over : Over before after answer.written (report_of r).length
  check_over = record { long_is = ap (λ report. report.length) allowed.report; after_is = allowed.buffer }

abbrev pub look_told : Paper.Looked → Looked
look_told answer = looked_by (not (eqb answer.refusal 0)) (look_reported answer)

pub look_told_lem : (answer : Paper.Looked) {r : Looked} → look_report_of r ≡ look_reported answer → r ≡ look_told answer
look_told_lem answer {r} allowed = looked_told r ∙ ap (λ report. looked_by report.refused report) allowed

abbrev pub list_told : Paper.Listed → Listed
list_told answer = listed_by (not (eqb answer.refusal 0)) (list_reported answer)

module _ {answer : Paper.Listed} {indices indices' values values' : List ℕ} {r : Listed} (allowed : ListedAs answer indices indices' values values' r) where
  pub list_told_lem : r ≡ list_told answer
  list_told_lem = listed_told r ∙ ap (λ report. listed_by report.refused report) allowed.report

  many : (f : Cell → ℕ) → (list_report_of r).count ≡ length (map f answer.listed)
  many f = ap (λ report. report.count) allowed.report ∙ sym (length-map answer.listed f)

  pub indices_over : Over indices indices' (map (λ cell. cell.index) answer.listed) (list_report_of r).count
  indices_over = record { long_is = many (λ cell. cell.index); after_is = allowed.indices_run }

  pub values_over : Over values values' (map (λ cell. cell.value) answer.listed) (list_report_of r).count
  values_over = record { long_is = many (λ cell. cell.value); after_is = allowed.values_run }

abbrev pub write_told : Paper.Written → Written
write_told answer = written_by (not (eqb answer.refusal 0)) (write_reported answer)

module _ {answer : Paper.Written} {before after : List ℤ} {r : Written} (allowed : WrittenAs answer before after r) where
  pub write_told_lem : r ≡ write_told answer
  write_told_lem = written_told r ∙ ap (λ report. written_by report.refused report) allowed.report

  pub write_over : Over before after answer.written (write_report_of r).count
  write_over = record { long_is = ap (λ report. report.count) allowed.report; after_is = allowed.run }

-- what the runs of cells say of an index is what the cells say
pub beside_with : (x : ℕ) (cells : List Cell) → beside x (map (λ cell. cell.index) cells) (map (λ cell. cell.value) cells) ≡ value_with (cell_with x cells)
beside_with x [] = refl
beside_with x (cell ∷ cells) = go (eqb cell.index x) (beside_with x cells)
  where
    go : (b : Bool) → beside x (map (λ one. one.index) cells) (map (λ one. one.value) cells) ≡ value_with (cell_with x cells)
        → cond b cell.value (beside x (map (λ one. one.index) cells) (map (λ one. one.value) cells)) ≡ value_with (cond b (some cell) (cell_with x cells))
    go true below = refl
    go false below = below
