-- What a program in C is told: the number that is returned, the report, and what stands in the lent buffer, each from the paper's answer.
-- Assumes nothing.
use Rattle.std.specs.Prelude.{ℕ, ◌≡◌, Bool, cond, List, [], ◌∷◌, ℤ, length, get_or}
use Rattle.paper.specs.Answers.{Verdict, written_over}
use Rattle.paper.specs.Answers as Paper
use Rattle.checker.specs.Reports.{Report, reported, LookReport, look_reported, WriteReport, write_reported}

-- "returning 0 consistent, 1 conflict, 2 refused"
abbrev pub returned : Verdict → ℕ
returned Verdict.consistent = 0
returned Verdict.in_conflict = 1
returned Verdict.refused = 2

-- A lookup is answered for a consistent query, clauses are written for one in conflict.
abbrev pub unless_refused : Bool → Verdict → Verdict
unless_refused refused verdict = cond refused Verdict.refused verdict

-- report[k]
abbrev pub place : (report : List ℕ) (k : ℕ) → ℕ
place report k = get_or report k 0

-- "number, offset, pairs, length"
abbrev pub check_numbers : Report → List ℕ
check_numbers report = report.refusal ∷ report.offset ∷ report.pairs ∷ report.length ∷ []

-- "number, offset, value, 0"
abbrev pub look_numbers : LookReport → List ℕ
look_numbers report = report.refusal ∷ report.offset ∷ report.value ∷ 0 ∷ []

-- "number, offset, and variables, clauses, count"
abbrev pub write_numbers : WriteReport → List ℕ
write_numbers report = report.refusal ∷ report.offset ∷ report.variables ∷ report.clauses ∷ report.count ∷ []

pub record CheckTold (answer : Paper.Checked) (before after : List ℕ) (report : List ℕ) (r : ℕ) : Type 0 where
  pub returns : r ≡ returned answer.verdict
  pub reports : report ≡ check_numbers (reported answer)
  pub buffer : after ≡ written_over before answer.written

pub record LookTold (answer : Paper.Looked) (report : List ℕ) (r : ℕ) : Type 0 where
  pub returns : r ≡ returned (unless_refused (look_reported answer).refused Verdict.consistent)
  pub reports : report ≡ look_numbers (look_reported answer)

pub record WriteTold (answer : Paper.Written) (before after : List ℤ) (report : List ℕ) (r : ℕ) : Type 0 where
  pub returns : r ≡ returned (unless_refused (write_reported answer).refused Verdict.in_conflict)
  pub reports : report ≡ write_numbers (write_reported answer)
  pub buffer : after ≡ written_over before answer.written

-- The contracts of `zunidelo_check`, `zunidelo_lookup` and `zunidelo_clauses`: what they may tell of these bytes, and leave in a buffer that
-- held `before`
abbrev pub CheckTells : (bytes before after report : List ℕ) → (r : ℕ) → Type 0
CheckTells bytes before after report r = CheckTold (Paper.check 32 bytes (length before)) before after report r

abbrev pub LookTells : (bytes : List ℕ) (a x : ℕ) (report : List ℕ) → (r : ℕ) → Type 0
LookTells bytes a x report r = LookTold (Paper.look 32 bytes a x) report r

abbrev pub WriteTells : (bytes : List ℕ) (before after : List ℤ) (report : List ℕ) → (r : ℕ) → Type 0
WriteTells bytes before after report r = WriteTold (Paper.write_clauses 32 bytes (length before)) before after report r
