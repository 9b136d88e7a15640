-- The answers of the public functions, by number: what each case of an answer is in the paper, and what a call is to answer and leave
-- in its buffer.
-- Assumes nothing.
use Rattle.std.specs.Prelude.{ℕ, ◌≡◌, Bool, true, false, cond, not, List, [], ◌∷◌, map, eqb, ltb, ℤ, length, Result, Ok, Err}
use Rattle.paper.specs.Answers.{Verdict, written_over}
use Rattle.paper.specs.Answers as Paper
use Rattle.paper.specs.declared.Refusal.{Refusal}
use Rattle.paper.specs.Reasons.{number_of}
use Rattle.checker.specs.declared.Verdict as Found
use Rattle.checker.specs.declared.Totals.{Totals}

-- What the calls answer: a refusal, or a verdict; the model's value; how many cells there are; or the totals of the clauses
abbrev pub Checked : Type 0
Checked = Result Found.Verdict Refusal

abbrev pub Looked : Type 0
Looked = Result ℕ Refusal

abbrev pub Listed : Type 0
Listed = Result ℕ Refusal

abbrev pub Written : Type 0
Written = Result Totals Refusal

-- A check's report: the verdict, the refusal with its offset, the pairs, and the length of the lemma
pub record Report : Type 0 where
  pub verdict : Verdict
  pub refusal : ℕ
  pub offset : ℕ
  pub pairs : ℕ
  pub length : ℕ

-- what each case of the answer is
abbrev pub report_of : Checked → Report
report_of (Err refusal) = record { verdict = Verdict.refused; refusal = number_of refusal.reason; offset = refusal.offset; pairs = 0; length = 0 }
report_of (Ok (Found.TheVariants.Consistent pairs)) = record { verdict = Verdict.consistent; refusal = 0; offset = 0; pairs = pairs; length = 0 }
report_of (Ok (Found.TheVariants.Conflict pairs length)) = record { verdict = Verdict.in_conflict; refusal = 0; offset = 0; pairs = pairs; length = length }

-- what the paper's answer reports
abbrev pub reported : Paper.Checked → Report
reported answer =
    record { verdict = answer.verdict; refusal = answer.refusal; offset = answer.offset; pairs = answer.pairs; length = length answer.written }

-- a check's answer and the buffer that it leaves are the paper's
pub record CheckedAs (answer : Paper.Checked) (before after : List ℕ) (r : Checked) : Type 0 where
  pub report : report_of r ≡ reported answer
  pub buffer : after ≡ written_over before answer.written

-- A lookup's report: the refusal with its offset, if there is one, and the value
pub record LookReport : Type 0 where
  pub refused : Bool
  pub refusal : ℕ
  pub offset : ℕ
  pub value : ℕ

abbrev pub look_report_of : Looked → LookReport
look_report_of (Err refusal) = record { refused = true; refusal = number_of refusal.reason; offset = refusal.offset; value = 0 }
look_report_of (Ok value) = record { refused = false; refusal = 0; offset = 0; value = value }

abbrev pub look_reported : Paper.Looked → LookReport
look_reported answer = record { refused = not (eqb answer.refusal 0); refusal = answer.refusal; offset = answer.offset; value = answer.value }

-- A listing's report: the refusal with its offset, if there is one, and how many cells there are
pub record ListReport : Type 0 where
  pub refused : Bool
  pub refusal : ℕ
  pub offset : ℕ
  pub count : ℕ

abbrev pub list_report_of : Listed → ListReport
list_report_of (Err refusal) = record { refused = true; refusal = number_of refusal.reason; offset = refusal.offset; count = 0 }
list_report_of (Ok count) = record { refused = false; refusal = 0; offset = 0; count = count }

abbrev pub list_reported : Paper.Listed → ListReport
list_reported answer = record { refused = not (eqb answer.refusal 0); refusal = answer.refusal; offset = answer.offset; count = length answer.listed }

-- two runs have room for as many cells as the shorter one
abbrev pub room_of : (indices values : List ℕ) → ℕ
room_of indices values = cond (ltb (length indices) (length values)) (length indices) (length values)

-- a listing's answer and the two runs that it leaves, of indices and of values, are the paper's
pub record ListedAs (answer : Paper.Listed) (indices indices' values values' : List ℕ) (r : Listed) : Type 0 where
  pub report : list_report_of r ≡ list_reported answer
  pub indices_run : indices' ≡ written_over indices (map (λ cell. cell.index) answer.listed)
  pub values_run : values' ≡ written_over values (map (λ cell. cell.value) answer.listed)

-- what two runs say of an index: the number beside it, and 0 where it does not stand there
abbrev pub beside : (x : ℕ) (indices values : List ℕ) → ℕ
beside x [] values = 0
beside x (index ∷ indices) [] = 0
beside x (index ∷ indices) (value ∷ values) = cond (eqb index x) value (beside x indices values)

-- The clause writer's report: the refusal with its offset, if there is one, and the totals
pub record WriteReport : Type 0 where
  pub refused : Bool
  pub refusal : ℕ
  pub offset : ℕ
  pub variables : ℕ
  pub clauses : ℕ
  pub count : ℕ

abbrev pub write_report_of : Written → WriteReport
write_report_of (Err refusal) = record { refused = true; refusal = number_of refusal.reason; offset = refusal.offset; variables = 0; clauses = 0; count = 0 }
write_report_of (Ok totals) = record { refused = false; refusal = 0; offset = 0; variables = totals.variables; clauses = totals.clauses; count = totals.count }

abbrev pub write_reported : Paper.Written → WriteReport
write_reported answer =
    record {
      refused = not (eqb answer.refusal 0);
      refusal = answer.refusal;
      offset = answer.offset;
      variables = answer.variables;
      clauses = answer.clauses;
      count = length answer.written;
    }

-- the clause writer's answer and the run that it leaves are the paper's
pub record WrittenAs (answer : Paper.Written) (before after : List ℤ) (r : Written) : Type 0 where
  pub report : write_report_of r ≡ write_reported answer
  pub run : after ≡ written_over before answer.written

-- The contracts of `check`, `lookup`, `cells` and `clauses`: what they may answer of these bytes, and leave in a buffer that held `before`
abbrev pub CheckAllows : (bytes before after : List ℕ) → Checked → Type 0
CheckAllows bytes before after r = CheckedAs (Paper.check 32 bytes (length before)) before after r

abbrev pub LookAllows : (bytes : List ℕ) (a x : ℕ) → Looked → Type 0
LookAllows bytes a x r = look_report_of r ≡ look_reported (Paper.look 32 bytes a x)

abbrev pub ListAllows : (bytes : List ℕ) (a : ℕ) (indices indices' values values' : List ℕ) → Listed → Type 0
ListAllows bytes a indices indices' values values' r = ListedAs (Paper.list 32 bytes a (room_of indices values)) indices indices' values values' r

abbrev pub WriteAllows : (bytes : List ℕ) (before after : List ℤ) → Written → Type 0
WriteAllows bytes before after r = WrittenAs (Paper.write_clauses 32 bytes (length before)) before after r
