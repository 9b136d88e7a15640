-- The headline theorems, of the functions' own answers: what a result and its buffer promise wherever the contract allows them, and that it
-- allows only one. `CheckAllows`, `LookAllows`, `ListAllows` and `WriteAllows` (specs/Reports.antt) are the contracts of `check`, `lookup`, `cells`
-- and `clauses`; `before` and `after`, and `indices'` after `indices`, are the buffer as it was lent and as it is handed back. The crate `tie` holds the functions to them by machine.
-- Assumes nothing.
use Prim.Native.Nat.{ℕ, ◌<◌, ◌≤◌, ◌^◌}
use native.Mathlib.Omega.{arith}
use mathlib.Core.Path.{◌≡◌, sym, ap, ap₂, ◌∙◌, subst}
use mathlib.Core.Logic.{◌⊎◌, inl, inr, ⊎_map, ◌↔◌}
use mathlib.Core.Bool.{Bool, not}
use mathlib.Core.List.{List, ◌++◌, map}
use mathlib.Core.Option.{some}
use lib.Dec.{eqb}
use lib.IntN.{ℤ}
use lib.ListN.{length, take, drop}
use Rattle.paper.specs.Fields.{array}
use Rattle.paper.specs.Lists.{◌∈◌}
use Rattle.paper.specs.Terms.{Term, given, Query, Assignment}
use Rattle.paper.specs.Interpretations.{Memories, Interpretation}
use Rattle.paper.specs.Interpretations as Paper
use Rattle.paper.specs.Load.{Loaded, load}
use Rattle.paper.specs.Cells.{Cell, cells}
use Rattle.paper.specs.Reading.{read_run}
use Rattle.paper.specs.Fronts.{IsFront}
use Rattle.paper.specs.Answers.{Verdict, check, look, list_loaded, list, write_clauses}
use Rattle.meaning.proofs.Built.{AreBytes}
use Rattle.meaning.proofs.Whole.{guess_of, pairs_of}
use Rattle.meaning.proofs.Accepted.{accepted}
use Rattle.meaning.proofs.Called.{look_none}
use Rattle.meaning.proofs.Cells.{model_with}
use Rattle.meaning.proofs.Verdict.{fits_none}
use Rattle.meaning.proofs.Demands as Demands
use Rattle.meaning.proofs.Demands.{Lemma, Settable, RespectsFixed, Clausal}
use Rattle.meaning.proofs.AsBits as AsBits
use Rattle.meaning.proofs.AsBits.{BitsOf}
use Rattle.meaning.proofs.Answered as Answered
use Rattle.meaning.proofs.Refusals.{refusals}
use Rattle.meaning.proofs.Fixed.{whole_lemma}
use Rattle.meaning.proofs.Before as Before
use Rattle.meaning.proofs.Before.{check_with, write_with}
use Rattle.meaning.proofs.Grown as Grown
use Rattle.checker.specs.declared.Totals.{Totals}
use Rattle.std.specs.Prelude.{Ok, Err}
use Rattle.paper.specs.declared.Refusal.{Refusal}
use Rattle.paper.specs.declared.Reason.TheVariants.{NoRoom, NoCell, OtherVerdict}
use Rattle.paper.specs.Reasons.{number_of, reason_of}
use Rattle.checker.specs.declared.Verdict.TheVariants.{Consistent, Conflict}
use Rattle.checker.specs.Reports.{Checked, Looked, Listed, Written, report_of, reported, look_report_of, write_report_of, write_reported, CheckedAs, CheckAllows, LookAllows, ListAllows, WrittenAs, WriteAllows}
use Rattle.checker.specs.Reports.{list_report_of, room_of, beside}
use Rattle.checker.proofs.Looks.{room_both}
use Rattle.checker.proofs.Told as Told
use Rattle.checker.proofs.Told.{checked_by, check_told, check_told_lem, look_told, look_told_lem, list_told, list_told_lem, indices_over, values_over, beside_with, numbered, written_by, write_told, write_told_lem, front, rest, check_over, write_over}

-- "two results allowed by it are equal", with their buffers
pub check_settled : (bytes before after other_after : List ℕ) (r other : Checked) → CheckAllows bytes before after r → CheckAllows bytes before other_after other
    → (r ≡ other) × (after ≡ other_after)
check_settled bytes before after other_after r other one two = (check_told_lem one ∙ sym (check_told_lem two), one.buffer ∙ sym two.buffer)

pub lookup_settled : (bytes : List ℕ) (a x : ℕ) (r other : Looked) → LookAllows bytes a x r → LookAllows bytes a x other → r ≡ other
lookup_settled bytes a x r other one two = look_told_lem (look 32 bytes a x) one ∙ sym (look_told_lem (look 32 bytes a x) two)

pub cells_settled : (bytes : List ℕ) (a : ℕ) (indices indices' other_indices values values' other_values : List ℕ) (r other : Listed) → ListAllows bytes a indices indices' values values' r
    → ListAllows bytes a indices other_indices values other_values other → (r ≡ other) × (indices' ≡ other_indices) × (values' ≡ other_values)
cells_settled bytes a indices indices' other_indices values values' other_values r other one two =
    (list_told_lem one ∙ sym (list_told_lem two), one.indices_run ∙ sym two.indices_run, one.values_run ∙ sym two.values_run)

pub clauses_settled : (bytes : List ℕ) (before after other_after : List ℤ) (r other : Written) → WriteAllows bytes before after r
    → WriteAllows bytes before other_after other → (r ≡ other) × (after ≡ other_after)
clauses_settled bytes before after other_after r other one two = (write_told_lem one ∙ sym (write_told_lem two), one.run ∙ sym two.run)

-- Demand 1. Bytes that 01 refuses as a query are refused by each call, by the paper's number, which is that of a reason, and by its offset.
module _ (bytes : List ℕ) (refusal at : ℕ) (loaded : load 32 bytes ≡ Loaded.refused refusal at) where
  pub reason_numbered : number_of (reason_of refusal) ≡ refusal
  reason_numbered = go (refusals 32 bytes refusal at loaded)
    where
      go : ((refusal ≡ 1) × (at ≡ 0) × (4096 < length bytes)) ⊎ (((2 ≤ refusal) × (refusal ≤ 9)) × (at < length bytes) × (length bytes ≤ 4096)) → number_of (reason_of refusal) ≡ refusal
      go (inl (one, place, long)) = numbered refusal (omega (arith, one)) (omega (arith, one))
      go (inr (among, inside, short)) = numbered refusal (omega (arith, among.0)) (omega (arith, among.1))

  pub check_refused_lem : (before after : List ℕ) (r : Checked) → CheckAllows bytes before after r → r ≡ Err (record { reason = reason_of refusal; offset = at })
  check_refused_lem before after r allowed = check_told_lem allowed ∙ ap check_told (Demands.refused_alike 32 bytes refusal at loaded (length before) 0 0).0

  pub lookup_refused : (a x : ℕ) (r : Looked) → LookAllows bytes a x r → r ≡ Err (record { reason = reason_of refusal; offset = at })
  lookup_refused a x r allowed =
      look_told_lem (look 32 bytes a x) allowed ∙ ap look_told (Demands.refused_alike 32 bytes refusal at loaded 0 a x).1 ∙ rw (Answered.refused_numbered 32 bytes refusal at loaded)

  pub cells_refused : (a : ℕ) (indices indices' values values' : List ℕ) (r : Listed) → ListAllows bytes a indices indices' values values' r
      → r ≡ Err (record { reason = reason_of refusal; offset = at })
  unfolding list
  cells_refused a indices indices' values values' r allowed =
      list_told_lem allowed ∙ ap (λ (one : Loaded). list_told (list_loaded a (room_of indices values) one)) loaded ∙ rw (Answered.refused_numbered 32 bytes refusal at loaded)

  pub clauses_refused : (before after : List ℤ) (r : Written) → WriteAllows bytes before after r → r ≡ Err (record { reason = reason_of refusal; offset = at })
  clauses_refused before after r allowed =
      write_told_lem allowed ∙ ap write_told (Demands.refused_alike 32 bytes refusal at loaded (length before) 0 0).2 ∙ rw (Answered.refused_numbered 32 bytes refusal at loaded)

-- A call changes the first bytes of the buffer, or numbers of the run, as many as it reports: a refused call and a consistent check none.
pub check_rest_stays : (bytes before after : List ℕ) (r : Checked) → CheckAllows bytes before after r
    → drop (report_of r).length after ≡ drop (report_of r).length before
check_rest_stays bytes before after r allowed = rest (check_over allowed)

pub check_refused_untouched : (bytes before after : List ℕ) (refusal : Refusal) → CheckAllows bytes before after (Err refusal) → after ≡ before
check_refused_untouched bytes before after refusal allowed = check_rest_stays bytes before after (Err refusal) allowed

pub consistent_untouched : (bytes before after : List ℕ) (pairs : ℕ) → CheckAllows bytes before after (Ok (Consistent pairs)) → after ≡ before
consistent_untouched bytes before after pairs allowed = check_rest_stays bytes before after (Ok (Consistent pairs)) allowed

pub cells_rest_stay : (bytes : List ℕ) (a : ℕ) (indices indices' values values' : List ℕ) (r : Listed) → ListAllows bytes a indices indices' values values' r
    → (drop (list_report_of r).count indices' ≡ drop (list_report_of r).count indices) × (drop (list_report_of r).count values' ≡ drop (list_report_of r).count values)
cells_rest_stay bytes a indices indices' values values' r allowed = (rest (indices_over allowed), rest (values_over allowed))

pub cells_refused_untouched : (bytes : List ℕ) (a : ℕ) (indices indices' values values' : List ℕ) (refusal : Refusal) → ListAllows bytes a indices indices' values values' (Err refusal)
    → (indices' ≡ indices) × (values' ≡ values)
cells_refused_untouched bytes a indices indices' values values' refusal allowed = cells_rest_stay bytes a indices indices' values values' (Err refusal) allowed

pub clauses_rest_stay : (bytes : List ℕ) (before after : List ℤ) (r : Written) → WriteAllows bytes before after r
    → drop (write_report_of r).count after ≡ drop (write_report_of r).count before
clauses_rest_stay bytes before after r allowed = rest (write_over allowed)

pub clauses_refused_untouched : (bytes : List ℕ) (before after : List ℤ) (refusal : Refusal) → WriteAllows bytes before after (Err refusal) → after ≡ before
clauses_refused_untouched bytes before after refusal allowed = clauses_rest_stay bytes before after (Err refusal) allowed

-- All that follows is of an accepted query.
module _ (bytes : List ℕ) (query : Query) (are_bytes : AreBytes bytes) (loaded : load 32 bytes ≡ Loaded.accepted query) where
  -- Answers come. With 343 bytes every accepted query is answered, consistent or in conflict, and the pairs reported are the paper's.
  pub check_answered : (before after : List ℕ) (r : Checked) → CheckAllows bytes before after r → 343 ≤ length before
      → (r ≡ Ok (Consistent (pairs_of query))) ⊎ ((long : ℕ) × (r ≡ Ok (Conflict (pairs_of query) long)))
  check_answered before after r allowed fits =
      let answer = check 32 bytes (length before) in
      let (verdict, pairs) = Answered.check_answered 32 bytes query are_bytes loaded (length before) fits in
      ⊎_map
      (λ quiet. check_told_lem allowed ∙ ap (λ one. checked_by one (reported answer)) quiet ∙ ap (λ (many : ℕ). checked_by Verdict.consistent (record { verdict = Verdict.consistent; refusal = 0; offset = 0; pairs = many; length = 0 })) pairs)
      (λ clash. (length answer.written, check_told_lem allowed ∙ ap (λ one. checked_by one (reported answer)) clash ∙ ap (λ (many : ℕ). checked_by Verdict.in_conflict (record { verdict = Verdict.in_conflict; refusal = 0; offset = 0; pairs = many; length = length answer.written })) pairs))
      verdict

  -- In general: 10 exactly if the answer, as 343 bytes hold it, is longer than what was lent; else just that answer.
  pub check_by_room : (before after : List ℕ) (r : Checked) → CheckAllows bytes before after r
      → (large large_after : List ℕ) (full : Checked) → CheckAllows bytes large large_after full → 343 ≤ length large
      → ((length before < (report_of full).length) × (r ≡ Err (record { reason = NoRoom; offset = 0 }))) ⊎ (((report_of full).length ≤ length before) × (r ≡ full))
  check_by_room before after r allowed large large_after full held fits =
      let long = ap (λ report. report.length) held.report in
      ⊎_map (λ (longer, is). (rw long longer, check_told_lem allowed ∙ ap check_told is))
      (λ (short, is). (rw long short, check_told_lem allowed ∙ ap check_told is ∙ sym (check_told_lem held)))
      (Answered.check_by_room 32 bytes query are_bytes loaded (length before) (length large) fits)

  -- With 12,625 numbers the clauses of every query in conflict are written; of a consistent one they are refused by 12.
  pub clauses_answered : (Paper.Consistent 32 query → ⊥) → (before after : List ℤ) (r : Written) → WriteAllows bytes before after r → 12625 ≤ length before
      → (totals : Totals) × (r ≡ Ok totals)
  clauses_answered unfit before after r allowed fits =
      (_, write_told_lem allowed ∙ ap (λ (n : ℕ). written_by (not (eqb n 0)) (write_reported (write_clauses 32 bytes (length before)))) (Answered.clauses_answered bytes query are_bytes loaded unfit (length before) fits))

  pub clauses_consistent : Paper.Consistent 32 query → (before after : List ℤ) (r : Written) → WriteAllows bytes before after r
      → r ≡ Err (record { reason = OtherVerdict; offset = 0 })
  clauses_consistent consistent before after r allowed =
      write_told_lem allowed ∙ ap write_told (Answered.clauses_fit 32 bytes query are_bytes loaded consistent (length before))

  -- In general: 10 exactly if the clauses, as 12,625 numbers hold them, are longer than what was lent; else just those.
  pub clauses_by_room : (before after : List ℤ) (r : Written) → WriteAllows bytes before after r
      → (large large_after : List ℤ) (full : Written) → WriteAllows bytes large large_after full → 12625 ≤ length large
      → ((length before < (write_report_of full).count) × (r ≡ Err (record { reason = NoRoom; offset = 0 })))
      ⊎ (((write_report_of full).count ≤ length before) × (r ≡ full))
  clauses_by_room before after r allowed large large_after full held fits =
      let long = ap (λ report. report.count) held.report in
      ⊎_map (λ (longer, is). (rw long longer, write_told_lem allowed ∙ ap write_told is))
      (λ (short, is). (rw long short, write_told_lem allowed ∙ ap write_told is ∙ sym (write_told_lem held)))
      (Answered.clauses_by_room bytes query are_bytes loaded (length before) (length large) fits)

  -- Demand 2. `check` answers "consistent" exactly if an interpretation exists with all the assigned values and truths.
  pub check_consistent_exactly : (before after : List ℕ) (r : Checked) → CheckAllows bytes before after r
      → ((pairs : ℕ) × (r ≡ Ok (Consistent pairs))) ↔ Paper.Consistent 32 query
  check_consistent_exactly before after r allowed =
      let (exists, consistent) = Demands.consistent_exactly 32 bytes query are_bytes loaded (length before) in
      let verdict = ap (λ report. report.verdict) allowed.report in (
        (λ (pairs, is). exists (sym verdict ∙ ap (λ one. (report_of one).verdict) is)),
        (λ fits. (_, check_told_lem allowed ∙ ap (λ one. checked_by one (reported (check 32 bytes (length before)))) (consistent fits))),
      )

  -- In a conflict, what is read off the bytes that `check` wrote is a lemma that holds in every interpretation of the terms and is false under
  -- the guess.
  pub check_conflict_rules_out : (before after : List ℕ) (pairs long : ℕ) → CheckAllows bytes before after (Ok (Conflict pairs long))
      → Lemma 32 query (take long after)
  check_conflict_rules_out before after pairs long allowed =
      subst (Lemma 32 query) (sym (front (check_over allowed)))
      (Demands.conflict_rules_out 32 bytes query are_bytes loaded (length before) (sym (ap (λ report. report.verdict) allowed.report)))

  -- On a consistent query, what `lookup` answers over all arrays and indices is the memories of an interpretation.
  pub lookup_interprets : Paper.Consistent 32 query → (answers : (a x : ℕ) → Looked)
      → ((a x : ℕ) → a < 2 ^ 64 → x < 2 ^ 64 → LookAllows bytes a x (answers a x))
      → Interpretation 32 query.terms (guess_of query) (λ a x. (look_report_of (answers a x)).value)
  lookup_interprets consistent answers allowed =
      Answered.lookups_interpret 32 bytes query are_bytes loaded consistent (omega arith) (λ a x. (look_report_of (answers a x)).value)
      (λ a x a_fits x_fits. ap (λ report. report.value) (allowed a x a_fits x_fits))

  -- Each of them is a value: within the arrays and the indices nothing is refused. Outside it is 11, and on a query in conflict 12.
  pub lookup_answers : Paper.Consistent 32 query → (a x : ℕ) → a < given array query.terms → x < 2 ^ 32 → (r : Looked) → LookAllows bytes a x r
      → (value : ℕ) × (r ≡ Ok value)
  lookup_answers consistent a x a_in x_in r allowed =
      (_, look_told_lem (look 32 bytes a x) allowed ∙ ap look_told (look_none 32 bytes query loaded a x (fits_none (accepted 32 bytes query are_bytes loaded) consistent) a_in x_in))

  pub lookup_nowhere : Paper.Consistent 32 query → (a x : ℕ) → (given array query.terms ≤ a) ⊎ (2 ^ 32 ≤ x) → (r : Looked) → LookAllows bytes a x r
      → r ≡ Err (record { reason = NoCell; offset = 0 })
  lookup_nowhere consistent a x outside r allowed =
      look_told_lem (look 32 bytes a x) allowed ∙ ap look_told (Answered.look_nowhere 32 bytes query are_bytes loaded consistent a x outside)

  pub lookup_in_conflict : (Paper.Consistent 32 query → ⊥) → (a x : ℕ) (r : Looked) → LookAllows bytes a x r
      → r ≡ Err (record { reason = OtherVerdict; offset = 0 })
  lookup_in_conflict unfit a x r allowed = look_told_lem (look 32 bytes a x) allowed ∙ ap look_told (Answered.look_unfit 32 bytes query are_bytes loaded unfit a x)

  -- `cells` lists what `lookup` answers: at every index of an array the number beside it, and 0 where it is not listed.
  pub cells_look : Paper.Consistent 32 query → (a : ℕ) → a < given array query.terms → (indices indices' values values' : List ℕ) (count : ℕ)
      → ListAllows bytes a indices indices' values values' (Ok count) → (x : ℕ) → x < 2 ^ 32 → (r : Looked) → LookAllows bytes a x r
      → r ≡ Ok (beside x (take count indices') (take count values'))
  cells_look consistent a a_in indices indices' values values' count listed x x_in r looked =
      look_told_lem (look 32 bytes a x) looked
      ∙ ap look_told (look_none 32 bytes query loaded a x (fits_none (accepted 32 bytes query are_bytes loaded) consistent) a_in x_in)
      ∙ ap Ok
      (model_with query.terms (guess_of query) a x
      ∙ sym (beside_with x (cells query.terms (guess_of query) a))
      ∙ ap₂ (beside x) (sym (front (indices_over listed) ∙ ap (map (λ (cell : Cell). cell.index)) all)) (sym (front (values_over listed) ∙ ap (map (λ (cell : Cell). cell.value)) all)))
    where
      all : (list 32 bytes a (room_of indices values)).listed ≡ cells query.terms (guess_of query) a
      all = Answered.list_all 32 bytes query are_bytes loaded a (room_of indices values) (sym (ap (λ report. report.refusal) listed.report))

  -- With 302 places in either run every array of a consistent query is listed; of no array it is 11, and on a query in conflict 12.
  pub cells_answered : Paper.Consistent 32 query → (a : ℕ) → a < given array query.terms → (indices indices' values values' : List ℕ) (r : Listed)
      → ListAllows bytes a indices indices' values values' r → 302 ≤ length indices → 302 ≤ length values → (count : ℕ) × (r ≡ Ok count)
  cells_answered consistent a a_in indices indices' values values' r allowed first second =
      (_, list_told_lem allowed ∙ ap list_told (Answered.list_answered 32 bytes query are_bytes loaded consistent a (room_of indices values) a_in (room_both indices values 302 first second)))

  pub cells_nowhere : Paper.Consistent 32 query → (a : ℕ) → given array query.terms ≤ a → (indices indices' values values' : List ℕ) (r : Listed)
      → ListAllows bytes a indices indices' values values' r → r ≡ Err (record { reason = NoCell; offset = 0 })
  cells_nowhere consistent a outside indices indices' values values' r allowed =
      list_told_lem allowed ∙ ap list_told (Answered.list_nowhere 32 bytes query are_bytes loaded consistent a (room_of indices values) outside)

  pub cells_in_conflict : (Paper.Consistent 32 query → ⊥) → (a : ℕ) (indices indices' values values' : List ℕ) (r : Listed)
      → ListAllows bytes a indices indices' values values' r → r ≡ Err (record { reason = OtherVerdict; offset = 0 })
  cells_in_conflict unfit a indices indices' values values' r allowed =
      list_told_lem allowed ∙ ap list_told (Answered.list_unfit 32 bytes query are_bytes loaded unfit a (room_of indices values))

  -- Demand 3. What is read off the numbers that `clauses` wrote says exactly what is read off the bytes that `check` wrote.
  pub clauses_say : (before after : List ℕ) (pairs long : ℕ) → CheckAllows bytes before after (Ok (Conflict pairs long))
      → (run_before run_after : List ℤ) (totals : Totals) → WriteAllows bytes run_before run_after (Ok totals)
      → Clausal 32 query (take long after) (take totals.count run_after) totals.variables totals.clauses
  clauses_say before after pairs long checked run_before run_after totals allowed =
      rw (front (check_over checked), front (write_over allowed), ap (λ report. report.variables) allowed.report, ap (λ report. report.clauses) allowed.report)
      (Demands.clauses_exactly 32 bytes query are_bytes loaded (length before) (sym (ap (λ report. report.verdict) checked.report)) (length run_before)
      (sym (ap (λ report. report.refusal) allowed.report)))

  -- So they rule out the guess and no interpretation: there are bits that are the guess's, at which the fresh variables can't be set so that all
  -- clauses hold, and bits that are an interpretation's, at which they can; both give each fixed number its value.
  module _ (before after : List ℕ) (pairs long : ℕ) (checked : CheckAllows bytes before after (Ok (Conflict pairs long)))
      (run_before run_after : List ℤ) (totals : Totals) (allowed : WriteAllows bytes run_before run_after (Ok totals))
      (clauses : List (List ℤ)) (read : read_run (take totals.count run_after) ≡ some clauses) where
    pub clauses_exclude_guess : (bits : ℕ → Bool) × BitsOf 32 query (guess_of query) bits × RespectsFixed 32 query bits × (Settable 32 query bits clauses → ⊥)
    clauses_exclude_guess =
        AsBits.guess_excluded 32 bytes query are_bytes loaded (length before) (sym (ap (λ report. report.verdict) checked.report)) (length run_before)
        (sym (ap (λ report. report.refusal) allowed.report)) clauses (ap read_run (sym (front (write_over allowed))) ∙ read)

    pub clauses_admit : (g : Assignment) (memory : Memories) → Interpretation 32 query.terms g memory
        → (bits : ℕ → Bool) × BitsOf 32 query g bits × RespectsFixed 32 query bits × Settable 32 query bits clauses
    clauses_admit =
        AsBits.interpretation_admitted 32 bytes query are_bytes loaded (length before) (sym (ap (λ report. report.verdict) checked.report)) (length run_before)
        (sym (ap (λ report. report.refusal) allowed.report)) clauses (ap read_run (sym (front (write_over allowed))) ∙ read)

  -- 02, E1. A query without fixed numbers is answered as before: what `check` and `clauses` answer and write is by the lemma with nothing left out.
  module _ (none_fixed : (own value : ℕ) → Term.fixed own value ∈ query.terms → ⊥) where
    pub check_as_before : (before after : List ℕ) (r : Checked) → CheckAllows bytes before after r → CheckedAs (check_with whole_lemma 32 bytes (length before)) before after r
    check_as_before before after r allowed = subst (λ answer. CheckedAs answer before after r) (Before.answered_before 32 bytes query loaded none_fixed (length before)).0 allowed

    pub clauses_as_before : (before after : List ℤ) (r : Written) → WriteAllows bytes before after r → WrittenAs (write_with whole_lemma 32 bytes (length before)) before after r
    clauses_as_before before after r allowed = subst (λ answer. WrittenAs answer before after r) (Before.answered_before 32 bytes query loaded none_fixed (length before)).1 allowed

-- 02, E7. An accepted query, and a front of it, cut between two fields: it ends where a field of the whole begins, or at its end. What is lent
-- for the one may be larger or smaller than what is lent for the other.
module _ (bytes : List ℕ) (query : Query) (are_bytes : AreBytes bytes) (loaded : load 32 bytes ≡ Loaded.accepted query)
    (front : List ℕ) (cut : IsFront 32 front bytes) where
  -- The front is accepted: with 343 bytes its check is answered.
  pub front_answered : (before after : List ℕ) (r : Checked) → CheckAllows front before after r → 343 ≤ length before
      → ((pairs : ℕ) × (r ≡ Ok (Consistent pairs))) ⊎ ((pairs long : ℕ) × (r ≡ Ok (Conflict pairs long)))
  front_answered before after r allowed fits =
      let (part, is, begins) = Grown.part 32 bytes query are_bytes loaded front cut in
      ⊎_map (λ quiet. (pairs_of part, quiet)) (λ (long, clash). (pairs_of part, long, clash))
      (check_answered front part (Grown.part_bytes 32 bytes query are_bytes loaded front cut) is before after r allowed fits)

  -- If `check` answers "conflict" for the front, it does for the whole; or it is lent less than 343 bytes there, and its lemma is longer.
  pub conflict_stays : (before after : List ℕ) (pairs long : ℕ) → CheckAllows front before after (Ok (Conflict pairs long))
      → (other other_after : List ℕ) (r : Checked) → CheckAllows bytes other other_after r
      → ((pairs long : ℕ) × (r ≡ Ok (Conflict pairs long))) ⊎ ((length other < 343) × (r ≡ Err (record { reason = NoRoom; offset = 0 })))
  conflict_stays before after pairs long clash other other_after r allowed =
      let answer = check 32 bytes (length other) in
      ⊎_map (λ stays. (answer.pairs, length answer.written, check_told_lem allowed ∙ ap (λ one. checked_by one (reported answer)) stays))
      (λ (small, is). (small, check_told_lem allowed ∙ ap check_told is))
      (Grown.conflict_or_short 32 bytes query are_bytes loaded front cut (length before) (length other) (sym (ap (λ report. report.verdict) clash.report)))

  -- If it answers "consistent" for the whole, it does for the front, and what `lookup` answers for the whole is the memories of an
  -- interpretation of the front's terms too.
  pub consistent_fronts : (before after : List ℕ) (pairs : ℕ) → CheckAllows bytes before after (Ok (Consistent pairs))
      → (other other_after : List ℕ) (r : Checked) → CheckAllows front other other_after r → (fewer : ℕ) × (r ≡ Ok (Consistent fewer))
  consistent_fronts before after pairs quiet other other_after r allowed =
      let answer = check 32 front (length other) in
      let calm = Grown.consistent_fronts 32 bytes query are_bytes loaded front cut (length before) (length other) (sym (ap (λ report. report.verdict) quiet.report)) in
      (answer.pairs, check_told_lem allowed ∙ ap (λ one. checked_by one (reported answer)) calm)

  pub lookup_interprets_front : Paper.Consistent 32 query → (answers : (a x : ℕ) → Looked)
      → ((a x : ℕ) → a < 2 ^ 64 → x < 2 ^ 64 → LookAllows bytes a x (answers a x)) → (part : Query) → load 32 front ≡ Loaded.accepted part
      → Interpretation 32 part.terms (guess_of part) (λ a x. (look_report_of (answers a x)).value)
  lookup_interprets_front consistent answers allowed part is =
      Grown.memories_fit 32 bytes query are_bytes loaded front cut part is (λ a x. (look_report_of (answers a x)).value)
      (lookup_interprets bytes query are_bytes loaded consistent answers allowed)

  -- What is read off the bytes that `check` wrote for the front is a lemma that holds in every interpretation of the whole's terms and is
  -- false under the whole's guess.
  pub front_rules_out : (before after : List ℕ) (pairs long : ℕ) → CheckAllows front before after (Ok (Conflict pairs long)) → Lemma 32 query (take long after)
  front_rules_out before after pairs long clash =
      subst (Lemma 32 query) (sym (Told.front (check_over clash)))
      (Grown.front_rules_out 32 bytes query are_bytes loaded front cut (length before) (sym (ap (λ report. report.verdict) clash.report)))

-- "Growing a query can't mend it": once `check` answers "conflict", it never answers "consistent" with more bytes after it, whatever they are.
pub never_mended : (front rest : List ℕ) → AreBytes (front ++ rest) → (before after : List ℕ) (pairs long : ℕ) → CheckAllows front before after (Ok (Conflict pairs long))
    → (other other_after : List ℕ) (more : ℕ) → CheckAllows (front ++ rest) other other_after (Ok (Consistent more)) → ⊥
never_mended front rest are_bytes before after pairs long clash other other_after more quiet =
    Grown.never_mended 32 front rest are_bytes (length before) (length other) (sym (ap (λ report. report.verdict) clash.report)) (sym (ap (λ report. report.verdict) quiet.report))
