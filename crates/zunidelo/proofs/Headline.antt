-- What a program in C or Rust may rely on, from the contracts of the exported functions alone: `CheckTells`, `LookTells` and `WriteTells`
-- (specs/Told.antt) are those of `zunidelo_check`, `zunidelo_lookup` and `zunidelo_clauses`. `r` is the number returned; `before` and `after`
-- are the buffer as it was lent and as it is handed back; `place report k` is report[k]. The crate `tie` holds the functions to them.
-- Assumes nothing.
use Prim.Native.Nat.{ℕ, ◌<◌, ◌≤◌, ◌^◌}
use native.Mathlib.Omega.{arith}
use mathlib.Core.Path.{◌≡◌, sym, ap, ◌∙◌, subst}
use mathlib.Core.Logic.{◌⊎◌, ⊎_elim, ⊎_map, ◌↔◌, ◌≢◌}
use mathlib.Core.Bool.{not}
use mathlib.Core.List.{List, [], ◌∷◌, ◌++◌}
use lib.Dec.{eqb}
use lib.IntN.{ℤ}
use lib.ListN.{length, take, drop}
use Rattle.paper.specs.Fields.{array}
use Rattle.paper.specs.Terms.{given, Query}
use Rattle.paper.specs.Interpretations.{Interpretation}
use Rattle.paper.specs.Interpretations as Paper
use Rattle.paper.specs.Load.{Loaded, load}
use Rattle.paper.specs.Fronts.{IsFront}
use Rattle.paper.specs.Answers.{Verdict, check_refused, write_refused, written_over}
use Rattle.meaning.proofs.Built.{AreBytes}
use Rattle.meaning.proofs.Whole.{guess_of, pairs_of}
use Rattle.meaning.proofs.Accepted.{accepted}
use Rattle.meaning.proofs.Called.{look_none}
use Rattle.meaning.proofs.Verdict.{fits_none}
use Rattle.meaning.proofs.Demands as Demands
use Rattle.meaning.proofs.Demands.{Lemma, Clausal}
use Rattle.meaning.proofs.Answered as Answered
use Rattle.meaning.proofs.Grown as Grown
use Rattle.checker.specs.Reports.{reported, look_reported, write_reported}
use Rattle.checker.proofs.Told as Over
use Rattle.checker.proofs.Told.{front, rest}
use Rattle.zunidelo.specs.Told.{place, returned, unless_refused, check_numbers, look_numbers, write_numbers, CheckTells, LookTells, WriteTells}
use Rattle.zunidelo.proofs.Tells.{returned_consistent, returned_conflict, returned_written, check_over, write_over, told_by_room}

-- "two results allowed by it are equal", with their reports and buffers
pub check_told_settled : (bytes before after other_after report other_report : List ℕ) (r other : ℕ) → CheckTells bytes before after report r
    → CheckTells bytes before other_after other_report other → (r ≡ other) × (report ≡ other_report) × (after ≡ other_after)
check_told_settled bytes before after other_after report other_report r other one two =
    (one.returns ∙ sym two.returns, one.reports ∙ sym two.reports, one.buffer ∙ sym two.buffer)

pub look_told_settled : (bytes : List ℕ) (a x : ℕ) (report other_report : List ℕ) (r other : ℕ) → LookTells bytes a x report r
    → LookTells bytes a x other_report other → (r ≡ other) × (report ≡ other_report)
look_told_settled bytes a x report other_report r other one two = (one.returns ∙ sym two.returns, one.reports ∙ sym two.reports)

pub write_told_settled : (bytes : List ℕ) (before after other_after : List ℤ) (report other_report : List ℕ) (r other : ℕ)
    → WriteTells bytes before after report r → WriteTells bytes before other_after other_report other
    → (r ≡ other) × (report ≡ other_report) × (after ≡ other_after)
write_told_settled bytes before after other_after report other_report r other one two =
    (one.returns ∙ sym two.returns, one.reports ∙ sym two.reports, one.buffer ∙ sym two.buffer)

-- Demand 1. Bytes that 01 refuses as a query are refused by each function, by the paper's number and offset, every other number 0.
module _ (bytes : List ℕ) (refusal at : ℕ) (loaded : load 32 bytes ≡ Loaded.refused refusal at) where
  pub check_told_refused : (before after report : List ℕ) (r : ℕ) → CheckTells bytes before after report r
      → (r ≡ 2) × (report ≡ refusal ∷ at ∷ 0 ∷ 0 ∷ [])
  check_told_refused before after report r told =
      let is = (Demands.refused_alike 32 bytes refusal at loaded (length before) 0 0).0 in
      (told.returns ∙ ap (λ answer. returned answer.verdict) is, told.reports ∙ ap (λ answer. check_numbers (reported answer)) is)

  pub look_told_refused : (a x : ℕ) (report : List ℕ) (r : ℕ) → LookTells bytes a x report r → (r ≡ 2) × (report ≡ refusal ∷ at ∷ 0 ∷ 0 ∷ [])
  look_told_refused a x report r told =
      let is = (Demands.refused_alike 32 bytes refusal at loaded 0 a x).1 in
      (told.returns ∙ ap (λ answer. returned (unless_refused (look_reported answer).refused Verdict.consistent)) is ∙ rw (Answered.refused_numbered 32 bytes refusal at loaded), told.reports ∙ ap (λ answer. look_numbers (look_reported answer)) is)

  pub write_told_refused : (before after : List ℤ) (report : List ℕ) (r : ℕ) → WriteTells bytes before after report r
      → (r ≡ 2) × (report ≡ refusal ∷ at ∷ 0 ∷ 0 ∷ 0 ∷ [])
  write_told_refused before after report r told =
      let is = (Demands.refused_alike 32 bytes refusal at loaded (length before) 0 0).2 in
      (told.returns ∙ ap (λ answer. returned (unless_refused (write_reported answer).refused Verdict.in_conflict)) is ∙ rw (Answered.refused_numbered 32 bytes refusal at loaded), told.reports ∙ ap (λ answer. write_numbers (write_reported answer)) is)

-- A call changes the first elements of the lent buffer, as many as it reports; and none where it returns anything but 1.
pub check_told_rest_stays : (bytes before after report : List ℕ) (r : ℕ) → CheckTells bytes before after report r
    → drop (place report 3) after ≡ drop (place report 3) before
check_told_rest_stays bytes before after report r told = rest (check_over told)

pub check_told_untouched : (bytes before after report : List ℕ) (r : ℕ) → CheckTells bytes before after report r → r ≢ 1 → after ≡ before
check_told_untouched bytes before after report r told other =
    ⊎_elim (λ clash. absurd (other (told.returns ∙ ap returned clash))) (λ nothing. told.buffer ∙ ap (written_over before) nothing)
    (Answered.check_quiet 32 bytes (length before))

pub write_told_rest_stays : (bytes : List ℕ) (before after : List ℤ) (report : List ℕ) (r : ℕ) → WriteTells bytes before after report r
    → drop (place report 4) after ≡ drop (place report 4) before
write_told_rest_stays bytes before after report r told = rest (write_over told)

pub write_told_untouched : (bytes : List ℕ) (before after : List ℤ) (report : List ℕ) (r : ℕ) → WriteTells bytes before after report r → r ≢ 1 → after ≡ before
write_told_untouched bytes before after report r told other =
    ⊎_elim
    (λ written. absurd (other (told.returns ∙ ap (λ (n : ℕ). returned (unless_refused (not (eqb n 0)) Verdict.in_conflict)) written)))
    (λ nothing. told.buffer ∙ ap (written_over before) nothing)
    (Answered.clauses_quiet 32 bytes (length before))

-- All that follows is of an accepted query.
module _ (bytes : List ℕ) (query : Query) (are_bytes : AreBytes bytes) (loaded : load 32 bytes ≡ Loaded.accepted query) where
  -- Answers come. With 343 bytes `zunidelo_check` returns 0 or 1, and report[2] is the paper's pairs.
  pub check_told_answered : (before after report : List ℕ) (r : ℕ) → CheckTells bytes before after report r → 343 ≤ length before
      → ((r ≡ 0) ⊎ (r ≡ 1)) × (place report 2 ≡ pairs_of query)
  check_told_answered before after report r told fits =
      let (verdict, pairs) = Answered.check_answered 32 bytes query are_bytes loaded (length before) fits in
      (⊎_map (λ quiet. told.returns ∙ ap returned quiet) (λ clash. told.returns ∙ ap returned clash) verdict, ap (λ numbers. place numbers 2) told.reports ∙ pairs)

  -- In general: 10 exactly if the lemma, as 343 bytes hold it, is longer than what was lent; else just that answer.
  pub check_told_by_room : (before after report : List ℕ) (r : ℕ) → CheckTells bytes before after report r
      → (large large_after full_report : List ℕ) (full : ℕ) → CheckTells bytes large large_after full_report full → 343 ≤ length large
      → ((length before < place full_report 3) × (r ≡ 2) × (report ≡ 10 ∷ 0 ∷ 0 ∷ 0 ∷ [])) ⊎ ((place full_report 3 ≤ length before) × (r ≡ full) × (report ≡ full_report))
  check_told_by_room before after report r told large large_after full_report full held fits =
      told_by_room (λ answer. returned answer.verdict) (λ answer. check_numbers (reported answer)) _ _ (check_refused 10 0) _ _ _ r full report full_report
      told.returns
      told.reports
      held.returns
      held.reports
      (ap (λ numbers. place numbers 3) held.reports)
      (Answered.check_by_room 32 bytes query are_bytes loaded (length before) (length large) fits)

  -- With 12,625 numbers `zunidelo_clauses` returns 1 for every query in conflict.
  pub write_told_answered : (Paper.Consistent 32 query → ⊥) → (before after : List ℤ) (report : List ℕ) (r : ℕ) → WriteTells bytes before after report r
      → 12625 ≤ length before → r ≡ 1
  write_told_answered unfit before after report r told fits =
      told.returns
      ∙ ap (λ (n : ℕ). returned (unless_refused (not (eqb n 0)) Verdict.in_conflict))
      (Answered.clauses_answered bytes query are_bytes loaded unfit (length before) fits)

  pub write_told_by_room : (before after : List ℤ) (report : List ℕ) (r : ℕ) → WriteTells bytes before after report r
      → (large large_after : List ℤ) (full_report : List ℕ) (full : ℕ) → WriteTells bytes large large_after full_report full → 12625 ≤ length large
      → ((length before < place full_report 4) × (r ≡ 2) × (report ≡ 10 ∷ 0 ∷ 0 ∷ 0 ∷ 0 ∷ []))
      ⊎ ((place full_report 4 ≤ length before) × (r ≡ full) × (report ≡ full_report))
  write_told_by_room before after report r told large large_after full_report full held fits =
      told_by_room (λ answer. returned (unless_refused (write_reported answer).refused Verdict.in_conflict)) (λ answer. write_numbers (write_reported answer)) _ _ (write_refused 10 0) _ _ _ r full report full_report
      told.returns
      told.reports
      held.returns
      held.reports
      (ap (λ numbers. place numbers 4) held.reports)
      (Answered.clauses_by_room bytes query are_bytes loaded (length before) (length large) fits)

  -- Demand 2. 0 is returned exactly if an interpretation exists with all the assigned values and truths.
  pub zero_exactly : (before after report : List ℕ) (r : ℕ) → CheckTells bytes before after report r → (r ≡ 0) ↔ Paper.Consistent 32 query
  zero_exactly before after report r told =
      let (exists, consistent) = Demands.consistent_exactly 32 bytes query are_bytes loaded (length before) in
      ((λ zero. exists (returned_consistent _ (sym told.returns ∙ zero))), (λ fits. told.returns ∙ ap returned (consistent fits)))

  -- Where 1 is returned, what is read off the first report[3] bytes is a lemma that holds in every interpretation and is false under the guess.
  pub one_rules_out : (before after report : List ℕ) (r : ℕ) → CheckTells bytes before after report r → r ≡ 1 → Lemma 32 query (take (place report 3) after)
  one_rules_out before after report r told one =
      subst (Lemma 32 query) (sym (front (check_over told)))
      (Demands.conflict_rules_out 32 bytes query are_bytes loaded (length before) (returned_conflict _ (sym told.returns ∙ one)))

  -- On a consistent query report[2] of `zunidelo_lookup`, over all arrays and indices, is the memories of an interpretation; and 0 is returned.
  pub look_told_interprets : Paper.Consistent 32 query → (reports : (a x : ℕ) → List ℕ) (r : (a x : ℕ) → ℕ)
      → ((a x : ℕ) → a < 2 ^ 64 → x < 2 ^ 64 → LookTells bytes a x (reports a x) (r a x))
      → Interpretation 32 query.terms (guess_of query) (λ a x. place (reports a x) 2)
  look_told_interprets consistent reports r told =
      Answered.lookups_interpret 32 bytes query are_bytes loaded consistent (omega arith) (λ a x. place (reports a x) 2)
      (λ a x a_fits x_fits. ap (λ numbers. place numbers 2) (told a x a_fits x_fits).reports)

  pub look_told_answers : Paper.Consistent 32 query → (a x : ℕ) → a < given array query.terms → x < 2 ^ 32 → (report : List ℕ) (r : ℕ)
      → LookTells bytes a x report r → r ≡ 0
  look_told_answers consistent a x a_in x_in report r told =
      told.returns
      ∙ ap (λ answer. returned (unless_refused (look_reported answer).refused Verdict.consistent))
      (look_none 32 bytes query loaded a x (fits_none (accepted 32 bytes query are_bytes loaded) consistent) a_in x_in)

  -- Demand 3. Where both return 1, what is read off the first report[4] numbers of `zunidelo_clauses` is report[3] clauses, over the variables 1
  -- to report[2], that say exactly what is read off the bytes of `zunidelo_check`.
  pub one_says : (before after report : List ℕ) (r : ℕ) → CheckTells bytes before after report r → r ≡ 1
      → (run_before run_after : List ℤ) (run_report : List ℕ) (run_r : ℕ) → WriteTells bytes run_before run_after run_report run_r → run_r ≡ 1
      → Clausal 32 query (take (place report 3) after) (take (place run_report 4) run_after) (place run_report 2) (place run_report 3)
  one_says before after report r checked one run_before run_after run_report run_r told run_one =
      rw (front (check_over checked), front (write_over told), ap (λ numbers. place numbers 2) told.reports, ap (λ numbers. place numbers 3) told.reports)
      (Demands.clauses_exactly 32 bytes query are_bytes loaded (length before) (returned_conflict _ (sym checked.returns ∙ one)) (length run_before)
      (returned_written _ (sym told.returns ∙ run_one)))

-- 02, E7. An accepted query, and a front of it, cut between two fields: it ends where a field of the whole begins, or at its end. In C that is
-- the same pointer with a lesser length. What is lent for the one may be larger or smaller than what is lent for the other.
module _ (bytes : List ℕ) (query : Query) (are_bytes : AreBytes bytes) (loaded : load 32 bytes ≡ Loaded.accepted query)
    (front : List ℕ) (cut : IsFront 32 front bytes) where
  -- The front is accepted: with 343 bytes its check returns 0 or 1.
  pub front_told_answered : (before after report : List ℕ) (r : ℕ) → CheckTells front before after report r → 343 ≤ length before → (r ≡ 0) ⊎ (r ≡ 1)
  front_told_answered before after report r told fits =
      let (part, is, begins) = Grown.part 32 bytes query are_bytes loaded front cut in
      (check_told_answered front part (Grown.part_bytes 32 bytes query are_bytes loaded front cut) is before after report r told fits).0

  -- Where 1 is returned for the front, it is for the whole; or that call is lent less than 343 bytes, its lemma is longer, and it is refused 10.
  pub one_stays : (before after report : List ℕ) (r : ℕ) → CheckTells front before after report r → r ≡ 1
      → (other other_after other_report : List ℕ) (s : ℕ) → CheckTells bytes other other_after other_report s
      → (s ≡ 1) ⊎ ((length other < 343) × (s ≡ 2) × (other_report ≡ 10 ∷ 0 ∷ 0 ∷ 0 ∷ []))
  one_stays before after report r told one other other_after other_report s other_told =
      ⊎_map (λ stays. other_told.returns ∙ ap returned stays)
      (λ (small, is). (small, other_told.returns ∙ ap (λ answer. returned answer.verdict) is, other_told.reports ∙ ap (λ answer. check_numbers (reported answer)) is))
      (Grown.conflict_or_short 32 bytes query are_bytes loaded front cut (length before) (length other) (returned_conflict _ (sym told.returns ∙ one)))

  -- Where 0 is returned for the whole, it is for the front, and report[2] of `zunidelo_lookup`, asked of the whole, is the memories of an
  -- interpretation of the front's terms too.
  pub zero_fronts : (before after report : List ℕ) (r : ℕ) → CheckTells bytes before after report r → r ≡ 0
      → (other other_after other_report : List ℕ) (s : ℕ) → CheckTells front other other_after other_report s → s ≡ 0
  zero_fronts before after report r told zero other other_after other_report s other_told =
      other_told.returns
      ∙ ap returned
      (Grown.consistent_fronts 32 bytes query are_bytes loaded front cut (length before) (length other) (returned_consistent _ (sym told.returns ∙ zero)))

  pub look_told_interprets_front : Paper.Consistent 32 query → (reports : (a x : ℕ) → List ℕ) (r : (a x : ℕ) → ℕ)
      → ((a x : ℕ) → a < 2 ^ 64 → x < 2 ^ 64 → LookTells bytes a x (reports a x) (r a x)) → (part : Query) → load 32 front ≡ Loaded.accepted part
      → Interpretation 32 part.terms (guess_of part) (λ a x. place (reports a x) 2)
  look_told_interprets_front consistent reports r told part is =
      Grown.memories_fit 32 bytes query are_bytes loaded front cut part is (λ a x. place (reports a x) 2)
      (look_told_interprets bytes query are_bytes loaded consistent reports r told)

  -- Where 1 is returned for the front, what is read off the first report[3] bytes is a lemma that holds in every interpretation of the whole's
  -- terms and is false under the whole's guess.
  pub one_rules_out_whole : (before after report : List ℕ) (r : ℕ) → CheckTells front before after report r → r ≡ 1 → Lemma 32 query (take (place report 3) after)
  one_rules_out_whole before after report r told one =
      subst (Lemma 32 query) (sym (Over.front (check_over told)))
      (Grown.front_rules_out 32 bytes query are_bytes loaded front cut (length before) (returned_conflict _ (sym told.returns ∙ one)))

-- Once 1 is returned, 0 never is with more bytes after it, whatever they are.
pub one_never_mended : (front rest : List ℕ) → AreBytes (front ++ rest) → (before after report : List ℕ) (r : ℕ) → CheckTells front before after report r → r ≡ 1
    → (other other_after other_report : List ℕ) (s : ℕ) → CheckTells (front ++ rest) other other_after other_report s → s ≡ 0 → ⊥
one_never_mended front rest are_bytes before after report r told one other other_after other_report s other_told zero =
    Grown.never_mended 32 front rest are_bytes (length before) (length other) (returned_conflict _ (sym told.returns ∙ one)) (returned_consistent _ (sym other_told.returns ∙ zero))
