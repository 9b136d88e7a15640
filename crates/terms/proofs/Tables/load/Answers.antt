-- `Tables::load` meets its contract: what is known at the head of its loop is enough at each of its ends, and holds again after a turn.
-- Assumes nothing.
use Rattle.std.proofs.Common.{ℕ, ◌≡◌, ◌<◌, ◌≤◌, Ok, rules, arith, length, sym, ◌∙◌, ap, subst}
use Rattle.std.proofs.lemmas.Result.{err_from_is_err_and}
use Rattle.query.specs.Standing.{standing_of}
use Rattle.faults.specs.Faults.{fault_number, fault_by}
use Rattle.terms.specs.declared.Tables.{Tables}
use Rattle.terms.specs.Tables.{put_in}
use Rattle.terms.proofs.Turn.{Head, Sized, none_counted, none_held, starts, long_refused, at_end, at_broken, at_fault, at_room, at_next}
use Rattle.terms.proofs.Tables.load.Goals.{After-put}
use Rattle.terms.proofs.Tables.load.Goals as goal

pub returns-then-query-gt-MAX_BYTES : goal.returns-then-query-gt-MAX_BYTES
returns-then-query-gt-MAX_BYTES c =
    let sized : Sized c.args.self.now = record { values_long = search rules; truths_long = search rules; reads_long = search rules; sources_long = search rules; edges_long = search rules } in
    rw c.whole.ensures (long_refused _ _ c.if-query-gt-MAX_BYTES.true (none_held sized (none_counted c.default-self.ensures)))

pub loop-field-init : goal.loop-field-init
loop-field-init c =
    let sized : Sized c.args.self.now = record { values_long = search rules; truths_long = search rules; reads_long = search rules; sources_long = search rules; edges_long = search rules } in
    starts _ _ c.if-query-gt-MAX_BYTES.false (none_held sized (none_counted c.default-self.ensures))

pub returns-in_err-field : goal.returns-in_err-field
returns-in_err-field c =
    let p = err_from_is_err_and c.from_residual.result c.from_residual.ensures.1 in
    rw (p.1, p.2) (at_broken c.loop-field.invariant c.in_err-field.field-0.0 (sym c.field_at.ensures ∙ ap standing_of c.in_err-field.was))

pub returns : goal.returns
returns c = at_end c.loop-field.invariant tt (sym c.field_at.ensures ∙ ap standing_of (c.in_ok-field.was ∙ ap Ok c.in_default.is))

pub returns-in-Err : goal.returns-in-Err
returns-in-Err c =
    at_fault c.loop-field.invariant c.in-Some.field c.in-Some.next _ (sym c.field_at.ensures ∙ ap standing_of (c.in_ok-field.was ∙ ap Ok c.in-Some.is)) c.fault.ensures c.in-Err.reason (sym (ap fault_number c.in-Err.is))

pub put-requires : goal.put-requires
put-requires c =
    at_room c.loop-field.invariant c.in-Some.field c.in-Some.next _ (sym c.field_at.ensures ∙ ap standing_of (c.in_ok-field.was ∙ ap Ok c.in-Some.is)) c.fault.ensures (ap fault_number c.in_default-fault.is)

-- one turn
turned : (c : After-put) → Head c.args.query.now (put_in c.in-Some.field c.loop-field.self) c.in-Some.next × (c.loop-field.at < c.in-Some.next) × (c.in-Some.next ≤ length c.args.query.now)
turned c =
    at_next c.loop-field.invariant c.in-Some.field c.in-Some.next _ (sym c.field_at.ensures ∙ ap standing_of (c.in_ok-field.was ∙ ap Ok c.in-Some.is)) c.fault.ensures (ap fault_number c.in_default-fault.is)

pub loop-field-preserved : goal.loop-field-preserved
loop-field-preserved c = subst (λ (t : Tables). Head c.args.query.now t c.in-Some.next) (sym c.put.ensures) (turned c).0

pub loop-field-smaller : goal.loop-field-smaller
loop-field-smaller c = let on = turned c in omega (arith, on.1, on.2)
