-- `faults::fault` meets its contract: of a write, an array term or a base term that is not given is refused by 6, once there is room.
-- Assumes nothing.
use Rattle.std.specs.Prelude.{leb}
use Rattle.std.proofs.Common.{sym, ◌∙◌}
use Rattle.faults.proofs.Tried.{not_met, one_ungiven}
use Rattle.faults.proofs.fault.Goals as goal

pub returns-in_ok-unless-in-Write : goal.returns-in_ok-unless-in-Write
returns-in_ok-unless-in-Write c =
    let counts = c.args.counts in
    let p = c.in-Write.p in
    let room = not_met _ _ (sym c.unless-in-Write.ensures ∙ c.in_ok-unless-in-Write.was) in
    rw (c.unless-in-Write-2.ensures, c.in-Write.is, room) (one_ungiven (leb counts.arrays p.beneath) (leb counts.bases p.index) (leb counts.bases p.value))
