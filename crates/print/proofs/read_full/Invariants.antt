-- `print::read_full` meets its contract: the room left in the buffer falls with each turn, since a turn that goes on read a byte.
use Rattle.std.proofs.Common.{length, ◌-◌, ◌≤◌}
use Rattle.print.proofs.read_full.Given as goal

abbrev pub invariant-loop-done : goal.invariant-loop-done
invariant-loop-done g l = l.done ≤ length l.buffer

abbrev pub decreases-loop-done : goal.decreases-loop-done
decreases-loop-done g l = length l.buffer - l.done
