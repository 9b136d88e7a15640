-- `print::PageWrite::write_str` is safe: the place of the next byte is never past the page's end.
-- Assumes nothing.
use Rattle.std.proofs.Common.{◌≤◌}
use Rattle.print.proofs.PageWrite.write_str.Given as goal

abbrev pub invariant-loop-byte : goal.invariant-loop-byte
invariant-loop-byte g l = l.used ≤ 4096
