-- What was read so far is the number of the bytes taken, and is below the power of their count.
use Rattle.std.proofs.Common.{◌≡◌, ◌^◌, ◌<◌, take}
use Rattle.paper.specs.Lists.{number}
use Rattle.query.proofs.number.Given as goal

abbrev pub invariant-loop-byte : goal.invariant-loop-byte
invariant-loop-byte l =
    (l.high ≡ number (take l.byte-index l.bytes)) × (l.high < 256 ^ l.byte-index)
