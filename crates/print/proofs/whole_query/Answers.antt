-- `print::whole_query` meets its contract: what is handed on is the front of the buffer that was read.
-- Assumes nothing.
use Rattle.std.proofs.Common.{◌≤◌, length, take, sym, arith}
use Rattle.std.proofs.lemmas.List.{length-take-le}
use Rattle.print.proofs.whole_query.Goals as goal

pub returns : goal.returns
returns g c =
    let read = c.read_full-held in
    let long = length-take-le read.result read.new.buffer read.ensures.0 in
    let most : length (take read.result read.new.buffer) ≤ length c.args.buffer.now = omega (arith, long, read.ensures.0, read.auto.buffer) in
    (most, sym (length-take-le (length (take read.result read.new.buffer)) c.args.buffer.now most))
