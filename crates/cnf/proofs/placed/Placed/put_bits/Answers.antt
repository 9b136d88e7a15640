-- Each turn stores the two clauses of one bit, the first of what is left.
use Rattle.cnf.proofs.Runs.{further, left_as, room_for}
use Rattle.cnf.proofs.Pieces.{bits_step}
use Rattle.cnf.proofs.placed.Placed.put_bits.Goals as goal

pub put-requires : goal.put-requires
put-requires c =
    room_for _ _ (left_as (bits_step c.args.sizes c.args.self c.loop-bit.bit _ c.loop-bit-test.true c.bit_clauses.ensures) c.loop-bit.invariant) c.requires

pub put-requires-in-loop-bit : goal.put-requires-in-loop-bit
put-requires-in-loop-bit c =
    let left = left_as (bits_step c.args.sizes c.args.self c.loop-bit.bit _ c.loop-bit-test.true c.bit_clauses.ensures) c.loop-bit.invariant in
    room_for _ _ (further _ left c.put.ensures) c.requires

pub loop-bit-preserved : goal.loop-bit-preserved
loop-bit-preserved c =
    let left = left_as (bits_step c.args.sizes c.args.self c.loop-bit.bit _ c.loop-bit-test.true c.bit_clauses.ensures) c.loop-bit.invariant in
    further _ (further _ left c.put.ensures) c.put-in-loop-bit.ensures
