-- `reach::spread_from` meets its contract: what is picked from the frontier is met and not marked, and where nothing is left of the frontier the row is closed.
-- Assumes nothing.
use Rattle.std.proofs.Common.{◌<◌, arith}
use lib.Bits.{bit_xor}
use lib.Count.{count_trailing_zeros}
use Rattle.reach.proofs.Bits.{one_shifted}
use Rattle.reach.proofs.Spreading.{begun, picked_inside, spread_on, fewer, still_less}
use Rattle.reach.proofs.spread_from.Goals as goal

pub loop-row-init : goal.loop-row-init
loop-row-init c = rw (one_shifted c.args.origin (omega arith)) (begun c.args.neighbours.now c.args.origin c.requires.0)

pub overflow_shl-mark : goal.overflow_shl-mark
overflow_shl-mark c = omega (arith, picked_inside _ _ _ _ _ c.loop-row.invariant c.requires.1 c.loop-row-test.true)

pub overflow_add-marked : goal.overflow_add-marked
overflow_add-marked c = omega (arith, still_less _ _ _ _ _ c.loop-row.invariant c.requires.1 c.loop-row-test.true)

pub bounds-neighbours-a : goal.bounds-neighbours-a
bounds-neighbours-a c = picked_inside _ _ _ _ _ c.loop-row.invariant c.requires.1 c.loop-row-test.true

pub loop-row-smaller : goal.loop-row-smaller
loop-row-smaller c =
    let a = count_trailing_zeros 64 (bit_xor c.loop-row.met c.loop-row.row) in
    let inside : a < 48 = picked_inside _ _ _ _ _ c.loop-row.invariant c.requires.1 c.loop-row-test.true in
    rw (one_shifted a (omega arith)) (fewer _ _ _ _ _ c.loop-row.invariant c.requires.1 c.loop-row-test.true)

pub loop-row-preserved : goal.loop-row-preserved
loop-row-preserved c =
    let a = count_trailing_zeros 64 (bit_xor c.loop-row.met c.loop-row.row) in
    let inside : a < 48 = picked_inside _ _ _ _ _ c.loop-row.invariant c.requires.1 c.loop-row-test.true in
    rw (one_shifted a (omega arith)) (spread_on _ _ _ _ _ c.loop-row.invariant c.requires.1 c.loop-row-test.true)
