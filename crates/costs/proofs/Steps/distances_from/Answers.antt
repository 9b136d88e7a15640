-- `Steps::distances_from` meets its contract: the next level is met at the least distance that is left, and is settled there, by Meeting.
-- Assumes nothing.
use Rattle.std.proofs.Common.{arith}
use lib.Pow.{pow-lt}
use Rattle.reach.proofs.Bits.{one_shifted}
use Rattle.costs.proofs.Settling.{search_begun, few_wait, none_far, search_ended}
use Rattle.costs.proofs.Meeting.{none_new, some_new, meeting, met_nothing, level_small, some_room, met_level}
use Rattle.costs.proofs.Steps.distances_from.Goals as goal

pub put_level-begun-requires-clause-small : goal.put_level-begun-requires-clause-small
put_level-begun-requires-clause-small c = rw (one_shifted c.args.origin (omega arith)) (pow-lt c.requires.inside)

pub loop-taken-init : goal.loop-taken-init
loop-taken-init c =
    let p = c.put_level-begun in
    rw (c.store.ensures.levels, c.store.ensures.distances)
    (search_begun (one_shifted c.args.origin (omega arith)) c.requires.inside _ _ (omega arith) (omega arith) (omega arith) p.ensures.put p.ensures.cheap p.ensures.written)

pub meet-next-requires : goal.meet-next-requires
meet-next-requires c = (omega (arith, few_wait c.loop-taken.invariant), omega (arith, none_far c.loop-taken.invariant))

pub put_level-beyond-requires-clause-small : goal.put_level-beyond-requires-clause-small
put_level-beyond-requires-clause-small c = let known = c.loop-taken.invariant in level_small known (meeting known c.loop-taken-test.true c.meet-next.ensures)

pub overflow_add-next : goal.overflow_add-next
overflow_add-next c =
    let known = c.loop-taken.invariant in
    let meets = meeting known c.loop-taken-test.true c.meet-next.ensures in
    omega (arith, meets.within, none_far known)

pub store-requires-then-level-ne0 : goal.store-requires-then-level-ne0
store-requires-then-level-ne0 c =
    let known = c.loop-taken.invariant in
    some_room known (meeting known c.loop-taken-test.true c.meet-next.ensures) (some_new c.if-level-ne0.true)

pub overflow_add-put : goal.overflow_add-put
overflow_add-put c = omega (arith, few_wait c.loop-taken.invariant)

pub loop-taken-smaller-then-level-ne0 : goal.loop-taken-smaller-then-level-ne0
loop-taken-smaller-then-level-ne0 c =
    let known = c.loop-taken.invariant in
    let meets = meeting known c.loop-taken-test.true c.meet-next.ensures in
    omega (arith, meets.from, meets.order, some_room known meets (some_new c.if-level-ne0.true))

pub loop-taken-preserved-then-level-ne0 : goal.loop-taken-preserved-then-level-ne0
loop-taken-preserved-then-level-ne0 c =
    let known = c.loop-taken.invariant in
    let meets = meeting known c.loop-taken-test.true c.meet-next.ensures in
    let p = c.put_level-beyond in
    let s = c.store-then-level-ne0 in
    rw (s.ensures.levels, s.ensures.distances)
    (met_level known meets (some_new c.if-level-ne0.true) (omega arith) p.ensures.put p.ensures.cheap p.ensures.written)

pub loop-taken-preserved : goal.loop-taken-preserved
loop-taken-preserved c =
    let known = c.loop-taken.invariant in
    met_nothing known (meeting known c.loop-taken-test.true c.meet-next.ensures) (none_new c.if-level-ne0.false)

pub loop-taken-smaller : goal.loop-taken-smaller
loop-taken-smaller c =
    let known = c.loop-taken.invariant in
    let meets = meeting known c.loop-taken-test.true c.meet-next.ensures in
    omega (arith, meets.moves (none_new c.if-level-ne0.false), few_wait known)

pub returns : goal.returns
returns c = search_ended c.loop-taken.invariant (omega (arith, c.loop-taken.invariant.order))
