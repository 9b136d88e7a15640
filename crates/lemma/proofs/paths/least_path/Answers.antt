-- `lemma::paths::least_path` meets its contract: away from the goal some edge leads nearer, and each step goes on as the path does.
-- Assumes nothing.
use Rattle.std.proofs.Common.{sym, arith}
use Rattle.lemma.proofs.Stepping.{ends_most, walking_start, walking_in, walking_on, never_stuck, walking_end, chosen_in}
use Rattle.lemma.proofs.paths.least_path.Goals as goal

pub loop-a-init : goal.loop-a-init
loop-a-init c =
    let pre = c.requires.0 in
    walking_start _ _ _ _ pre.ends _ _ c.requires.1 pre.reached

pub nearer_edge-requires : goal.nearer_edge-requires
nearer_edge-requires c =
    let pre = c.requires.0 in (
      ends_most _ _ _ pre.ends,
      omega (arith, pre.ends.arrays, walking_in _ _ _ _ c.loop-a.invariant),
      omega (arith, pre.ends.arrays, pre.goal_in),
    )

pub unreachable-requires : goal.unreachable-requires
unreachable-requires c =
    let pre = c.requires.0 in
    never_stuck _ _ _ _ pre.ends c.args.distances.now pre.distances_are pre.goal_in _ _ _ _ c.loop-a.invariant c.loop-a-test.true (sym c.in_default.ensures)

pub overflow_cast-path : goal.overflow_cast-path
overflow_cast-path c =
    let pre = c.requires.0 in
    omega (arith, pre.ends.edges, chosen_in _ _ _ _ pre.ends c.args.distances.now pre.distances_are pre.goal_in _ _ _ _ c.loop-a.invariant _ _ (sym c.in-Some.ensures))

pub loop-a-preserved : goal.loop-a-preserved
loop-a-preserved c =
    let pre = c.requires.0 in
    rw c.other_end-a.ensures (walking_on _ _ _ _ pre.ends c.args.distances.now pre.distances_are pre.goal_in _ _ _ _ c.loop-a.invariant _ _ (sym c.in-Some.ensures))

pub returns : goal.returns
returns c = walking_end _ _ _ _ c.requires.0.ends _ _ _ _ c.loop-a-test.false c.loop-a.invariant
