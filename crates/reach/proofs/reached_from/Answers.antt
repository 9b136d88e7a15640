-- `reach::reached_from` meets its contract: what is spread from the array term over the words of the open edges is what it reaches.
-- Assumes nothing.
use Rattle.std.proofs.Common.{arith, refl}
use Rattle.reach.specs.Reached.{opens_in}
use Rattle.reach.proofs.Words.{lent_ends, lent_most}
use Rattle.reach.proofs.Rows.{row_of}
use Rattle.reach.proofs.reached_from.Goals as goal

pub adjacency-requires : goal.adjacency-requires
adjacency-requires c = (lent_most c.requires.0, refl)

pub spread_from-requires : goal.spread_from-requires
spread_from-requires c = (omega (arith, c.requires.0.arrays, c.requires.1), c.adjacency.ensures.small)

pub returns : goal.returns
returns c =
    let t = c.args.tables.now in
    row_of (opens_in t) t.counts.arrays c.args.x (lent_ends c.requires.0 t.values t.truths) _ c.adjacency.ensures c.args.array c.requires.1 c.spread_from.result c.spread_from.ensures
