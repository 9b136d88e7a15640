-- `costs::put_distances` meets its contract: each row has the distances from its array term, and those are the paper's. Assumes nothing.
use Rattle.std.proofs.Common.{◌≢◌, ◌<◌, length, [], slice_index_or, refl, ◌∙◌, get_or-set_other, arith}
use lib.ListN.{length-set}
use Rattle.reach.specs.Reached.{opens_in}
use Rattle.costs.proofs.Counted.{distance_is, distances_put}
use Rattle.reach.proofs.Words.{lent_ends}
use Rattle.costs.proofs.put_distances.Goals as goal

pub loop-a-init : goal.loop-a-init
loop-a-init c = record { long = omega arith; made = λ j below. absurd (omega arith); rest = λ j past. refl }

pub loop-a-preserved : goal.loop-a-preserved
loop-a-preserved c =
    let l = c.loop-a in
    let made = c.distances_from in
    let inside : l.a < length l.table = omega (arith, c.requires.arrays, l.invariant.long) in record {
      long = length-set l.table l.a made.result ∙ l.invariant.long;
      made = distances_put l.table l.a made.result inside made.ensures l.invariant.made;
      rest = λ j past. let other : j ≢ l.a = omega arith in rw get_or-set_other (l.invariant.rest j (omega arith));
    }

pub returns : goal.returns
returns c =
    let t = c.args.tables.now in
    record {
      rows = λ a b a_in b_in.
          distance_is (opens_in t) t.counts.arrays c.args.x (lent_ends c.requires t.values t.truths)
          c.sort_edges.ensures a b (slice_index_or c.loop-a.table a []) a_in b_in (c.loop-a.invariant.made a (omega arith));
      rest = λ a past. c.loop-a.invariant.rest a (omega arith);
    }
