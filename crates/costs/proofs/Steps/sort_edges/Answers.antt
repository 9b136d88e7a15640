-- `Steps::sort_edges` meets its contract: each row's edge, if it is open to one, is put into the words of its kind, by Sorting.
-- Assumes nothing.
use Rattle.std.proofs.Common.{◌≡◌, ℕ, ◌⊎◌, Bool, false, [], sym, ap, subst}
use mathlib.Core.Logic.{⊎_elim}
use Rattle.paper.specs.Reach.{is_write}
use Rattle.terms.specs.Graph.{guard_found}
use Rattle.terms.specs.declared.graph.Guard.{Guard}
use Rattle.terms.specs.declared.graph.Guard.TheVariants.{IsTrue, IsFalse}
use Rattle.reach.specs.Steps.{Adjacent}
use Rattle.reach.proofs.Words.{no_edges}
use Rattle.costs.proofs.Sorting.{open_ends, sorted_none, sorted_write, sorted_other}
use Rattle.costs.proofs.Steps.sort_edges.Goals as goal
use Rattle.costs.proofs.Steps.sort_edges.Goals.{in-Some+in-Differ, in-Some+in-IsTrue, in_default}

pub loop-row-init : goal.loop-row-init
loop-row-init c = (subst (Adjacent []) (sym c.requires.cleared.0) no_edges, subst (Adjacent []) (sym c.requires.cleared.1) no_edges)

pub set_edge-requires : goal.set_edge-requires
set_edge-requires c = open_ends _ _ _ c.requires.lent c.loop-row-test.true c.in-Some.ensures

pub set_edge-requires-in-IsTrue : goal.set_edge-requires-in-IsTrue
set_edge-requires-in-IsTrue c = open_ends _ _ _ c.requires.lent c.loop-row-test.true c.in-Some.ensures

write : Guard → Bool
write guard = is_write (guard_found guard)

no_write : (guard : Guard) → ((m : ℕ) × (guard ≡ IsTrue m)) ⊎ ((m : ℕ) × (guard ≡ IsFalse m)) → is_write (guard_found guard) ≡ false
unfolding write
no_write guard is = ⊎_elim (λ one. ap write one.1) (λ other. ap write other.1) is

pub loop-row-preserved : goal.loop-row-preserved
unfolding write
loop-row-preserved c =
    elim c.match-open.branch [
      | in-Some+in-Differ w ↦ rw (w.self-is, w.set_edge.ensures) (sorted_write _ _ _ c.requires.lent c.loop-row-test.true c.loop-row.invariant w.in-Some.ensures (ap write w.in-Differ.is))
      | in-Some+in-IsTrue w ↦ rw (w.self-is, w.set_edge-in-IsTrue.ensures) (sorted_other _ _ _ c.requires.lent c.loop-row-test.true c.loop-row.invariant w.in-Some.ensures (no_write _ w.in-IsTrue.is))
      | in_default w ↦ rw w.self-is (sorted_none _ _ _ c.requires.lent c.loop-row-test.true c.loop-row.invariant w.in_default.ensures)
    ]
