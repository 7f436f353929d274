use Rattle.std.proofs.Common.{◌≡◌, ◌+◌, ◌*◌, ◌-◌, length}
use Rattle.lt_meaning.proofs.Begins.{Begins}
use Rattle.lt_meaning.proofs.starting.+start.Given as goal

abbrev pub decreases-start : goal.decreases-start
decreases-start l = 2 * l.left

abbrev pub decreases-child_of : goal.decreases-child_of
decreases-child_of l = 2 * l.left + 1

abbrev pub invariant-start-loop-i : goal.invariant-start-loop-i
invariant-start-loop-i l = record {
  size : length l.children.items ≡ l.i;
  begins : Begins l.plans l.plan.steps.items (l.left - 1) l.children.items;
}
