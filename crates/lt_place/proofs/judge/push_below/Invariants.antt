use Rattle.std.proofs.Common.{◌≡◌, ◌++◌}
use Rattle.lt_place.specs.Faults.{main_below}
use Rattle.lt_place.proofs.judge.push_below.Given as goal

abbrev pub invariant-loop-x : goal.invariant-loop-x
invariant-loop-x l = l.order.items ≡ l.fn.order.items ++ main_below l.origin l.x
