use Rattle.std.proofs.Common.{◌≡◌, ◌++◌, take}
use Rattle.lt_place.specs.Faults.{main_lefts}
use Rattle.lt_place.proofs.judge.push_lefts.Given as goal

abbrev pub invariant-loop-equation : goal.invariant-loop-equation
invariant-loop-equation l = l.order.items ≡ l.fn.order.items ++ main_lefts l.origin (take l.equation-index l.equations)
