use Rattle.std.proofs.Common.{◌≡◌, ◌++◌, map, drop}
use Rattle.lt_base.specs.Expression.{shape, arguments_of}
use Rattle.lt_base.specs.Calls.{arguments_called}
use Rattle.lt_check.proofs.sizing.+push_calls.Given as goal

abbrev pub invariant-push_all-arguments : goal.invariant-push_all-arguments
invariant-push_all-arguments l = l.to ++ arguments_called (arguments_of (map shape (drop l.a-index l.args))) ≡ l.initial.to ++ arguments_called (arguments_of (map shape l.args))
