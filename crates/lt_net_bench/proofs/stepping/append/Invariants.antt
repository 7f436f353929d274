use Rattle.std.proofs.Common.{◌≡◌}
use Rattle.lt_net_bench.specs.Routes.{tracked}
use Rattle.lt_net_bench.proofs.stepping.append.Given as goal

abbrev pub invariant-loop-y : goal.invariant-loop-y
invariant-loop-y l = l.cells.items ≡ tracked l.exits l.node l.outs l.y l.initial.cells.items
