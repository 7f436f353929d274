use Rattle.std.proofs.Common.{◌≡◌}
use Rattle.lt_net_node.specs.Local.{firsts}
use Rattle.lt_net_bench.specs.Starts.{route_to}
use Rattle.lt_net_bench.proofs.tables.routes.Given as goal

abbrev pub invariant-loop-c : goal.invariant-loop-c
invariant-loop-c l = l.routes.items ≡ firsts (route_to l.layout l.shape.channels) l.c
