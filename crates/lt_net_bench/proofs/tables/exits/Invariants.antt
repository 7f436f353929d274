use Rattle.std.proofs.Common.{◌≡◌, map, take}
use Rattle.lt_net_bench.specs.Starts.{exit_for}
use Rattle.lt_net_bench.proofs.tables.exits.Given as goal

abbrev pub invariant-loop-variable : goal.invariant-loop-variable
invariant-loop-variable l = l.exits.items ≡ map (exit_for l.nodes) (take l.variable-index l.outs)
