use Rattle.std.proofs.Common.{◌≡◌}
use Rattle.lt_net_bench.specs.Routes.{filled}
use Rattle.lt_net_bench.proofs.stepping.fill.Given as goal

abbrev pub invariant-loop-c : goal.invariant-loop-c
invariant-loop-c l = l.buffers.items ≡ filled l.cross l.routes l.node l.outs l.c l.initial.buffers.items
