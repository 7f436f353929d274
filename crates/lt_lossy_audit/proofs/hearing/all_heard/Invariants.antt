use Rattle.std.proofs.Common.{◌≡◌}
use Rattle.lt_lossy_audit.specs.Nodes.{hears_all}
use Rattle.lt_lossy_audit.proofs.hearing.all_heard.Given as goal

abbrev pub invariant-loop-c : goal.invariant-loop-c
invariant-loop-c l = l.all ≡ hears_all l.shape l.links.items l.node l.number l.data_kind l.c
