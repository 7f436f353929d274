use Rattle.lt_narrow.specs.Narrow.{AreNarrowed}
use Rattle.lt_narrow.proofs.narrow.narrowed_times.Given as goal

abbrev pub invariant-loop-node : goal.invariant-loop-node
invariant-loop-node l = AreNarrowed l.jitter l.timing l.node l.times
