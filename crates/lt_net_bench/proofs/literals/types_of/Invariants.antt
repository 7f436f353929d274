use Rattle.std.proofs.Common.{◌≡◌, map, take}
use Rattle.lt_base.specs.Value.{ty_of}
use Rattle.lt_net_bench.proofs.literals.types_of.Given as goal

abbrev pub invariant-loop-value : goal.invariant-loop-value
invariant-loop-value l = l.types ≡ map ty_of (take l.value-index l.values)
