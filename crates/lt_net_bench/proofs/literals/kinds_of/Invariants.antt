use Rattle.std.proofs.Common.{◌≡◌, map, take}
use Rattle.lt_net_bench.specs.Starts.{types_on}
use Rattle.lt_net_bench.proofs.literals.kinds_of.Given as goal

abbrev pub invariant-loop-channel : goal.invariant-loop-channel
invariant-loop-channel l = l.kinds ≡ map (types_on l.layout.cross) (take l.channel-index l.channels)
