use Rattle.std.proofs.Common.{◌≡◌, map, take}
use Rattle.lt_net_bench.specs.Starts.{literals_on}
use Rattle.lt_net_bench.proofs.literals.buffers.Given as goal

abbrev pub invariant-loop-channel : goal.invariant-loop-channel
invariant-loop-channel l = l.buffers.items ≡ map (literals_on l.layout.cross) (take l.channel-index l.channels)
