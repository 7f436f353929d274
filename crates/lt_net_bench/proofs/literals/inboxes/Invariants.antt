use Rattle.std.proofs.Common.{◌≡◌, map, take}
use Rattle.lt_net_bench.specs.Starts.{first_inbox}
use Rattle.lt_net_bench.proofs.literals.inboxes.Given as goal

abbrev pub invariant-loop-channel : goal.invariant-loop-channel
invariant-loop-channel l = l.inboxes.items ≡ map (first_inbox l.layout.cross) (take l.channel-index l.channels)
