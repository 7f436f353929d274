use Rattle.std.proofs.Common.{◌≡◌, map, take}
use Rattle.lt_io.specs.FlipState.{silent}
use Rattle.lt_io.proofs.flip_fabric.channels_of.Given as goal

abbrev pub invariant-loop-kind : goal.invariant-loop-kind
invariant-loop-kind l = l.channels.items ≡ map silent (take l.kind-index l.kinds)
