use Rattle.std.proofs.Common.{◌≡◌, map, take}
use Rattle.lt_io.specs.FlipState.{flipped}
use Rattle.lt_io.proofs.flip_channel.flip_all.Given as goal

abbrev pub invariant-loop-value : goal.invariant-loop-value
invariant-loop-value l = l.list ≡ map flipped (take l.value-index l.values)
