use Rattle.std.proofs.Common.{◌≡◌}
use Rattle.lt_place.specs.Spread.{outs_below}
use Rattle.lt_place.proofs.part.outs.Given as goal

abbrev pub invariant-loop-x : goal.invariant-loop-x
invariant-loop-x l = l.outs.items ≡ outs_below l.nodes l.given l.n l.x
