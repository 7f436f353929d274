use Rattle.std.proofs.Common.{◌≡◌, map, take}
use Rattle.lt_place.specs.Spread.{own_of}
use Rattle.lt_place.proofs.part.own_outs.Given as goal

abbrev pub invariant-loop-x : goal.invariant-loop-x
invariant-loop-x l = l.new.items ≡ map (own_of l.own) (take l.x-index l.outs)
