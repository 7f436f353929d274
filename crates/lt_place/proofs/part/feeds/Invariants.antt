use Rattle.std.proofs.Common.{◌≡◌, map, take}
use Rattle.lt_place.specs.Spread.{feed_of}
use Rattle.lt_place.proofs.part.feeds.Given as goal

abbrev pub invariant-loop-x : goal.invariant-loop-x
invariant-loop-x l = l.feeds.items ≡ map (feed_of l.places) (take l.x-index l.inputs)
