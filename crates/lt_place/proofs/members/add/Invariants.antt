use Rattle.lt_place.specs.Spread.{Added}
use Rattle.lt_place.proofs.members.add.Given as goal

abbrev pub invariant-loop-x : goal.invariant-loop-x
invariant-loop-x l = Added l.nodes l.picked l.n l.x l.fn.members.items l.fn.own.items l.members.items l.own.items
