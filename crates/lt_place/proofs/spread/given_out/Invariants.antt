use Rattle.std.proofs.Common.{take, []}
use Rattle.lt_place.specs.Spread.{HasGiven}
use Rattle.lt_place.proofs.spread.given_out.Given as goal

abbrev pub invariant-loop-y : goal.invariant-loop-y
invariant-loop-y l = HasGiven l.variables (take l.y-index l.outs) [] l.given.items

abbrev pub invariant-loop-crossing : goal.invariant-loop-crossing
invariant-loop-crossing l = HasGiven l.variables l.outs (take l.crossing-index l.cross) l.given.items
