use Rattle.std.proofs.Common.{arith}
use Rattle.lt_emit.proofs.Coded.{placed_coded, part_within}
use Rattle.lt_emit.proofs.emitting.emit_number.Goals as goal

pub emit_node-requires-clause-placed : goal.emit_node-requires-clause-placed
emit_node-requires-clause-placed c = placed_coded c.args.site.now c.requires.coded

pub emit_node-requires-clause-node : goal.emit_node-requires-clause-node
emit_node-requires-clause-node c = part_within c.args.site.now c.requires.coded c.args.n c.requires.within

pub emit_node-requires-clause-timed : goal.emit_node-requires-clause-timed
emit_node-requires-clause-timed c = c.requires.coded.1.timed

pub emit_node-requires-clause-few : goal.emit_node-requires-clause-few
emit_node-requires-clause-few c = let few = c.requires.coded.1.few in omega (arith, few)
