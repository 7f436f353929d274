use Rattle.std.proofs.Common.{sym}
use Rattle.lt_emit.proofs.Emission.{no_node_right}
use Rattle.lt_emit.proofs.emitting.emit_named.Goals as goal

pub returns-in_ok-emit_number-in-Some : goal.returns-in_ok-emit_number-in-Some
returns-in_ok-emit_number-in-Some c = (c.in-Some.n, sym c.in-Some.ensures.found, c.in_ok-emit_number-in-Some.ensures)

pub returns-in-None : goal.returns-in-None
returns-in-None c = no_node_right c.args.header c.args.node.now c.args.site.now c.no_node.result c.in-None.ensures.found c.no_node.ensures
