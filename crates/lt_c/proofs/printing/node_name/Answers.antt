use Rattle.std.proofs.Common.{sym, ◌∙◌}
use Rattle.lt_c.proofs.Names.{node_there, node_past}
use Rattle.lt_c.proofs.printing.node_name.Goals as goal

pub returns-then-j-nodes : goal.returns-then-j-nodes
returns-then-j-nodes c =
    c.as_bytes.ensures.value ∙ c.as_str.ensures ∙ c.index-nodes-j.is
    ∙ sym (node_there c.args.nodes.now c.args.j c.index-nodes-j.result c.if-j-nodes.true)

pub returns-else-j-nodes : goal.returns-else-j-nodes
returns-else-j-nodes c = sym (node_past c.args.nodes.now c.args.j c.if-j-nodes.false)
