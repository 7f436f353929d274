use Rattle.toml.specs.View.{table_view}
use Rattle.lt_config.proofs.NoFault.{no_fault}
use Rattle.lt_config.proofs.GoodNodes.{named_nodes, no_nodes}
use Rattle.lt_config.proofs.nodes.named_nodes.Goals as goal

pub invariant_of-result : goal.invariant_of-result
invariant_of-result c =
    let t = table_view c.args.table.now in
    let is = c.in_ok-nodes_in-in-Some.ensures in
    let (same, some, identifiers) = named_nodes t (no_fault t c.requires) (table_view c.in-Some.entries.now) c.in-Some.ensures c.in_ok-nodes_in-in-Some.field-0 is in
    record { inhabited = some; identifiers = identifiers; ascending = rw is c.ascends.ensures }

pub unreachable-requires : goal.unreachable-requires
unreachable-requires c = let t = table_view c.args.table.now in no_nodes t (no_fault t c.requires) c.in-None.ensures
