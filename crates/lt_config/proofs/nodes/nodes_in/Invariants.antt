use Rattle.std.proofs.Common.{◌≡◌, ◌++◌}
use Rattle.toml.specs.View.{members_view, table_view}
use Rattle.lt_config.specs.Setup.{nodes_in}
use Rattle.lt_config.proofs.nodes.nodes_in.Given as goal

abbrev pub invariant-loop-name : goal.invariant-loop-name
invariant-loop-name l = nodes_in (table_view l.entries) ≡ l.nodes ++ nodes_in (members_view l.name-iterator)
