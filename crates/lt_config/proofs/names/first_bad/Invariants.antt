use Rattle.std.proofs.Common.{◌≡◌}
use Rattle.toml.specs.View.{members_view, table_view}
use Rattle.lt_arch.specs.Names.{is_identifier}
use Rattle.lt_config.specs.Faults.{first_not}
use Rattle.lt_config.proofs.names.first_bad.Given as goal

abbrev pub invariant-loop-name : goal.invariant-loop-name
invariant-loop-name l = first_not is_identifier (table_view l.nodes) ≡ first_not is_identifier (members_view l.name-iterator)
