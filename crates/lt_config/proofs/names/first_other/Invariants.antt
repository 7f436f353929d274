use Rattle.std.proofs.Common.{◌≡◌}
use Rattle.toml.specs.View.{members_view, table_view}
use Rattle.lt_config.specs.Faults.{is_key}
use Rattle.lt_config.specs.Faults.{first_not}
use Rattle.lt_config.proofs.names.first_other.Given as goal

abbrev pub invariant-loop-name : goal.invariant-loop-name
invariant-loop-name l = first_not is_key (table_view l.table) ≡ first_not is_key (members_view l.name-iterator)
