use Rattle.std.proofs.Common.{◌≡◌}
use Rattle.toml.specs.View.{members_view, table_view}
use Rattle.lt_config.specs.Faults.{first_not, is_entry_of}
use Rattle.lt_config.proofs.names.first_stray_of.Given as goal

abbrev pub invariant-loop-name : goal.invariant-loop-name
invariant-loop-name l = first_not (is_entry_of (table_view l.table) l.key) (table_view l.entries) ≡ first_not (is_entry_of (table_view l.table) l.key) (members_view l.name-iterator)
