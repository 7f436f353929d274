use Rattle.std.proofs.Common.{◌≡◌, drop}
use Rattle.toml.specs.View.{table_view}
use Rattle.lt_config.specs.Keys.{tables}
use Rattle.lt_config.specs.Faults.{first_stray}
use Rattle.lt_config.proofs.names.first_stray.Given as goal

abbrev pub invariant-loop-key : goal.invariant-loop-key
invariant-loop-key l = (first_stray (table_view l.table) tables ≡ first_stray (table_view l.table) (drop l.key-index tables))
    × (l.key-items ≡ tables)
