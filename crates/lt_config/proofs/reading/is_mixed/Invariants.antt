use Rattle.std.proofs.Common.{◌≡◌, drop, is_some}
use Rattle.std.specs.List.{list_any}
use Rattle.toml.specs.View.{table_view}
use Rattle.lt_config.specs.Keys.{tables, value_at}
use Rattle.lt_config.specs.Setup.{is_mixed}
use Rattle.lt_config.proofs.reading.is_mixed.Given as goal

abbrev pub invariant-loop-key : goal.invariant-loop-key
invariant-loop-key l = (is_mixed (table_view l.table) ≡ list_any (λ key. is_some (value_at (table_view l.table) key)) (drop l.key-index tables))
    × (l.key-items ≡ tables)
