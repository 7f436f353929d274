use Rattle.std.proofs.Common.{◌≡◌, drop}
use Rattle.std.specs.Prelude.{find}
use Rattle.toml.specs.View.{table_view}
use Rattle.lt_config.specs.Keys.{keys}
use Rattle.lt_config.specs.Faults.{is_missing}
use Rattle.lt_config.proofs.judge.first_missing.Given as goal

abbrev pub invariant-loop-key : goal.invariant-loop-key
invariant-loop-key l = (find (is_missing (table_view l.table)) keys ≡ find (is_missing (table_view l.table)) (drop l.key-index keys))
    × (l.key-items ≡ keys)
