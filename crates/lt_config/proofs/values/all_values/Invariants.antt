use Rattle.std.proofs.Common.{◌≡◌}
use Rattle.toml.specs.View.{members_view, table_view}
use Rattle.lt_config.specs.Values.{all_values}
use Rattle.lt_config.specs.Wanted.{is_wanted}
use Rattle.lt_config.proofs.values.all_values.Given as goal

abbrev pub invariant-loop-value : goal.invariant-loop-value
invariant-loop-value l = all_values (is_wanted l.wanted) (table_view l.entries) ≡ all_values (is_wanted l.wanted) (members_view l.value-iterator)
