use Rattle.std.proofs.Common.{◌≡◌, max}
use Rattle.toml.specs.View.{members_view, table_view}
use Rattle.lt_config.specs.Setup.{greatest_upper}
use Rattle.lt_config.proofs.numbers.greatest_upper.Given as goal

abbrev pub invariant-loop-value : goal.invariant-loop-value
invariant-loop-value l = greatest_upper (table_view l.entries) ≡ max l.greatest (greatest_upper (members_view l.value-iterator))
