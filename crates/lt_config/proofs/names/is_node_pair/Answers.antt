use Rattle.std.proofs.Common.{sym, ◌∙◌}
use Rattle.toml.specs.View.{table_view}
use Rattle.lt_config.specs.Faults.{is_cut}
use Rattle.lt_config.proofs.Below.{any-below}
use Rattle.lt_config.proofs.names.is_node_pair.Goals as goal

pub returns-then-is_cut : goal.returns-then-is_cut
returns-then-is_cut c =
    sym (any-below (is_cut (table_view c.args.table.now) c.args.name.now) c.loop-place.place _ c.loop-place-test.true (sym c.is_cut.ensures ∙ c.if-is_cut.true))
