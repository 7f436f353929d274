use Rattle.std.proofs.Common.{◌≡◌, false}
use Rattle.toml.specs.View.{table_view}
use Rattle.lt_config.specs.Faults.{is_any_below, is_cut}
use Rattle.lt_config.proofs.names.is_node_pair.Given as goal

abbrev pub invariant-loop-place : goal.invariant-loop-place
invariant-loop-place l = is_any_below (is_cut (table_view l.table) l.name) l.place ≡ false
