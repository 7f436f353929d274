use Rattle.std.proofs.Common.{◌≡◌, map, length}
use Rattle.toml.specs.View.{table_view}
use Rattle.lt_arch.specs.Pairs.{pairs_below}
use Rattle.lt_arch.specs.NodeNames.{names_of}
use Rattle.lt_config.specs.Setup.{pair_numbers}
use Rattle.lt_config.specs.Reading.{delays_of}
use Rattle.lt_config.proofs.timing.pair_times.Given as goal

abbrev pub invariant-loop-from : goal.invariant-loop-from
invariant-loop-from l = map delays_of l.pairs ≡ map (pair_numbers (table_view l.table) (names_of l.nodes)) (pairs_below (length l.nodes) l.from)
