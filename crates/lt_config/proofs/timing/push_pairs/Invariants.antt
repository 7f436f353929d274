use Rattle.std.proofs.Common.{◌≡◌, ◌++◌, map}
use Rattle.toml.specs.View.{table_view}
use Rattle.lt_arch.specs.Pairs.{pairs_from}
use Rattle.lt_arch.specs.NodeNames.{names_of}
use Rattle.lt_config.specs.Setup.{pair_numbers}
use Rattle.lt_config.specs.Reading.{delays_of}
use Rattle.lt_config.proofs.timing.push_pairs.Given as goal

abbrev pub invariant-loop-to : goal.invariant-loop-to
invariant-loop-to l = map delays_of l.pairs ≡ map delays_of l.initial.pairs ++ map (pair_numbers (table_view l.table) (names_of l.nodes)) (pairs_from l.from l.to)
