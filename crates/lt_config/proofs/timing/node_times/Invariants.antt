use Rattle.std.proofs.Common.{◌≡◌, ◌++◌, map, drop}
use Rattle.toml.specs.View.{table_view}
use Rattle.lt_arch.specs.NodeNames.{names_of}
use Rattle.lt_config.specs.Setup.{node_numbers}
use Rattle.lt_config.specs.Reading.{numbers_of}
use Rattle.lt_config.proofs.timing.node_times.Given as goal

abbrev pub invariant-loop-node : goal.invariant-loop-node
invariant-loop-node l = map (node_numbers (table_view l.table)) (names_of l.nodes)
    ≡ map numbers_of l.times ++ map (node_numbers (table_view l.table)) (names_of (drop l.node-index l.nodes))
