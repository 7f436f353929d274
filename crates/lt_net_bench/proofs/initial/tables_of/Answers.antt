use Rattle.std.proofs.Common.{◌∙◌}
use Rattle.lt_arch.specs.Readers.{node_count}
use Rattle.lt_net_bench.proofs.FirstTables.{senders_are}
use Rattle.lt_net_bench.proofs.PortTable.{are_firsts}
use Rattle.lt_net_bench.proofs.initial.tables_of.Goals as goal

pub routes-requires : goal.routes-requires
routes-requires c = record { senders = senders_are c.requires.placed.0 c.args.layout.now c.requires.placed.1 }

pub returns-clause-ports : goal.returns-clause-ports
returns-clause-ports c = c.in_ok-ports.ensures ∙ are_firsts c.args.shape.now.channels (node_count c.args.shape.now)
