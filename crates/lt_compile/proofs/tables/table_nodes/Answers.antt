use Rattle.lt_compile.proofs.ReadySoFar.{all_ready}
use Rattle.lt_compile.proofs.tables.table_nodes.Goals as goal

pub returns : goal.returns
returns c = all_ready _ c.args.layout.now c.args.rows c.in_ok-machines.machines.items c.in_ok-machines.ensures.count c.in_ok-machines.ensures.ready
