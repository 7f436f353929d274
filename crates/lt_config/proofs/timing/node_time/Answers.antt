use Rattle.toml.specs.View.{table_view}
use Rattle.lt_config.proofs.NoFault.{no_fault}
use Rattle.lt_config.proofs.Ranges.{period_good, paced_good, execute_good}
use Rattle.lt_config.proofs.timing.node_time.Goals as goal

pub invariant_of-result : goal.invariant_of-result
invariant_of-result c =
    let t = table_view c.args.table.now in
    let good = no_fault t c.requires in
    record {
      period = rw (c.bounds_of-tmin.ensures, c.own_or_plain.ensures) (period_good t good c.args.name.now);
      sends = rw c.paced_send-send.ensures (paced_good t good c.args.name.now);
      executes = rw (c.countdown_of-execute.ensures, c.own_or_plain-2.ensures) (execute_good t good c.args.name.now);
    }
