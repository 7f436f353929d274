use Rattle.std.proofs.Common.{Ok, sym}
use Rattle.lt_lossy.proofs.Rows.{plain-line, is_event}
use Rattle.lt_net_lossy.proofs.replay.reading.read_row.Goals as goal

pub returns-in-Ok-clause-event : goal.returns-in-Ok-clause-event
returns-in-Ok-clause-event c = sym (plain-line c.args.shape.now (Ok c.in-Ok.e) (is_event c.in-Ok.e) c.args.line.now (sym c.in-Ok.ensures.event))
