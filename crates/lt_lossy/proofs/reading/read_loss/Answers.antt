use Rattle.lt_lossy.proofs.Rows.{event_at-line}
use Rattle.lt_lossy.proofs.reading.read_loss.Goals as goal

pub loss_at-requires-clause-other : goal.loss_at-requires-clause-other
loss_at-requires-clause-other c =
    event_at-line c.args.shape.now c.args.line.now _ c.in-Some-time_in.time _ c.requires.other c.in-Some.ensures c.in-Some-time_in.ensures.time
