use Rattle.std.proofs.Common.{sym, ◌∙◌}
use Rattle.lt_rows.proofs.Timed.{no_event, untimed, timed}
use Rattle.lt_rows.proofs.read.read_by.Goals as goal

pub returns-in_default-clause-event : goal.returns-in_default-clause-event
returns-in_default-clause-event g c = sym (no_event c.args.shape.now c.args.line.now c.in_default.ensures)

pub returns-in-Some-time_in-clause-event : goal.returns-in-Some-time_in-clause-event
returns-in-Some-time_in-clause-event g c =
    c.event_at.ensures.event ∙ sym (timed c.args.shape.now c.args.line.now _ _ _ _ c.in-Some.ensures (sym c.in-Some-time_in.ensures.time))

pub returns-in-None-clause-event : goal.returns-in-None-clause-event
returns-in-None-clause-event g c = sym (untimed c.args.shape.now c.args.line.now _ _ _ c.in-Some.ensures (sym c.in-None.ensures.time))
