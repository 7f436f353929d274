use Rattle.std.proofs.Common.{refl}
use Rattle.lt_schedule.proofs.Steps.{event_many, taken_event, stopped, stopped_counted, stopped_unread, stopped_prompt}
use Rattle.lt_schedule.proofs.replaying.take_event.Goals as goal

pub returns-then-number-gt-MOST_EVENTS-clause-takes : goal.returns-then-number-gt-MOST_EVENTS-clause-takes
returns-then-number-gt-MOST_EVENTS-clause-takes g c before stands = rw c.at_row.ensures (refl, event_many (g.R.Replica.rules c.args.replica.now) c.args.number c.args.line.now c.if-number-gt-MOST_EVENTS.true)

pub returns-in-Ok-clause-takes : goal.returns-in-Ok-clause-takes
returns-in-Ok-clause-takes g c before stands = taken_event (g.R.Replica.rules c.args.replica.now) c.args.number c.args.line.now _ before c.if-number-gt-MOST_EVENTS.false (c.in-Ok.ensures.takes before stands)

pub returns-in-Err-clause-takes : goal.returns-in-Err-clause-takes
returns-in-Err-clause-takes g c before stands = rw c.halt_of.ensures (stopped (g.R.Replica.rules c.args.replica.now) c.args.number c.args.line.now before c.in-Err.stop c.if-number-gt-MOST_EVENTS.false (c.in-Err.ensures.takes before stands))

pub returns-in-Err-clause-link_cause : goal.returns-in-Err-clause-link_cause
returns-in-Err-clause-link_cause g c = rw c.halt_of.ensures (stopped_counted _ _ c.args.number c.in-Err.stop c.in-Err.ensures.cause)

pub returns-in-Err-clause-unread : goal.returns-in-Err-clause-unread
returns-in-Err-clause-unread g c = rw c.halt_of.ensures (stopped_unread c.args.number c.in-Err.stop)

pub returns-in-Err-clause-prompt : goal.returns-in-Err-clause-prompt
returns-in-Err-clause-prompt g c prompt = rw c.halt_of.ensures (stopped_prompt c.args.number c.in-Err.stop (c.in-Err.ensures.prompt prompt))
