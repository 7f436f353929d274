use Rattle.std.proofs.Common.{◌≡◌, sym, subst}
use Rattle.lt_rows.specs.Events.{event_of}
use Rattle.lt_arch.specs.Schedule.{IsEventOf}
use Rattle.lt_schedule.specs.Verdict.{rules_of}
use Rattle.lt_net_replay.proofs.Stopping.{line_by}
use Rattle.lt_net_replay.proofs.playback.PlaybackReplica.take_line.Goals as goal

pub take_event-requires-clause-event : goal.take_event-requires-clause-event
take_event-requires-clause-event g c = subst (λ s. IsEventOf s c.in-Ok.e) c.shape.ensures c.in-Ok.ensures.of_shape

pub returns-in-Ok-clause-takes : goal.returns-in-Ok-clause-takes
returns-in-Ok-clause-takes g c = λ before p.
    line_by (rules_of c.args.self.now.net.bench.shape c.args.self.now.net.bench.timing c.args.self.now.net.bench.rows) c.args.line.now c.in-Ok.e
    (sym (subst (λ s. Rattle.std.specs.Prelude.Ok c.in-Ok.e ≡ event_of s c.args.line.now) c.shape.ensures c.in-Ok.ensures.event))
    _ before c.take_event.result (c.take_event.ensures.takes before p)
