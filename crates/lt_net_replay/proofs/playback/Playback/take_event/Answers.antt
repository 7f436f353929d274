use Rattle.std.proofs.Common.{List, if◌then◌else◌, Some, None, ◌∙◌, ap}
use Rattle.lt_base.specs.declared.value.Value.{Value}
use Rattle.lt_schedule.specs.Verdict.{rules_of}
use Rattle.lt_net.specs.Event.{given_row}
use Rattle.lt_net.proofs.NextLists.{row_fits}
use Rattle.lt_net_replay.proofs.OneMore.{offence_by, free_of, plays_on}
use Rattle.lt_net_replay.proofs.Stopping.{runs_on, counted, wanted, stops, leaves}
use Rattle.lt_net_replay.proofs.playback.Playback.take_event.Goals as goal

pub event-requires-clause-row : goal.event-requires-clause-row
event-requires-clause-row g c = λ none.
    row_fits c.args.self.now.net.bench c.args.self.now.inputs.now.rows (c.requires.stands).1.plays.given c.args.e
    c.requires.event.placed (given_row c.row_if-row.result)
    (c.row_if-row.ensures ∙ ap (λ (r : List Value). if c.read_next-has.result then Some r else None) c.deref.ensures.value ∙ c.read_next-has.ensures.row)

pub stop_by-requires : goal.stop_by-requires
stop_by-requires g c = runs_on c.event.result c.in-Err.fault c.in-Err.is c.args.self.now.net.stopped (c.requires.stands).1.plays.running (λ f. (c.event.ensures.stopped f).0)

pub returns-in-Ok-clause-takes : goal.returns-in-Ok-clause-takes
returns-in-Ok-clause-takes g c = λ before p. (
  free_of g.C.Controller g.M.Machine c.args.self.now.inputs.now.rows before c.args.steps.now c.args.self.now.net (g.W.Fabric.state c.args.fabric.now) p.plays
      c.args.e c.event.result c.in-Ok.field-0 c.in-Ok.is (c.event.ensures.offence p.plays.running),
  record {
    reads = record { width_is = p.reads.width_is; room_is = c.read_next-has.ensures.room; wide = p.reads.wide };
    plays = plays_on g.C.Controller g.M.Machine c.args.self.now.inputs.now.rows before c.args.steps.now c.args.self.now.net (g.W.Fabric.state c.args.fabric.now) p.plays
        c.event.new.self (g.W.Fabric.state c.event.new.fabric) c.args.e c.requires.event.placed (given_row c.row_if-row.result)
        (c.row_if-row.ensures ∙ ap (λ (r : List Value). if c.read_next-has.result then Some r else None) c.deref.ensures.value ∙ c.read_next-has.ensures.row)
        c.in-Ok.ensures.fixed c.in-Ok.ensures.sizes c.event.new.steps c.in-Ok.ensures.running c.in-Ok.ensures.happens c.in-Ok.ensures.holds c.in-Ok.ensures.kinds c.in-Ok.ensures.keeps
        c.in-Ok.ensures.counts c.in-Ok.ensures.ticks;
  },
)

pub returns-in-Err-clause-cause : goal.returns-in-Err-clause-cause
returns-in-Err-clause-cause g c = counted c.event.result c.in-Err.fault c.stop_by.result c.in-Err.is c.stop_by.ensures _ _ c.event.ensures.link c.event.ensures.calm

pub returns-in-Err-clause-prompt : goal.returns-in-Err-clause-prompt
returns-in-Err-clause-prompt g c = λ prompt memory. c.event.ensures.prompt prompt (wanted c.event.result c.in-Err.fault c.stop_by.result c.in-Err.is c.stop_by.ensures memory)

pub returns-in-Err-clause-takes : goal.returns-in-Err-clause-takes
returns-in-Err-clause-takes g c = λ before p.
    stops c.event.result (rules_of c.args.self.now.net.bench.shape c.args.self.now.net.bench.timing c.args.self.now.net.bench.rows) before c.args.e c.in-Err.fault c.stop_by.result c.in-Err.is c.stop_by.ensures (λ o is.
    offence_by g.C.Controller g.M.Machine c.args.self.now.inputs.now.rows before c.args.steps.now c.args.self.now.net (g.W.Fabric.state c.args.fabric.now) p.plays
    c.args.e c.event.result o is (c.event.ensures.offence p.plays.running))

pub returns-in-Err-clause-leaves : goal.returns-in-Err-clause-leaves
returns-in-Err-clause-leaves g c =
    leaves c.event.result c.args.self.now.net c.event.new.self c.in-Err.fault c.stop_by.result c.in-Err.is c.stop_by.ensures c.event.ensures.same c.event.ensures.halted_link c.event.ensures.halted_memory
