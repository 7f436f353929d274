use Rattle.std.proofs.Common.{◌≡◌, List, if◌then◌else◌, Some, None, Ok, sym, ◌∙◌, ap, subst}
use Rattle.lt_base.specs.declared.value.Value.{Value}
use Rattle.lt_lossy.specs.Events.{IsLossyPlacedIn, lossy_event_of}
use Rattle.lt_net.specs.Event.{given_row}
use Rattle.lt_net_lossy.specs.Rules.{lossy_rules_of}
use Rattle.lt_net_lossy.proofs.NextLists.{row_fits}
use Rattle.lt_net_lossy.proofs.LossyOneMore.{offence_by, free_of, plays_on}
use Rattle.lt_net_lossy.proofs.LossyStopping.{runs_on, counted, stops, leaves}
use Rattle.lt_net_lossy.proofs.replay.playback.LossyPlaybackReplica.take_line.Goals as goal

pub event-requires-clause-row : goal.event-requires-clause-row
event-requires-clause-row g c = λ none.
    row_fits c.args.self.now.net.bench c.args.self.now.inputs.now.rows (c.requires.stands).1.plays.fed c.in-Ok.e
    (subst (λ s. IsLossyPlacedIn s c.in-Ok.e) c.shape.ensures c.in-Ok.ensures.of_shape.placed) (given_row c.row_if-row.result)
    (c.row_if-row.ensures ∙ ap (λ (r : List Value). if c.read_next-has.result then Some r else None) c.deref.ensures.value ∙ c.read_next-has.ensures.row)

pub stop_by-requires : goal.stop_by-requires
stop_by-requires g c = runs_on c.event.result c.in-Err-event.fault c.in-Err-event.is c.args.self.now.net.stopped (c.requires.stands).1.plays.running (λ f. (c.event.ensures.stopped f).0)

pub returns-in-Ok-event-clause-takes : goal.returns-in-Ok-event-clause-takes
returns-in-Ok-event-clause-takes g c = λ before p.
    let there : IsLossyPlacedIn c.args.self.now.net.bench.shape c.in-Ok.e = subst (λ s. IsLossyPlacedIn s c.in-Ok.e) c.shape.ensures c.in-Ok.ensures.of_shape.placed in
    record {
      event = c.in-Ok.e;
      reads = sym (subst (λ s. Ok c.in-Ok.e ≡ lossy_event_of s c.args.line.now) c.shape.ensures c.in-Ok.ensures.event);
      free = free_of _ g.M.Machine c.args.self.now.inputs.now.rows before c.args.self.now.net (g.W.Fabric.state c.args.outside.now) p.plays
          c.in-Ok.e c.event.result c.in-Ok-event.field-0 c.in-Ok-event.is (c.event.ensures.offence p.plays.running);
      stands_on = record {
        reads = record { width_is = p.reads.width_is; room_is = c.read_next-has.ensures.room; wide = p.reads.wide };
        plays = plays_on _ g.M.Machine c.args.self.now.inputs.now.rows before c.args.self.now.net (g.W.Fabric.state c.args.outside.now) p.plays
            c.event.new.self (g.W.Fabric.state c.event.new.fabric) c.in-Ok.e there (given_row c.row_if-row.result)
            (c.row_if-row.ensures ∙ ap (λ (r : List Value). if c.read_next-has.result then Some r else None) c.deref.ensures.value ∙ c.read_next-has.ensures.row)
            c.in-Ok-event.ensures.happens c.in-Ok-event.ensures.running c.in-Ok-event.ensures.kinds c.in-Ok-event.ensures.keeps c.in-Ok-event.ensures.counts;
      };
    }

pub returns-in-Err-event-clause-cause : goal.returns-in-Err-event-clause-cause
returns-in-Err-event-clause-cause g c = counted c.event.result c.in-Err-event.fault c.stop_by.result c.in-Err-event.is c.stop_by.ensures _ _ c.event.ensures.link c.event.ensures.calm

pub returns-in-Err-event-clause-takes : goal.returns-in-Err-event-clause-takes
returns-in-Err-event-clause-takes g c = λ before p.
    stops c.event.result (lossy_rules_of c.args.self.now.net.bench.shape c.args.self.now.net.bench.timing c.args.self.now.net.bench.watch.limit c.args.self.now.net.bench.rows) c.args.line.now before c.in-Err-event.fault c.stop_by.result c.in-Err-event.is c.stop_by.ensures (λ o is. (
      c.in-Ok.e,
      sym (subst (λ s. Ok c.in-Ok.e ≡ lossy_event_of s c.args.line.now) c.shape.ensures c.in-Ok.ensures.event),
      offence_by _ g.M.Machine c.args.self.now.inputs.now.rows before c.args.self.now.net (g.W.Fabric.state c.args.outside.now) p.plays
          c.in-Ok.e c.event.result o is (c.event.ensures.offence p.plays.running),
    ))

pub returns-in-Err-event-clause-leaves : goal.returns-in-Err-event-clause-leaves
returns-in-Err-event-clause-leaves g c =
    leaves c.event.result c.args.self.now.net c.event.new.self c.in-Err-event.fault c.stop_by.result c.in-Err-event.is c.stop_by.ensures c.event.ensures.same c.event.ensures.halted_link c.event.ensures.halted_memory
