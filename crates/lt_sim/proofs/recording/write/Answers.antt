use Rattle.std.proofs.Common.{◌≡◌, ◌∙◌, ◌+◌, ◌<◌, ◌≤◌, ℕ, List, ap, sym, subst, arith, refl, lit<, Some, None, Err, [], ◌∷◌, ◌++◌, length}
use Rattle.std.specs.Prelude.{IfOk}
use Rattle.std.proofs.lemmas.List.{length_push}
use Rattle.lt_io.proofs.Keeps.{sink_trans}
use Rattle.lt_arch.specs.declared.event.Event.{Event}
use Rattle.lt_arch.specs.declared.event.Event.TheVariants.{End}
use Rattle.lt_arch.specs.Schedule.{IsEventOf}
use Rattle.lt_rows.specs.Texts.{event_text}
use Rattle.lt_sim.specs.Drawn.{next_due, due_event, drawn}
use Rattle.lt_sim.specs.File.{file_text}
use Rattle.lt_sim.specs.Recorded.{WritesPart, TakesPart}
use Rattle.lt_sim.specs.Standing.{unless_later}
use Rattle.lt_sim.proofs.Following.{follows_first, follows_on, follows_end, is_due, due_timely, next_is, is_placed, list_more, list_longer, counts}
use Rattle.lt_sim.proofs.Pages.{still_sound, unwritten}
use Rattle.lt_sim.proofs.EventPages.{event_fails, last_writes, put_event, put_first}
use Rattle.lt_schedule.proofs.Steps.{err_is}
use Rattle.lt_sim.proofs.recording.write.Goals as goal

pub loop-number-init : goal.loop-number-init
loop-number-init g c = record {
  counted = refl;
  keeps = record { sound = refl; told = refl };
  short = subst (λ (l : List ℕ). length l < 65280) (sym c.requires.page) (lit< tt);
  passed = λ seed starts. record {
    passes = record {
      front = [];
      size = refl;
      follows = follows_first c.args.shape.now c.args.timing.now c.args.rows seed c.args.horizon c.requires.one_place c.requires.horizon c.args.drawing.now starts;
    };
    put = put_first c.args.shape.now c.args.page.now (g.O.Sink.state c.args.sink.now) c.requires.page;
  };
}

pub put_row-requires-clause-event : goal.put_row-requires-clause-event
put_row-requires-clause-event g c =
    let s = c.args.shape.now in
    let t = c.args.timing.now in
    let seed = c.requires.starts.seed in
    let p = (c.loop-number.invariant.passed seed c.requires.starts.starts).passes in
    let is : unless_later c.args.horizon (next_due s p.follows.draw) ≡ Some (c.in-Some.at, c.in-Some.place) = sym (c.next.ensures s t seed p.follows.draw p.follows.stands) ∙ c.in-Some.is in
    subst (IsEventOf s) (sym c.event_at.ensures)
    (is_placed s t c.args.rows seed c.args.horizon c.requires.one_place c.requires.horizon c.loop-number.drawing p.front p.follows (c.in-Some.at, c.in-Some.place) is)

pub put_row-requires-clause-count : goal.put_row-requires-clause-count
put_row-requires-clause-count g c = let same = c.loop-number.invariant.counted in let few = c.requires.count in omega (arith, same, few)

pub write_end-requires-clause-count : goal.write_end-requires-clause-count
write_end-requires-clause-count g c = let same = c.loop-number.invariant.counted in let few = c.requires.count in omega (arith, same, few)

pub take-requires-clause-due : goal.take-requires-clause-due
take-requires-clause-due g c =
    let s = c.args.shape.now in
    let t = c.args.timing.now in
    let seed = c.requires.starts.seed in
    let p = (c.loop-number.invariant.passed seed c.requires.starts.starts).passes in
    let is : unless_later c.args.horizon (next_due s p.follows.draw) ≡ Some (c.in-Some.at, c.in-Some.place) = sym (c.next.ensures s t seed p.follows.draw p.follows.stands) ∙ c.in-Some.is in
    is_due s t c.args.rows seed c.args.horizon c.requires.one_place c.requires.horizon c.loop-number.drawing p.front p.follows (c.in-Some.at, c.in-Some.place) is

pub take-requires-clause-time : goal.take-requires-clause-time
take-requires-clause-time g c =
    let s = c.args.shape.now in
    let t = c.args.timing.now in
    let seed = c.requires.starts.seed in
    let p = (c.loop-number.invariant.passed seed c.requires.starts.starts).passes in
    let is : unless_later c.args.horizon (next_due s p.follows.draw) ≡ Some (c.in-Some.at, c.in-Some.place) = sym (c.next.ensures s t seed p.follows.draw p.follows.stands) ∙ c.in-Some.is in
    due_timely s t c.args.rows seed c.args.horizon c.requires.one_place c.requires.horizon c.loop-number.drawing p.front p.follows (c.in-Some.at, c.in-Some.place) is

pub loop-number-preserved : goal.loop-number-preserved
loop-number-preserved g c =
    let before = c.loop-number.invariant in
    let old = g.O.Sink.state c.args.sink.now in
    let now = g.O.Sink.state c.loop-number.sink in
    let next = g.O.Sink.state c.put_row.new.sink in
    record {
      counted = c.in_ok-put_row-in-Some.ensures.written.counted ∙ before.counted;
      keeps = sink_trans old now next before.keeps c.put_row.ensures.keeps;
      short = c.in_ok-put_row-in-Some.ensures.short;
      passed = λ seed starts.
          let s = c.args.shape.now in
          let t = c.args.timing.now in
          let p = (before.passed seed starts).passes in
          let put = (before.passed seed starts).put in
          let due : ℕ × ℕ = (c.in-Some.at, c.in-Some.place) in
          let is : unless_later c.args.horizon (next_due s p.follows.draw) ≡ Some due = sym (c.next.ensures s t seed p.follows.draw p.follows.stands) ∙ c.in-Some.is in
          let following = next_is s t c.args.rows seed c.args.horizon c.requires.one_place c.requires.horizon c.loop-number.drawing p.front p.follows due is in
          let part : TakesPart (event_text s (due_event s due) ++ 10 ∷ []) c.loop-number.page c.put_row.new.page now next =
          subst (λ (e : Event). TakesPart (event_text s e ++ 10 ∷ []) c.loop-number.page c.put_row.new.page now next) c.event_at.ensures c.in_ok-put_row-in-Some.ensures.written in
          record {
            passes = record {
              front = p.front ++ due_event s due ∷ [];
              size = length_push p.front (due_event s due) ∙ ap (λ n. n + 1) p.size;
              follows = follows_on s t c.args.rows seed c.args.horizon c.requires.one_place c.requires.horizon c.loop-number.drawing p.front p.follows due is c.take.new.self
                  (c.take.ensures seed p.front p.follows.draw p.follows.stands p.follows.keeps following);
            };
            put = put_event s p.front c.loop-number.page old now put before.keeps.told (due_event s due) next c.put_row.new.page part;
          };
    }

pub returns-in-None-clause-written : goal.returns-in-None-clause-written
returns-in-None-clause-written g c seed starts =
    let s = c.args.shape.now in
    let t = c.args.timing.now in
    let before = c.loop-number.invariant in
    let p = (before.passed seed starts).passes in
    let is : unless_later c.args.horizon (next_due s p.follows.draw) ≡ None = sym (c.next.ensures s t seed p.follows.draw p.follows.stands) ∙ c.in-None.is in
    last_writes s p.front c.loop-number.page (g.O.Sink.state c.args.sink.now) (g.O.Sink.state c.loop-number.sink) (before.passed seed starts).put before.keeps.told (End c.args.horizon) (drawn s t c.args.rows seed c.args.horizon)
    (g.O.Sink.state c.write_end.new.sink) c.write_end.result
    (follows_end s t c.args.rows seed c.args.horizon c.requires.one_place c.requires.horizon c.loop-number.drawing p.front p.follows is) c.write_end.ensures.written

pub returns-in-None-clause-counted : goal.returns-in-None-clause-counted
returns-in-None-clause-counted g c seed starts =
    let s = c.args.shape.now in
    let t = c.args.timing.now in
    let p = (c.loop-number.invariant.passed seed starts).passes in
    let is : unless_later c.args.horizon (next_due s p.follows.draw) ≡ None = sym (c.next.ensures s t seed p.follows.draw p.follows.stands) ∙ c.in-None.is in
    subst (λ (n : ℕ). IfOk c.write_end.result (λ count. count ≡ n))
    (counts s t c.args.rows seed c.args.horizon c.requires.one_place c.requires.horizon c.loop-number.drawing p.front p.follows c.loop-number.number p.size is) c.write_end.ensures.counted

pub returns-in-None-clause-keeps : goal.returns-in-None-clause-keeps
returns-in-None-clause-keeps g c = sink_trans (g.O.Sink.state c.args.sink.now) (g.O.Sink.state c.loop-number.sink) (g.O.Sink.state c.write_end.new.sink) c.loop-number.invariant.keeps c.write_end.ensures.keeps

pub returns-in-None-clause-sound : goal.returns-in-None-clause-sound
returns-in-None-clause-sound g c = still_sound (g.O.Sink.state c.args.sink.now) (g.O.Sink.state c.loop-number.sink) (g.O.Sink.state c.write_end.new.sink) c.loop-number.invariant.keeps c.loop-number.invariant.counted c.write_end.ensures.sound

pub returns-in_err-put_row-in-Some-clause-written : goal.returns-in_err-put_row-in-Some-clause-written
returns-in_err-put_row-in-Some-clause-written g c seed starts =
    let s = c.args.shape.now in
    let t = c.args.timing.now in
    let before = c.loop-number.invariant in
    let old = g.O.Sink.state c.args.sink.now in
    let now = g.O.Sink.state c.loop-number.sink in
    let next = g.O.Sink.state c.put_row.new.sink in
    let p = (before.passed seed starts).passes in
    let due : ℕ × ℕ = (c.in-Some.at, c.in-Some.place) in
    let is : unless_later c.args.horizon (next_due s p.follows.draw) ≡ Some due = sym (c.next.ensures s t seed p.follows.draw p.follows.stands) ∙ c.in-Some.is in
    let more = list_more s t c.args.rows seed c.args.horizon c.requires.one_place c.requires.horizon c.loop-number.drawing p.front p.follows due is in
    let fault = c.in_err-put_row-in-Some.field-0.0 in
    let fails : WritesPart (event_text s (due_event s due) ++ 10 ∷ []) c.loop-number.page c.put_row.new.page now next (Err fault) =
    subst (λ (e : Event). WritesPart (event_text s e ++ 10 ∷ []) c.loop-number.page c.put_row.new.page now next (Err fault)) c.event_at.ensures c.in_err-put_row-in-Some.ensures.written in
    rw (err_is _ _ c.from_residual.ensures.1)
    (unwritten ℕ (file_text s (drawn s t c.args.rows seed c.args.horizon)) old next fault
    (event_fails s p.front c.loop-number.page old now (before.passed seed starts).put before.keeps.told (due_event s due) (drawn s t c.args.rows seed c.args.horizon) next fault more.0 c.put_row.new.page more.1 fails))

pub returns-in_err-put_row-in-Some-clause-keeps : goal.returns-in_err-put_row-in-Some-clause-keeps
returns-in_err-put_row-in-Some-clause-keeps g c = sink_trans (g.O.Sink.state c.args.sink.now) (g.O.Sink.state c.loop-number.sink) (g.O.Sink.state c.put_row.new.sink) c.loop-number.invariant.keeps c.put_row.ensures.keeps

pub returns-in_err-put_row-in-Some-clause-sound : goal.returns-in_err-put_row-in-Some-clause-sound
returns-in_err-put_row-in-Some-clause-sound g c = still_sound (g.O.Sink.state c.args.sink.now) (g.O.Sink.state c.loop-number.sink) (g.O.Sink.state c.put_row.new.sink) c.loop-number.invariant.keeps c.loop-number.invariant.counted c.put_row.ensures.sound

pub unreachable-requires : goal.unreachable-requires
unreachable-requires g c =
    let s = c.args.shape.now in
    let t = c.args.timing.now in
    let seed = c.requires.starts.seed in
    let p = (c.loop-number.invariant.passed seed c.requires.starts.starts).passes in
    let past = c.loop-number-test.false in
    let size = p.size in
    let few : length (drawn s t c.args.rows seed c.args.horizon) ≤ 5000000 = c.requires.starts.few in
    let longer = list_longer s t c.args.rows seed c.args.horizon c.requires.one_place c.requires.horizon c.loop-number.drawing p.front p.follows in
    omega (arith, past, size, few, longer)
