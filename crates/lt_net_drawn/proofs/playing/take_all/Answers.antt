use Rattle.std.proofs.Common.{◌≡◌, ◌∙◌, ◌+◌, ◌<◌, ◌≤◌, ℕ, List, ap, sym, subst, arith, refl, Some, None, [], ◌∷◌, ◌++◌, length}
use Rattle.std.proofs.lemmas.List.{length_push}
use Rattle.lt_arch.specs.declared.event.Event.{Event}
use Rattle.lt_arch.specs.declared.event.Event.TheVariants.{End}
use Rattle.lt_arch.specs.Schedule.{IsEventOf}
use Rattle.lt_sim.specs.Drawn.{next_due, due_event, drawn}
use Rattle.lt_sim.specs.Standing.{unless_later}
use Rattle.lt_sim.proofs.Ending.{drawn-sound}
use Rattle.lt_sim.proofs.Following.{follows_first, follows_on, follows_end, is_due, due_timely, next_is, is_placed, list_more, list_longer}
use Rattle.std.specs.Prelude.{OnOk}
use Rattle.lt_io.specs.Counts.{LinkCounted}
use Rattle.lt_net_replay.specs.Keeping.{keeps_itself, keeps_on}
use Rattle.lt_net_replay.specs.Playing.{PlaysFor}
use Rattle.lt_net_drawn.specs.Listed.{IsFree}
use Rattle.lt_net_drawn.proofs.Free.{next_free}
use Rattle.lt_net_drawn.proofs.Takes.{still_of, event_there, counts_on, not_ok}
use Rattle.lt_net_drawn.proofs.playing.take_all.Goals as goal

pub loop-number-init : goal.loop-number-init
loop-number-init g c = record {
  counted = refl;
  keeps = keeps_itself g.M.Machine.size c.args.playback.now.net c.args.playback.now.inputs.now.rows (g.W.Fabric.state c.args.fabric.now);
  stands = λ seed starts. record {
    front = [];
    size = refl;
    follows = follows_first c.args.shape.now c.args.timing.now c.args.rows seed c.args.horizon c.requires.one_place c.requires.horizon c.args.drawing.now starts;
    plays = c.requires.ready;
  };
}

pub take-requires-clause-event : goal.take-requires-clause-event
take-requires-clause-event g c =
    let s = c.args.shape.now in
    let t = c.args.timing.now in
    let seed = c.requires.starts.seed in
    let p = c.loop-number.invariant.stands seed c.requires.starts.starts in
    let is : unless_later c.args.horizon (next_due s p.follows.draw) ≡ Some (c.in-Some.at, c.in-Some.place) = sym (c.next.ensures s t seed p.follows.draw p.follows.stands) ∙ c.in-Some.is in
    let same = still_of g.M.Machine.size s t c.args.rows c.args.playback.now c.loop-number.playback _ _ c.requires.same c.loop-number.invariant.keeps in
    event_there s t c.args.rows c.loop-number.playback same c.event_at.result
    (subst (IsEventOf s) (sym c.event_at.ensures)
    (is_placed s t c.args.rows seed c.args.horizon c.requires.one_place c.requires.horizon c.loop-number.drawing p.front p.follows (c.in-Some.at, c.in-Some.place) is))

pub take-requires-clause-count : goal.take-requires-clause-count
take-requires-clause-count g c = let same = c.loop-number.invariant.counted in let few = c.requires.count in omega (arith, same, few)

pub take-requires-clause-free : goal.take-requires-clause-free
take-requires-clause-free g c =
    let s = c.args.shape.now in
    let t = c.args.timing.now in
    let seed = c.requires.starts.seed in
    let p = c.loop-number.invariant.stands seed c.requires.starts.starts in
    let is : unless_later c.args.horizon (next_due s p.follows.draw) ≡ Some (c.in-Some.at, c.in-Some.place) = sym (c.next.ensures s t seed p.follows.draw p.follows.stands) ∙ c.in-Some.is in
    let same = still_of g.M.Machine.size s t c.args.rows c.args.playback.now c.loop-number.playback _ _ c.requires.same c.loop-number.invariant.keeps in
    let more = list_more s t c.args.rows seed c.args.horizon c.requires.one_place c.requires.horizon c.loop-number.drawing p.front p.follows (c.in-Some.at, c.in-Some.place) is in (
      p.front,
      p.plays,
      subst (λ (e : Event). IsFree c.loop-number.playback.net.bench p.front e) (sym c.event_at.ensures)
          (next_free s t c.args.rows c.loop-number.playback.net.bench same (drawn s t c.args.rows seed c.args.horizon) p.front (due_event s (c.in-Some.at, c.in-Some.place)) more.0
          (drawn-sound s t c.args.rows seed c.args.horizon c.requires.one_place c.requires.horizon).admissible more.1),
    )

pub take-requires-in-Some-clause-due : goal.take-requires-in-Some-clause-due
take-requires-in-Some-clause-due g c =
    let s = c.args.shape.now in
    let t = c.args.timing.now in
    let seed = c.requires.starts.seed in
    let p = c.loop-number.invariant.stands seed c.requires.starts.starts in
    let is : unless_later c.args.horizon (next_due s p.follows.draw) ≡ Some (c.in-Some.at, c.in-Some.place) = sym (c.next.ensures s t seed p.follows.draw p.follows.stands) ∙ c.in-Some.is in
    is_due s t c.args.rows seed c.args.horizon c.requires.one_place c.requires.horizon c.loop-number.drawing p.front p.follows (c.in-Some.at, c.in-Some.place) is

pub take-requires-in-Some-clause-time : goal.take-requires-in-Some-clause-time
take-requires-in-Some-clause-time g c =
    let s = c.args.shape.now in
    let t = c.args.timing.now in
    let seed = c.requires.starts.seed in
    let p = c.loop-number.invariant.stands seed c.requires.starts.starts in
    let is : unless_later c.args.horizon (next_due s p.follows.draw) ≡ Some (c.in-Some.at, c.in-Some.place) = sym (c.next.ensures s t seed p.follows.draw p.follows.stands) ∙ c.in-Some.is in
    due_timely s t c.args.rows seed c.args.horizon c.requires.one_place c.requires.horizon c.loop-number.drawing p.front p.follows (c.in-Some.at, c.in-Some.place) is

pub unreachable-requires : goal.unreachable-requires
unreachable-requires g c =
    let s = c.args.shape.now in
    let t = c.args.timing.now in
    let seed = c.requires.starts.seed in
    let p = c.loop-number.invariant.stands seed c.requires.starts.starts in
    let past = c.loop-number-test.false in
    let size = p.size in
    let few : length (drawn s t c.args.rows seed c.args.horizon) ≤ 5000000 = c.requires.starts.few in
    let longer = list_longer s t c.args.rows seed c.args.horizon c.requires.one_place c.requires.horizon c.loop-number.drawing p.front p.follows in
    omega (arith, past, size, few, longer)

pub take-requires-in-None-clause-event : goal.take-requires-in-None-clause-event
take-requires-in-None-clause-event g c = record { placed = tt; timely = c.requires.horizon }

pub take-requires-in-None-clause-count : goal.take-requires-in-None-clause-count
take-requires-in-None-clause-count g c = let same = c.loop-number.invariant.counted in let few = c.requires.count in omega (arith, same, few)

pub take-requires-in-None-clause-free : goal.take-requires-in-None-clause-free
take-requires-in-None-clause-free g c =
    let s = c.args.shape.now in
    let t = c.args.timing.now in
    let seed = c.requires.starts.seed in
    let p = c.loop-number.invariant.stands seed c.requires.starts.starts in
    let is : unless_later c.args.horizon (next_due s p.follows.draw) ≡ None = sym (c.next.ensures s t seed p.follows.draw p.follows.stands) ∙ c.in-None.is in
    let same = still_of g.M.Machine.size s t c.args.rows c.args.playback.now c.loop-number.playback _ _ c.requires.same c.loop-number.invariant.keeps in (
      p.front,
      p.plays,
      next_free s t c.args.rows c.loop-number.playback.net.bench same (drawn s t c.args.rows seed c.args.horizon) p.front (End c.args.horizon) []
          (drawn-sound s t c.args.rows seed c.args.horizon c.requires.one_place c.requires.horizon).admissible
          (follows_end s t c.args.rows seed c.args.horizon c.requires.one_place c.requires.horizon c.loop-number.drawing p.front p.follows is),
    )

pub loop-number-preserved : goal.loop-number-preserved
loop-number-preserved g c =
    let before = c.loop-number.invariant in
    let next = g.W.Fabric.state c.take.new.fabric in
    record {
      counted = c.in_ok-take-in-Some.ensures.cause ∙ before.counted;
      keeps = keeps_on g.M.Machine.size c.args.playback.now.net c.loop-number.playback.net c.take.new.playback.net _ _ _ (g.W.Fabric.state c.args.fabric.now) (g.W.Fabric.state c.loop-number.fabric) next before.keeps c.take.ensures.keeps;
      stands = λ seed starts.
          let s = c.args.shape.now in
          let t = c.args.timing.now in
          let p = before.stands seed starts in
          let due : ℕ × ℕ = (c.in-Some.at, c.in-Some.place) in
          let is : unless_later c.args.horizon (next_due s p.follows.draw) ≡ Some due = sym (c.next.ensures s t seed p.follows.draw p.follows.stands) ∙ c.in-Some.is in
          let following = next_is s t c.args.rows seed c.args.horizon c.requires.one_place c.requires.horizon c.loop-number.drawing p.front p.follows due is in
          record {
            front = p.front ++ due_event s due ∷ [];
            size = length_push p.front (due_event s due) ∙ ap (λ n. n + 1) p.size;
            follows = follows_on s t c.args.rows seed c.args.horizon c.requires.one_place c.requires.horizon c.loop-number.drawing p.front p.follows due is c.take-in-Some.new.self
                (c.take-in-Some.ensures seed p.front p.follows.draw p.follows.stands p.follows.keeps following);
            plays = subst (λ (e : Event). PlaysFor g.C.Controller g.M.Machine c.take.new.playback c.take.new.steps next (p.front ++ e ∷ [])) c.event_at.ensures (c.in_ok-take-in-Some.ensures.takes p.front p.plays);
          };
    }

pub returns-in-None-clause-cause : goal.returns-in-None-clause-cause
returns-in-None-clause-cause g c =
    subst (λ (n : ℕ). LinkCounted n (g.W.Fabric.state c.take-in-None.new.fabric).faults c.take-in-None.result) c.loop-number.invariant.counted c.take-in-None.ensures.cause

pub returns-in-None-clause-keeps : goal.returns-in-None-clause-keeps
returns-in-None-clause-keeps g c =
    keeps_on g.M.Machine.size c.args.playback.now.net c.loop-number.playback.net c.take-in-None.new.playback.net _ _ _ (g.W.Fabric.state c.args.fabric.now) (g.W.Fabric.state c.loop-number.fabric) (g.W.Fabric.state c.take-in-None.new.fabric)
    c.loop-number.invariant.keeps c.take-in-None.ensures.keeps

pub returns-in-None-clause-takes : goal.returns-in-None-clause-takes
returns-in-None-clause-takes g c = λ seed starts.
    let s = c.args.shape.now in
    let t = c.args.timing.now in
    let p = c.loop-number.invariant.stands seed starts in
    let is : unless_later c.args.horizon (next_due s p.follows.draw) ≡ None = sym (c.next.ensures s t seed p.follows.draw p.follows.stands) ∙ c.in-None.is in
    subst (λ (es : List Event). OnOk c.take-in-None.result (PlaysFor g.C.Controller g.M.Machine c.take-in-None.new.playback c.take-in-None.new.steps (g.W.Fabric.state c.take-in-None.new.fabric) es))
    (sym (follows_end s t c.args.rows seed c.args.horizon c.requires.one_place c.requires.horizon c.loop-number.drawing p.front p.follows is)) (c.take-in-None.ensures.takes p.front p.plays)

pub returns-in_err-take-in-Some-clause-cause : goal.returns-in_err-take-in-Some-clause-cause
returns-in_err-take-in-Some-clause-cause g c = counts_on c.from_residual.result _ c.from_residual.ensures.1 _ _ _ c.loop-number.invariant.counted c.in_err-take-in-Some.ensures.cause

pub returns-in_err-take-in-Some-clause-keeps : goal.returns-in_err-take-in-Some-clause-keeps
returns-in_err-take-in-Some-clause-keeps g c =
    keeps_on g.M.Machine.size c.args.playback.now.net c.loop-number.playback.net c.take.new.playback.net _ _ _ (g.W.Fabric.state c.args.fabric.now) (g.W.Fabric.state c.loop-number.fabric) (g.W.Fabric.state c.take.new.fabric)
    c.loop-number.invariant.keeps c.take.ensures.keeps

pub returns-in_err-take-in-Some-clause-takes : goal.returns-in_err-take-in-Some-clause-takes
returns-in_err-take-in-Some-clause-takes g c = λ seed starts. not_ok _ c.from_residual.result _ c.from_residual.ensures.1
