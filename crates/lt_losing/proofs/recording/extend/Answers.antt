use Rattle.std.proofs.Common.{◌≡◌, ◌+◌, ◌∙◌, ℕ, List, length, ap, sym, arith, Some, None}
use Rattle.std.proofs.lemmas.List.{length_push}
use Rattle.lt_lossy.specs.declared.event.LossyEvent.{LossyEvent}
use Rattle.lt_sim.specs.Standing.{unless_later}
use Rattle.lt_losing.specs.Losing.{next_lossy_due}
use Rattle.lt_losing.proofs.Following.{follows_first, next_is, due_timely, is_due, follows_on, whole_ends, whole_not}
use Rattle.lt_losing.proofs.recording.extend.Goals as goal

pub loop-number-init : goal.loop-number-init
loop-number-init c = record {
  size = ap (λ (es : List LossyEvent). length es) c.requires.empty;
  follows = λ seed starts. follows_first c.args.shape.now c.args.timing.now c.args.limit c.args.rows c.args.rate seed c.args.horizon c.requires.horizon c.args.drawing.now c.args.events.now.items c.requires.empty starts;
}

pub take-requires-clause-due : goal.take-requires-clause-due
take-requires-clause-due c =
    let s = c.args.shape.now in
    let t = c.args.timing.now in
    let seed = c.requires.starts.0 in
    let h = c.loop-number.invariant.follows seed c.requires.starts.1 in
    let is : unless_later c.args.horizon (next_lossy_due s h.draw) ≡ Some (c.in-Some.at, c.in-Some.place) = sym (c.next.ensures s t seed h.draw h.stands) ∙ c.in-Some.is in
    is_due s t c.args.limit c.args.rows c.args.rate seed c.args.horizon c.requires.horizon c.loop-number.drawing c.loop-number.events.items h (c.in-Some.at, c.in-Some.place) is

pub take-requires-clause-time : goal.take-requires-clause-time
take-requires-clause-time c =
    let s = c.args.shape.now in
    let t = c.args.timing.now in
    let seed = c.requires.starts.0 in
    let h = c.loop-number.invariant.follows seed c.requires.starts.1 in
    let is : unless_later c.args.horizon (next_lossy_due s h.draw) ≡ Some (c.in-Some.at, c.in-Some.place) = sym (c.next.ensures s t seed h.draw h.stands) ∙ c.in-Some.is in
    due_timely s t c.args.limit c.args.rows c.args.rate seed c.args.horizon c.requires.horizon c.loop-number.drawing c.loop-number.events.items h (c.in-Some.at, c.in-Some.place) is

pub loop-number-preserved : goal.loop-number-preserved
loop-number-preserved c =
    let s = c.args.shape.now in
    let t = c.args.timing.now in
    let items = c.loop-number.events.items in
    let e = c.in_ok-e-in-Some.e in
    record {
      size = ap (λ (es : List LossyEvent). length es) c.in_ok-push-in-Some.ensures.items ∙ (length_push items e ∙ ap (λ n. n + 1) c.loop-number.invariant.size);
      follows = λ seed starts.
          let h = c.loop-number.invariant.follows seed starts in
          let due : ℕ × ℕ = (c.in-Some.at, c.in-Some.place) in
          let is : unless_later c.args.horizon (next_lossy_due s h.draw) ≡ Some due = sym (c.next.ensures s t seed h.draw h.stands) ∙ c.in-Some.is in
          let next = next_is s t c.args.limit c.args.rows c.args.rate seed c.args.horizon c.requires.horizon c.loop-number.drawing items h due is in
          follows_on s t c.args.limit c.args.rows c.args.rate seed c.args.horizon c.requires.horizon c.loop-number.drawing items h due is c.take.new.self e c.push.new.self.items
          (c.in_ok-e-in-Some.ensures.event seed h.draw h.stands next) c.in_ok-push-in-Some.ensures.items (c.in_ok-e-in-Some.ensures.stands seed h.draw h.stands h.upcoming next);
    }

pub returns-in-None : goal.returns-in-None
returns-in-None c seed starts =
    let s = c.args.shape.now in
    let t = c.args.timing.now in
    let h = c.loop-number.invariant.follows seed starts in
    let is : unless_later c.args.horizon (next_lossy_due s h.draw) ≡ None = sym (c.next.ensures s t seed h.draw h.stands) ∙ c.in-None.is in
    whole_ends s t c.args.limit c.args.rows c.args.rate seed c.args.horizon c.requires.horizon c.loop-number.drawing c.loop-number.events.items h c.loop-number._number c.push-in-None.new.self.items
    c.loop-number.invariant.size c.loop-number-test.true is c.in_ok-push-in-None.ensures.items

pub returns : goal.returns
returns c seed starts =
    let h = c.loop-number.invariant.follows seed starts in
    let size = c.loop-number.invariant.size in
    let low = c.loop-number-test.false in
    let high = c.loop-number.auto._number-end in
    whole_not c.args.shape.now c.args.timing.now c.args.limit c.args.rows c.args.rate seed c.args.horizon c.requires.horizon c.loop-number.drawing c.loop-number.events.items h c.loop-number.events.items (omega (arith, size, low, high))
