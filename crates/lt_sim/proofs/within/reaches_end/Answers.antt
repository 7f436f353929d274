use Rattle.std.proofs.Common.{◌≡◌, ◌∙◌, ◌+◌, ℕ, ap, sym, arith, refl, Some, None, [], ◌∷◌, ◌++◌}
use Rattle.std.proofs.lemmas.List.{length_push}
use Rattle.lt_sim.specs.Drawn.{next_due, due_event}
use Rattle.lt_sim.specs.Standing.{unless_later}
use Rattle.lt_sim.proofs.Following.{follows_first, follows_on, is_due, due_timely, next_is, counts, list_longer}
use Rattle.lt_sim.proofs.within.reaches_end.Goals as goal

pub loop-number-init : goal.loop-number-init
loop-number-init c seed starts = record {
  front = [];
  size = refl;
  follows = follows_first c.args.shape.now c.args.timing.now c.args.rows seed c.args.horizon c.requires.one_place c.requires.horizon c.args.drawing.now starts;
}

pub take-requires-clause-due : goal.take-requires-clause-due
take-requires-clause-due c =
    let s = c.args.shape.now in
    let t = c.args.timing.now in
    let seed = c.requires.starts.0 in
    let p = c.loop-number.invariant seed c.requires.starts.1 in
    let is : unless_later c.args.horizon (next_due s p.follows.draw) ≡ Some (c.in-Some.at, c.in-Some.place) = sym (c.next.ensures s t seed p.follows.draw p.follows.stands) ∙ c.in-Some.is in
    is_due s t c.args.rows seed c.args.horizon c.requires.one_place c.requires.horizon c.loop-number.drawing p.front p.follows (c.in-Some.at, c.in-Some.place) is

pub take-requires-clause-time : goal.take-requires-clause-time
take-requires-clause-time c =
    let s = c.args.shape.now in
    let t = c.args.timing.now in
    let seed = c.requires.starts.0 in
    let p = c.loop-number.invariant seed c.requires.starts.1 in
    let is : unless_later c.args.horizon (next_due s p.follows.draw) ≡ Some (c.in-Some.at, c.in-Some.place) = sym (c.next.ensures s t seed p.follows.draw p.follows.stands) ∙ c.in-Some.is in
    due_timely s t c.args.rows seed c.args.horizon c.requires.one_place c.requires.horizon c.loop-number.drawing p.front p.follows (c.in-Some.at, c.in-Some.place) is

pub loop-number-preserved : goal.loop-number-preserved
loop-number-preserved c seed starts =
    let s = c.args.shape.now in
    let t = c.args.timing.now in
    let p = c.loop-number.invariant seed starts in
    let due : ℕ × ℕ = (c.in-Some.at, c.in-Some.place) in
    let is : unless_later c.args.horizon (next_due s p.follows.draw) ≡ Some due = sym (c.next.ensures s t seed p.follows.draw p.follows.stands) ∙ c.in-Some.is in
    let next = next_is s t c.args.rows seed c.args.horizon c.requires.one_place c.requires.horizon c.loop-number.drawing p.front p.follows due is in
    record {
      front = p.front ++ due_event s due ∷ [];
      size = length_push p.front (due_event s due) ∙ ap (λ n. n + 1) p.size;
      follows = follows_on s t c.args.rows seed c.args.horizon c.requires.one_place c.requires.horizon c.loop-number.drawing p.front p.follows due is c.take.new.self
          (c.take.ensures seed p.front p.follows.draw p.follows.stands p.follows.keeps next);
    }

pub returns-in-None : goal.returns-in-None
returns-in-None c seed starts =
    let s = c.args.shape.now in
    let t = c.args.timing.now in
    let p = c.loop-number.invariant seed starts in
    let is : unless_later c.args.horizon (next_due s p.follows.draw) ≡ None = sym (c.next.ensures s t seed p.follows.draw p.follows.stands) ∙ c.in-None.is in
    let whole = counts s t c.args.rows seed c.args.horizon c.requires.one_place c.requires.horizon c.loop-number.drawing p.front p.follows c.loop-number._number p.size is in
    let few = c.loop-number-test.true in
    omega (arith, whole, few)

pub returns : goal.returns
returns c seed starts =
    let s = c.args.shape.now in
    let t = c.args.timing.now in
    let p = c.loop-number.invariant seed starts in
    let low = c.loop-number-test.false in
    let size = p.size in
    let longer = list_longer s t c.args.rows seed c.args.horizon c.requires.one_place c.requires.horizon c.loop-number.drawing p.front p.follows in
    omega (arith, low, size, longer)
