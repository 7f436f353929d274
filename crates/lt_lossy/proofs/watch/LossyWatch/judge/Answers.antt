use Rattle.std.proofs.Common.{◌∙◌, Some, None, refl, sym, subst}
use Rattle.lt_lossy.specs.Times.{HasLossyTimes}
use Rattle.lt_lossy.proofs.Oldest.{oldest_of, oldest-times, plain-judged, loss-judged, too_many-same}
use Rattle.lt_lossy.proofs.watch.LossyWatch.judge.Goals as goal

pub returns-in-Some-clause-offence : goal.returns-in-Some-clause-offence
returns-in-Some-clause-offence g c s t allowed st h =
    let times = oldest-times c.self.inside.watch c.self.inside.limit c.self.inside.queues.items c.self.inside.losses.items s t allowed st (subst (λ w. HasLossyTimes w s t allowed st) (sym c.self.view_is) h) c.self.invariant.same_queues c.self.invariant.oldest in
    rw c.in-Plain.is (plain-judged s t st allowed c.in-Plain.e (Some c.in-Some.offence) (c.in-Some.ensures.offence s t (oldest_of st) times))

pub returns-in-None-clause-offence : goal.returns-in-None-clause-offence
returns-in-None-clause-offence g c s t allowed st h =
    let times = oldest-times c.self.inside.watch c.self.inside.limit c.self.inside.queues.items c.self.inside.losses.items s t allowed st (subst (λ w. HasLossyTimes w s t allowed st) (sym c.self.view_is) h) c.self.invariant.same_queues c.self.invariant.oldest in
    rw c.in-Plain.is (plain-judged s t st allowed c.in-Plain.e None (c.in-None.ensures.offence s t (oldest_of st) times))

pub returns-in-Some-at_any_time-clause-offence : goal.returns-in-Some-at_any_time-clause-offence
returns-in-Some-at_any_time-clause-offence g c s t allowed st h =
    let times = oldest-times c.self.inside.watch c.self.inside.limit c.self.inside.queues.items c.self.inside.losses.items s t allowed st (subst (λ w. HasLossyTimes w s t allowed st) (sym c.self.view_is) h) c.self.invariant.same_queues c.self.invariant.oldest in
    rw (c.in-Lose.is, ← loss-judged s t st allowed c.in-Lose.ch c.in-Lose.time c.judge-offence.result (c.judge-offence.ensures.offence s t (oldest_of st) times), ← c.in-Some-at_any_time.ensures) refl

pub returns-in-None-at_any_time-clause-offence : goal.returns-in-None-at_any_time-clause-offence
returns-in-None-at_any_time-clause-offence g c s t allowed st h =
    let has = subst (λ w. HasLossyTimes w s t allowed st) (sym c.self.view_is) h in
    let times = oldest-times c.self.inside.watch c.self.inside.limit c.self.inside.queues.items c.self.inside.losses.items s t allowed st has c.self.invariant.same_queues c.self.invariant.oldest in
    rw (c.in-Lose.is, ← loss-judged s t st allowed c.in-Lose.ch c.in-Lose.time c.judge-offence.result (c.judge-offence.ensures.offence s t (oldest_of st) times), ← c.in-None-at_any_time.ensures) (c.too_many_lost.ensures ∙ too_many-same c.args.self.now s t allowed st c.in-Lose.ch h (rw c.in-Lose.is at c.requires.place))
