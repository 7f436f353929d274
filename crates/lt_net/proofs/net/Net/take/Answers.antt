use Rattle.std.proofs.Common.{sym, ap, subst, ◌∙◌}
use Rattle.lt_arch.specs.Times.{Times, HasTimes}
use Rattle.lt_net.specs.Event.{given_row}
use Rattle.lt_net.proofs.JudgedByCode.{taking, refuses, answers_now}
use Rattle.lt_net.proofs.net.Net.take.Goals as goal

pub returns-in-Some : goal.returns-in-Some
returns-in-Some g c =
    refuses g.C.Controller g.M.Machine c.self.inside.bench c.self.inside.stopped c.args.self.now c.self.view_is (ap (λ z. z.stopped) c.self.view_is ∙ c.requires.running) c.self.invariant c.args.e (given_row c.args.row) (g.W.Fabric.state c.args.fabric.now) c.args.steps.now c.judge.new.steps c.judge.ensures.cost
    c.in-Some.offence (λ s t st times. sym c.in-Some.is ∙ c.judge.ensures.offence s t st (subst (λ (w : Times). HasTimes w s t st) (sym (ap (λ z. z.bench.watch) c.self-inside.view_is)) times))

pub take-answer-requires-clause-can : goal.take-answer-requires-clause-can
take-answer-requires-clause-can g c =
    taking g.C.Controller g.M.Machine c.self.inside.bench c.self.inside.stopped c.args.self.now c.self.view_is (ap (λ z. z.stopped) c.self.view_is ∙ c.requires.running) c.self.invariant c.args.e (given_row c.args.row) (g.W.Fabric.state c.args.fabric.now) c.args.steps.now c.judge.new.steps c.judge.ensures.cost
    c.requires.event c.requires.kinds c.requires.holds c.requires.row (λ s t st times. sym (c.judge.ensures.offence s t st (subst (λ (w : Times). HasTimes w s t st) (sym (ap (λ z. z.bench.watch) c.self-inside.view_is)) times)) ∙ c.in_default.is)

pub returns : goal.returns
returns g c =
    answers_now g.C.Controller g.M.Machine c.self.inside.bench c.self.inside.stopped c.args.self.now c.self.view_is (ap (λ z. z.stopped) c.self.view_is ∙ c.requires.running) c.self.invariant c.args.e (given_row c.args.row) (g.W.Fabric.state c.args.fabric.now) c.args.steps.now c.judge.new.steps c.judge.ensures.cost
    (λ s t st times. sym (c.judge.ensures.offence s t st (subst (λ (w : Times). HasTimes w s t st) (sym (ap (λ z. z.bench.watch) c.self-inside.view_is)) times)) ∙ c.in_default.is) c.requires.kinds c.take-answer.new.self (g.W.Fabric.state c.take-answer.new.fabric) c.take-answer.new.steps c.take-answer.result c.take-answer.ensures _ c.stop_by.ensures.stopped _ c.stop_by.ensures.answer
