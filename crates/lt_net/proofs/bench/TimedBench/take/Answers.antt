use Rattle.std.proofs.Common.{sym, subst}
use Rattle.lt_net.specs.Event.{given_row}
use Rattle.lt_net.specs.Answered.{CanTake, AnswersEvent}
use Rattle.lt_net.proofs.EndByCode.{end_answers}
use Rattle.lt_net.proofs.bench.TimedBench.take.Goals as goal

pub act-requires-clause-can : goal.act-requires-clause-can
act-requires-clause-can g c =
    subst (λ x. CanTake g.C.Controller g.M.Machine c.args.self.now x (given_row c.args.row) (g.W.Fabric.state c.args.fabric.now)) c.in-Act.is c.requires.can

pub returns-in-Act : goal.returns-in-Act
returns-in-Act g c =
    subst (λ x. AnswersEvent g.C.Controller g.M.Machine c.args.self.now c.act.new.self x (given_row c.args.row) (g.W.Fabric.state c.args.fabric.now) (g.W.Fabric.state c.act.new.fabric) c.args.steps.now c.act.new.steps c.act.result) (sym c.in-Act.is) c.act.ensures

pub deliver-requires-clause-can : goal.deliver-requires-clause-can
deliver-requires-clause-can g c =
    (given_row c.args.row, subst (λ x. CanTake g.C.Controller g.M.Machine c.args.self.now x (given_row c.args.row) (g.W.Fabric.state c.args.fabric.now)) c.in-Del.is c.requires.can)

pub returns-in-Del : goal.returns-in-Del
returns-in-Del g c =
    subst (λ x. AnswersEvent g.C.Controller g.M.Machine c.args.self.now c.deliver.new.self x (given_row c.args.row) (g.W.Fabric.state c.args.fabric.now) (g.W.Fabric.state c.deliver.new.fabric) c.args.steps.now c.deliver.new.steps c.deliver.result) (sym c.in-Del.is) (c.deliver.ensures (given_row c.args.row))

pub returns-in-End : goal.returns-in-End
returns-in-End g c =
    end_answers g.C.Controller g.M.Machine _ c.args.self.now c.self.view_is c.args.e (given_row c.args.row) (g.W.Fabric.state c.args.fabric.now) c.requires.can c.in-End.at c.in-End.is c.ended.new.self c.ended.ensures.times c.args.steps.now c.ended.new.steps c.ended.ensures.cost
