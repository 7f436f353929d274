use Rattle.std.proofs.Common.{◌≡◌, ◌<◌, ◌≤◌, Bool, true, subst, arith}
use Rattle.lt_big.specs.Stage.{TellsFew}
use Rattle.lt_big.proofs.Along.{refused_along, uncounted}
use Rattle.lt_big.proofs.running.run.Goals as goal

pub returns-in_err-few-clause-answered : goal.returns-in_err-few-clause-answered
returns-in_err-few-clause-answered g c = uncounted c.args.instants c.args.loaded.now _ c.from_residual.result c.from_residual.ensures.1

pub play-requires-clause-few : goal.play-requires-clause-few
play-requires-clause-few g c = subst (λ (b : Bool). TellsFew c.args.instants c.args.loaded.now b) c.if-few.true c.in_ok-few.ensures

pub returns-else-few-clause-answered : goal.returns-else-few-clause-answered
returns-else-few-clause-answered g c = refused_along c.args.instants c.args.loaded.now _ c.too_many_events.result (subst (λ (b : Bool). TellsFew c.args.instants c.args.loaded.now b) c.if-few.false c.in_ok-few.ensures) c.too_many_events.ensures

pub returns-then-few-clause-untouched : goal.returns-then-few-clause-untouched
returns-then-few-clause-untouched g c long =
    let few : TellsFew c.args.instants c.args.loaded.now true = subst (λ (b : Bool). TellsFew c.args.instants c.args.loaded.now b) c.if-few.true c.in_ok-few.ensures in
    absurd (omega (arith, few, long))
