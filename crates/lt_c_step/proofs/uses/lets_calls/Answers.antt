use Rattle.std.proofs.Common.{ap, ◌∙◌}
use Rattle.lt_c.specs.Uses.{calls_and}
use Rattle.lt_c_step.proofs.Calling.{next_let}
use Rattle.lt_c_step.proofs.uses.lets_calls.Goals as goal

pub lets-preserved : goal.lets-preserved
lets-preserved c =
    next_let c.args.ls.now c.lets.l-index c.l-item.result c.lets.all c.calls_and-all.result c.lets-test.true c.l-item.is c.lets.invariant
    (c.calls_and-all.ensures ∙ ap (calls_and c.lets.all) c.let_calls.ensures)
