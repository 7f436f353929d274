use Rattle.std.proofs.Common.{ap, ◌∙◌}
use Rattle.lt_c.specs.Uses.{calls_and}
use Rattle.lt_c_step.proofs.Calling.{next_keep}
use Rattle.lt_c_step.proofs.uses.keeps_calls.Goals as goal

pub keeps-preserved : goal.keeps-preserved
keeps-preserved c =
    next_keep c.args.ks.now c.keeps.k-index c.k-item.result c.keeps.all c.calls_and-all.result c.keeps-test.true c.k-item.is c.keeps.invariant
    (c.calls_and-all.ensures ∙ ap (calls_and c.keeps.all) c.keep_calls.ensures)
