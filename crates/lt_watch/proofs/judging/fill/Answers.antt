use Rattle.std.proofs.Common.{◌∙◌, arith}
use Rattle.lt_watch.proofs.Cells.{same_values}
use Rattle.lt_watch.proofs.judging.fill.Goals as goal

pub returns : goal.returns
returns c = same_values c.args.outs.now c.args.cells.now c.args.instant c.outs.row (c.outs.auto.row ∙ c.requires) (λ j low. c.outs.invariant j (omega (arith, low, c.outs-test.false)))
