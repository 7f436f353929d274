use Rattle.std.proofs.Common.{◌∙◌, sym}
use Rattle.lt_losing.proofs.Following.{none_due, later_due, some_due}
use Rattle.lt_losing.proofs.drawing.LossyDrawing.next.Goals as goal

pub returns-in_err-at : goal.returns-in_err-at
returns-in_err-at c s t seed d stands = c.from_residual.ensures ∙ none_due c.args.horizon _ (sym (c.first.ensures s t seed d stands) ∙ c.in_err-at.was)

pub returns-then-horizon-at : goal.returns-then-horizon-at
returns-then-horizon-at c s t seed d stands = later_due c.args.horizon _ (c.in_ok-at.at, c.in_ok-at.place) (sym (c.first.ensures s t seed d stands) ∙ c.in_ok-at.was) c.if-horizon-at.true

pub returns : goal.returns
returns c s t seed d stands = some_due c.args.horizon _ (c.in_ok-at.at, c.in_ok-at.place) (sym (c.first.ensures s t seed d stands) ∙ c.in_ok-at.was) c.if-horizon-at.false
