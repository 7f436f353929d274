use Rattle.std.proofs.Common.{◌∙◌, sym}
use Rattle.lt_diagram.proofs.Fitting.{fits_here, fits_later, fits_nowhere}
use Rattle.lt_diagram.proofs.scale.fitting_step.Goals as goal

pub steps-preserved : goal.steps-preserved
steps-preserved c = c.steps.invariant ∙ fits_later c.args.room c.args.breadth c.args.units c.args.steps.now c.steps.step-index c.steps-test.true (sym c.has_room.ensures ∙ c.if-has_room.false)

pub returns-then-has_room : goal.returns-then-has_room
returns-then-has_room c = sym (c.steps.invariant ∙ fits_here c.args.room c.args.breadth c.args.units c.args.steps.now c.steps.step-index c.steps-test.true (sym c.has_room.ensures ∙ c.if-has_room.true))

pub returns : goal.returns
returns c = sym (c.steps.invariant ∙ fits_nowhere c.args.room c.args.breadth c.args.units c.args.steps.now c.steps.step-index c.steps-test.false)
