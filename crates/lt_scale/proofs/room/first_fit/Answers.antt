use Rattle.std.proofs.Common.{sym, ◌∙◌, arith}
use Rattle.lt_scale.proofs.Fitting.{fit_here, fit_later, fit_end}
use Rattle.lt_scale.proofs.room.first_fit.Goals as goal

pub steps-preserved : goal.steps-preserved
steps-preserved c =
    sym (fit_later c.args.chart.now c.args.room c.args.steps.now c.steps.step-index c.steps-test.true (sym c.if-step_fits.ensures)) ∙ c.steps.invariant

pub returns-then-step_fits : goal.returns-then-step_fits
returns-then-step_fits c =
    sym (fit_here c.args.chart.now c.args.room c.args.steps.now c.steps.step-index c.steps-test.true (sym c.if-step_fits.ensures)) ∙ c.steps.invariant

pub returns : goal.returns
returns c = sym (fit_end c.args.chart.now c.args.room c.args.steps.now c.steps.step-index (omega arith)) ∙ c.steps.invariant
