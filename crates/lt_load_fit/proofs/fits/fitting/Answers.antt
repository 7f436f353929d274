use Rattle.std.proofs.Common.{Ok}
use Rattle.lt_front.specs.Checked.{examined_part}
use Rattle.lt_load_fit.specs.Fits.{placed_verdict, accepted_verdict, fitting_verdict}
use Rattle.lt_load_fit.proofs.Settled.{err_settled, stop_settled, then_settled}
use Rattle.lt_load_fit.proofs.fits.fitting.Goals as goal

pub returns-in_err-legal : goal.returns-in_err-legal
unfolding fitting_verdict
returns-in_err-legal c =
    stop_settled (placed_verdict (examined_part c.args.checked.now) c.args.setup) (λ legal. accepted_verdict legal) _ _ c.from_residual.ensures.1 c.in_err-legal.ensures

pub returns-in_err-timed : goal.returns-in_err-timed
unfolding fitting_verdict
returns-in_err-timed c =
    then_settled (placed_verdict (examined_part c.args.checked.now) c.args.setup) (λ legal. accepted_verdict legal) c.in_ok-legal.legal _ c.in_ok-legal.ensures
    (err_settled (accepted_verdict c.in_ok-legal.legal) _ _ c.from_residual-in_err-timed.ensures.1 c.in_err-timed.ensures)

pub returns : goal.returns
unfolding fitting_verdict
returns c =
    then_settled (placed_verdict (examined_part c.args.checked.now) c.args.setup) (λ legal. accepted_verdict legal) c.in_ok-legal.legal (Ok c.in_ok-timed.timed) c.in_ok-legal.ensures c.in_ok-timed.ensures
