use Rattle.lt_load_fit.specs.Fits.{timed_verdict, windowed_verdict, accepted_verdict}
use Rattle.lt_load_fit.proofs.Settled.{stop_settled, then_settled}
use Rattle.lt_load_fit.proofs.fits.accept_setup.Goals as goal

pub returns-in_err-timed : goal.returns-in_err-timed
unfolding accepted_verdict
returns-in_err-timed c = stop_settled (timed_verdict c.args.setup) (λ timed. windowed_verdict timed) _ _ c.from_residual.ensures.1 c.in_err-timed.ensures

pub returns : goal.returns
unfolding accepted_verdict
returns c = then_settled (timed_verdict c.args.setup) (λ timed. windowed_verdict timed) c.in_ok-timed.timed c.accept_window.result c.in_ok-timed.ensures c.accept_window.ensures.settles
