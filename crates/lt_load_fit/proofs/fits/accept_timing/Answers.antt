use Rattle.std.proofs.Common.{refl}
use Rattle.lt_load_fit.specs.Fits.{timed_verdict}
use Rattle.lt_load_fit.proofs.fits.accept_timing.Goals as goal

pub returns-in-Ok : goal.returns-in-Ok
unfolding timed_verdict
returns-in-Ok c = (c.in-Ok.ensures, refl)
