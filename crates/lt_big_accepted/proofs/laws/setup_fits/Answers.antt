use Rattle.lt_big_accepted.proofs.Seats.{setup_fits}
use Rattle.lt_big_accepted.proofs.laws.setup_fits.Goals as goal

pub returns : goal.returns
returns c = setup_fits
