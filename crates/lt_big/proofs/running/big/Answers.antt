use Rattle.lt_big.proofs.Along.{big_run, big_refused}
use Rattle.lt_big.proofs.Plainly.{plain_loaded}
use Rattle.lt_big.proofs.Undrawn.{too_long}
use Rattle.lt_big.proofs.running.big.Goals as goal

pub returns-in_err-loaded-clause-answered : goal.returns-in_err-loaded-clause-answered
returns-in_err-loaded-clause-answered g c = big_refused c.args.instants _ _ _ c.from_residual.ensures.1 c.in_err-loaded.ensures

pub run-outputs-requires-clause-plain : goal.run-outputs-requires-clause-plain
run-outputs-requires-clause-plain g c = plain_loaded c.args.instants c.in_ok-loaded.loaded c.in_ok-loaded.ensures

pub returns-clause-answered : goal.returns-clause-answered
returns-clause-answered g c = big_run c.args.instants _ _ _ _ c.in_ok-loaded.ensures c.run-outputs.ensures.answered

pub returns-clause-untouched : goal.returns-clause-untouched
returns-clause-untouched g c e refused = c.run-outputs.ensures.untouched (too_long c.args.instants c.in_ok-loaded.loaded _ e c.in_ok-loaded.ensures refused)
