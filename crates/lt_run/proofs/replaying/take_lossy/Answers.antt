use Rattle.std.proofs.Common.{refl}
use Rattle.lt_run.proofs.TakenLossy.{not_taken_lossy, taken_lossy}
use Rattle.lt_run.proofs.replaying.take_lossy.Goals as goal

pub returns-in-Ok : goal.returns-in-Ok
returns-in-Ok g c = taken_lossy _ c.args.setup.layout c.args.setup.shape c.args.setup.timing c.args.losses c.args.inputs.now.rows _ _ _ _ _ _ refl c.in-Ok.replayed c.in-Ok.ensures

pub returns-in-Err : goal.returns-in-Err
returns-in-Err g c = not_taken_lossy _ c.args.setup.layout c.args.setup.shape c.args.setup.timing c.args.losses c.args.inputs.now.rows _ _ _ _ _ _ refl c.in-Err.fault c.map.result c.map.ensures c.in-Err.ensures

pub replay_lossy-requires-clause-protocol : goal.replay_lossy-requires-clause-protocol
replay_lossy-requires-clause-protocol g c = (c.requires.paced.fits.lossy c.args.losses refl).acknowledges
