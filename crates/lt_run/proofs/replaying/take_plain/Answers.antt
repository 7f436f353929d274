use Rattle.lt_run.proofs.Taken.{not_taken, taken}
use Rattle.lt_run.proofs.replaying.take_plain.Goals as goal

pub returns-in-Ok : goal.returns-in-Ok
returns-in-Ok g c = taken _ c.args.setup.layout c.args.setup.shape c.args.setup.timing c.args.inputs.now.rows _ _ _ _ _ c.args.pace c.requires.lossless c.in-Ok.replayed c.in-Ok.ensures

pub returns-in-Err : goal.returns-in-Err
returns-in-Err g c = not_taken _ c.args.setup.layout c.args.setup.shape c.args.setup.timing c.args.inputs.now.rows _ _ _ _ _ c.args.pace c.requires.lossless c.in-Err.fault c.map.result c.map.ensures c.in-Err.ensures
