use Rattle.std.proofs.Common.{refl}
use Rattle.lt_run.proofs.ByCode.{not_coded}
use Rattle.lt_run.proofs.coded.replay_whole.Goals as goal

pub returns-in-Err : goal.returns-in-Err
returns-in-Err g c = not_coded _ c.args.loaded c.args.schedule.now _ _ _ refl
