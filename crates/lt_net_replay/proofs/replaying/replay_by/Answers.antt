use Rattle.lt_net_replay.proofs.Performed.{no_memory}
use Rattle.std.proofs.Common.{refl}
use Rattle.lt_net_replay.proofs.replaying.replay_by.Goals as goal

pub returns-in-Err : goal.returns-in-Err
returns-in-Err g c =
    no_memory g.M.Machine c.args.setup.layout c.args.setup.shape c.args.setup.timing c.args.inputs.now.rows c.args.schedule.now (g.F.Files.state c.args.files.now) (g.W.Fabric.state c.args.fabric.now) _ refl
