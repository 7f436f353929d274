use Rattle.lt_net_replay.proofs.Performed.{no_memory}
use Rattle.std.proofs.Common.{length, refl}
use Rattle.lt_net_replay.proofs.replaying.replay.Goals as goal

pub replay_by-requires-clause-sound : goal.replay_by-requires-clause-sound
replay_by-requires-clause-sound g c =
    c.networks_are_sound.ensures c.requires.placed.0 c.args.setup.layout c.args.setup.shape c.args.setup.timing (length c.args.inputs.now.rows) c.requires.placed.1 c.requires.paced c.requires.timed c.requires.accepted

pub returns-in-Err : goal.returns-in-Err
returns-in-Err g c =
    no_memory g.M.Machine c.args.setup.layout c.args.setup.shape c.args.setup.timing c.args.inputs.now.rows c.args.schedule.now (g.F.Files.state c.args.files.now) (g.W.Fabric.state c.args.fabric.now) _ refl
