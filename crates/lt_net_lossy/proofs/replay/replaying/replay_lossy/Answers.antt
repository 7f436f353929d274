use Rattle.std.proofs.Common.{refl}
use Rattle.lt_net_lossy.proofs.LossyPerformed.{no_memory}
use Rattle.lt_net_lossy.proofs.LossySoundNetworks.{is_sound}
use Rattle.lt_net_lossy.proofs.replay.replaying.replay_lossy.Goals as goal

pub returns-in-Err : goal.returns-in-Err
returns-in-Err g c =
    no_memory g.M.Machine c.args.setup.layout c.args.setup.shape c.args.setup.timing c.args.losses c.args.inputs.now.rows c.args.schedule.now (g.F.Files.state c.args.files.now) (g.W.Fabric.state c.args.fabric.now) _ refl

pub perform-replayed-requires-clause-sound : goal.perform-replayed-requires-clause-sound
perform-replayed-requires-clause-sound g c =
    is_sound c.shapes_fit.ensures c.requires.placed.0 c.args.setup.layout c.args.setup.shape c.args.setup.timing c.requires.placed.1 c.requires.protocol c.requires.shaped c.requires.timed c.requires.window c.requires.few
