use Rattle.lt_net_replay.proofs.Outcomes.{played_along}
use Rattle.lt_net_replay.proofs.playing.play.Goals as goal

pub returns : goal.returns
returns g c =
    played_along g.C.Controller g.M.Machine c.args.playback.now.net c.replay_schedule.new.replica.net c.args.playback.now.inputs.now.rows c.replay_schedule.new.replica.inputs.now.rows c.args.name.now
    (g.F.Files.state c.args.files.now) (g.F.Files.state c.replay_schedule.new.files) (g.W.Fabric.state c.args.fabric.now) (g.W.Fabric.state c.replay_schedule.new.outside) c.replay_schedule.ensures.keeps_files c.replay_schedule.ensures.keeps
    _ c.replay_schedule.result c.replay_schedule.ensures.visits c.replay_schedule.ensures.cause c.replay_schedule.ensures.link_cause c.replay_schedule.ensures.sound c.replay_schedule.ensures.prompt c.replay_schedule.ensures.judged (λ steps events playing. playing.plays)
