use Rattle.lt_net_lossy.proofs.LossyOutcomes.{ended_by, finished}
use Rattle.lt_net_lossy.proofs.replay.playing.play.Goals as goal

pub finish-requires : goal.finish-requires
finish-requires g c =
    ended_by g.M.Machine c.args.playback.net c.replay_schedule-answer.new.replica.net c.args.playback.inputs.now.rows c.replay_schedule-answer.new.replica.inputs.now.rows c.args.name.now
    (g.F.Files.state c.args.files.now) (g.F.Files.state c.replay_schedule-answer.new.files) (g.W.Fabric.state c.args.fabric.now) (g.W.Fabric.state c.replay_schedule-answer.new.outside) c.requires.ready.plays.fed.rows c.replay_schedule-answer.ensures.keeps_files c.replay_schedule-answer.ensures.keeps
    _ _ (λ events playing. playing.plays) c.replay_schedule-answer.result c.replay_schedule-answer.ensures.visits c.replay_schedule-answer.ensures.cause c.replay_schedule-answer.ensures.link_cause c.replay_schedule-answer.ensures.judged

pub returns : goal.returns
returns g c =
    finished g.M.Machine c.args.playback.net c.replay_schedule-answer.new.replica.net c.args.playback.inputs.now.rows c.replay_schedule-answer.new.replica.inputs.now.rows c.args.name.now
    (g.F.Files.state c.args.files.now) (g.F.Files.state c.replay_schedule-answer.new.files) (g.W.Fabric.state c.args.fabric.now) (g.W.Fabric.state c.replay_schedule-answer.new.outside) c.requires.ready.plays.fed.rows c.replay_schedule-answer.ensures.keeps_files c.replay_schedule-answer.ensures.keeps
    _ _ (λ events playing. playing.plays) c.replay_schedule-answer.result c.replay_schedule-answer.ensures.visits c.replay_schedule-answer.ensures.cause c.replay_schedule-answer.ensures.link_cause c.replay_schedule-answer.ensures.judged c.replay_schedule-answer.ensures.sound
    c.invariant_holds.ensures.kept c.invariant_holds.ensures.tracks c.finish.result c.finish.ensures
