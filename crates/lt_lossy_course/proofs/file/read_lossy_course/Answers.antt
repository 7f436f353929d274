use Rattle.lt_answer.proofs.Stages.{runs_short_by}
use Rattle.lt_lossy_course.proofs.LossyOver.{recorded_over}
use Rattle.lt_lossy_course.proofs.file.read_lossy_course.Goals as goal

pub returns-in_err-recorder : goal.returns-in_err-recorder
returns-in_err-recorder g c = runs_short_by _ _ c.from_residual.ensures.1

pub returns : goal.returns
returns g c =
    let first = c.in_ok-recorder.ensures in
    recorded_over c.args.asked c.args.cross.now c.args.shape.now c.args.timing.now c.args.limit c.args.rows c.in_ok-recorder.recorder first.cross first.shape first.timing first.limit first.rows first.asked c.args.schedule.now _ _ c.replay_course-course.result c.replay_course-course.ensures
