use Rattle.std.proofs.Common.{◌∙◌, refl, sym}
use Rattle.lt_answer.proofs.Stages.{runs_short_by}
use Rattle.lt_course.proofs.Outcomes.{halted, kept_course, took_all, took_short}
use Rattle.lt_course.proofs.replaying.replay_course.Goals as goal

pub returns-in_err-lines : goal.returns-in_err-lines
returns-in_err-lines g c = runs_short_by _ _ c.from_residual.ensures.1

pub course_of-requires : goal.course_of-requires
course_of-requires g c = (c.replay_schedule-replayed.new.outside, c.in-Ok.ensures.judged.0, c.in-Ok.ensures.judged.1.events, c.in-Ok.ensures.judged.1.stands_for)

pub returns-in-Ok-course_of : goal.returns-in-Ok-course_of
returns-in-Ok-course_of g c =
    let old = c.args.recorder.now in
    let new = c.replay_schedule-replayed.new.replica in
    let out = c.replay_schedule-replayed.new.outside in
    let kept = c.replay_schedule-replayed.ensures.keeps in
    took_all (g.R.Replica.rules old) (g.R.Drawable.asked old) (g.R.Recording.whole old) _ _ c.args.schedule.now c.replay_schedule-replayed.ensures.keeps_files c.replay_schedule-replayed.ensures.visits_whole (g.R.Replica.stands new out) c.in-Ok.ensures.cause c.in-Ok.ensures.judged
    c.in-Ok-course_of.course (λ steps es stands. kept_course (g.R.Drawable.asked old) (g.R.Drawable.asked new) (g.R.Recording.whole old) (g.R.Recording.whole new) es c.in-Ok-course_of.course (g.met.R.Recording.keeps_asked old tt new out kept) (g.met.R.Recording.keeps_whole old tt new out kept) (c.in-Ok-course_of.ensures out steps es stands))

pub returns-in-Err-course_of : goal.returns-in-Err-course_of
returns-in-Err-course_of g c =
    let old = c.args.recorder.now in
    took_short (g.R.Replica.rules old) (g.R.Drawable.asked old) (g.R.Recording.whole old) _ _ c.args.schedule.now c.replay_schedule-replayed.ensures.keeps_files c.replay_schedule-replayed.ensures.visits_whole
    (g.R.Replica.stands c.replay_schedule-replayed.new.replica c.replay_schedule-replayed.new.outside) c.in-Ok.ensures.cause _ refl

pub returns-in-Err : goal.returns-in-Err
returns-in-Err g c =
    let old = c.args.recorder.now in
    let out = c.replay_schedule-replayed.new.outside in
    halted (g.R.Replica.rules old) (g.R.Drawable.asked old) (g.R.Recording.whole old) _ _ c.args.schedule.now c.replay_schedule-replayed.ensures.keeps_files c.replay_schedule-replayed.ensures.visits_whole c.replay_schedule-replayed.ensures.sound
    (g.R.Replica.faults tt) (g.R.Replica.faults out) (g.met.R.Recording.calm out ∙ sym (g.met.R.Recording.calm tt)) c.in-Err.halt _ c.halted_course.ensures c.in-Err.ensures.cause c.in-Err.ensures.link_cause c.in-Err.ensures.judged
