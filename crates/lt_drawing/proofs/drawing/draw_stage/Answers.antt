use Rattle.std.proofs.Common.{◌∙◌}
use Rattle.lt_draw.specs.PictureText.{picture_text}
use Rattle.lt_drawing.specs.Drawn.{stage_course_verdict}
use Rattle.lt_drawing.specs.Pictures.{picture_of}
use Rattle.lt_drawing.proofs.Shown.{is_shown, not_shown, short_shown}
use Rattle.lt_drawing.proofs.drawing.draw_stage.Goals as goal

pub returns-in_err-course : goal.returns-in_err-course
returns-in_err-course g c =
    not_shown (λ course. picture_text (picture_of c.args.schedule.now c.args.config.now c.args.view c.args.stage.now course)) (stage_course_verdict c.args.view c.args.stage.now ((g.F.Files.state c.args.files.now).named c.args.schedule.now)) _ _ _ _
    c.from_residual.ensures.1 c.in_err-course.ensures

pub returns-in-Ok : goal.returns-in-Ok
returns-in-Ok g c =
    is_shown (λ course. picture_text (picture_of c.args.schedule.now c.args.config.now c.args.view c.args.stage.now course)) (stage_course_verdict c.args.view c.args.stage.now ((g.F.Files.state c.args.files.now).named c.args.schedule.now)) _ _ c.in_ok-course.course _
    (c.in-Ok.ensures ∙ (λ i. picture_text (picture_of (c.as_bytes.ensures.value i) (c.as_bytes-2.ensures.value i) c.args.view c.args.stage.now c.in_ok-course.course))) c.in_ok-course.ensures

pub returns-in-Err : goal.returns-in-Err
returns-in-Err g c =
    short_shown (λ course. picture_text (picture_of c.args.schedule.now c.args.config.now c.args.view c.args.stage.now course)) (stage_course_verdict c.args.view c.args.stage.now ((g.F.Files.state c.args.files.now).named c.args.schedule.now)) _ _ c.in_ok-course.course
    c.in_ok-course.ensures
