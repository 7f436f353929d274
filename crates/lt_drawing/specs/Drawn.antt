-- A schedule as one SVG: what is right, and what is answered over files.
use Rattle.std.specs.Prelude.{ℕ, List, ◌++◌, Option, Some, Result}
use Rattle.lt_base.specs.declared.memory.Or.{Or}
use Rattle.lt_arch.specs.declared.pace.Pace.{Pace}
use Rattle.lt_arch.specs.declared.pace.Pace.TheVariants.{Plain, Lossy, Leader}
use Rattle.lt_arch.specs.declared.shape.Shape.{Shape}
use Rattle.lt_arch.specs.declared.timing.Timing.{Timing}
use Rattle.lt_place_reads.specs.declared.crossing.Crossing.{Crossing}
use Rattle.lt_io.specs.FilesState.{FilesState}
use Rattle.lt_io.specs.Visits.{Errand}
use Rattle.lt_schedule.specs.Errand.{schedule_errand}
use Rattle.lt_answer.specs.Alone.{AnsweredOnFiles}
use Rattle.lt_answer.specs.Answered.{Verdict, AndThen}
use Rattle.lt_answer.specs.Rules.{Shown}
use Rattle.lt_load_fit.specs.declared.fault.CommandFault.{CommandFault}
use Rattle.lt_load.specs.Blamed.{command_blame}
use Rattle.lt_load.specs.Errands.{load_errands}
use Rattle.lt_load.specs.Plan.{Plan}
use Rattle.lt_draw.specs.PictureText.{picture_text}
use Rattle.lt_tape.specs.declared.asked.Asked.{Asked}
use Rattle.lt_course.specs.declared.course.Course.{Course}
use Rattle.lt_inspect.specs.declared.setups.Setups.TheVariants.{Windowed}
use Rattle.lt_inspect.specs.declared.stage.Ground.{Ground}
use Rattle.lt_inspect.specs.declared.stage.Stage.{Stage}
use Rattle.lt_inspect.specs.Stages.{IsStageOf, stage_verdict}
use Rattle.lt_drawing.specs.declared.view.DrawView.{DrawView}
use Rattle.lt_course.specs.Courses.{course_verdict}
use Rattle.lt_lossy_course.specs.LossyCourses.{lossy_course_verdict}
use Rattle.lt_drawing.specs.Pictures.{picture_of}

-- which ticks a view asks for
abbrev pub asked_of : DrawView → Asked
asked_of view = record { from = view.from; to = view.to }

-- what is drawn of a schedule's file by the pace of the protocol: where links lose messages, with the losses that are allowed in a row
abbrev pub course_verdict_by : Asked → Pace → List Crossing → Shape → Timing → (rows : ℕ) → (file : Option (List ℕ)) → Verdict Course CommandFault
course_verdict_by asked Plain cross s t rows file = course_verdict asked cross s t rows file
course_verdict_by asked (Lossy losses) cross s t rows file = lossy_course_verdict asked cross s t losses rows file
course_verdict_by asked (Leader leader) cross s t rows file = course_verdict asked cross s t rows file

-- and over a stage
abbrev pub stage_course_verdict : DrawView → Stage → (file : Option (List ℕ)) → Verdict Course CommandFault
stage_course_verdict view k file = course_verdict_by (asked_of view) k.ground.pace k.ground.cross k.ground.shape k.ground.timing k.rows file

-- its text, by the names of the two files that the title has
abbrev pub along_stage : (schedule config : List ℕ) → DrawView → Stage → (file : Option (List ℕ)) → Verdict (List ℕ) CommandFault
along_stage schedule config view k file = Shown (λ course. picture_text (picture_of schedule config view k course)) (stage_course_verdict view k file)

-- a plan along a schedule's file
abbrev pub plan_drawn : (schedule config : List ℕ) (node : Option (List ℕ)) → DrawView → (file : Option (List ℕ)) → Plan → Verdict (List ℕ) CommandFault
plan_drawn schedule config node view file plan outcome = (k : Stage) × IsStageOf plan node k × along_stage schedule config view k file outcome

-- the program, the setup, which has the window that its pace asks for, the placement, the node that is named, the inputs and the schedule, in this order
unfoldable pub draw_verdict : (named : List ℕ → Option (List ℕ)) (program inputs schedule config : List ℕ) (node : Option (List ℕ)) → DrawView → Verdict (List ℕ) CommandFault
draw_verdict named program inputs schedule config node view =
    AndThen (stage_verdict Windowed named program inputs config node) (λ plan. plan_drawn schedule config node view (named schedule) plan)

-- the program, the setup, the inputs and the schedule
abbrev pub draw_errands : (program inputs schedule config : List ℕ) → List Errand
draw_errands program inputs schedule config = load_errands program inputs (Some config) ++ schedule_errand schedule

-- a picture of the files of these names
abbrev pub DrawsOnFiles : (program inputs schedule config : List ℕ) (node : Option (List ℕ)) → DrawView → (old new : FilesState) → Result (List ℕ) (Or CommandFault) → Type 0
DrawsOnFiles program inputs schedule config node view old new result =
    AnsweredOnFiles command_blame (draw_errands program inputs schedule config) (draw_verdict old.named program inputs schedule config node view) old new result

-- a picture over a stage of the schedule file of this name
abbrev pub DrawsStage : Stage → (schedule config : List ℕ) → DrawView → (old new : FilesState) → Result (List ℕ) (Or CommandFault) → Type 0
DrawsStage k schedule config view old new result =
    AnsweredOnFiles command_blame (schedule_errand schedule) (along_stage schedule config view k (old.named schedule)) old new result

-- what is drawn over these nodes and so many rows of inputs of the schedule file of this name, where it is asked which ticks are
abbrev pub ReadsGroundCourse : Asked → Ground → (rows : ℕ) → (schedule : List ℕ) → (old new : FilesState) → Result Course (Or CommandFault) → Type 0
ReadsGroundCourse asked g rows schedule old new result = AnsweredOnFiles command_blame (schedule_errand schedule) (course_verdict_by asked g.pace g.cross g.shape g.timing rows (old.named schedule)) old new result
