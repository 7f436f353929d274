-- A schedule as it is drawn, whatever its events are: all that they are drawn as up to the first offence, and that offence.
use Rattle.std.specs.Prelude.{◌≡◌, ℕ, max, List, [], Option, Some, None, Result, Ok, Err, option_map, is_some, if◌then◌else◌}
use Rattle.lt_base.specs.declared.memory.Or.{Or}
use Rattle.lt_base.specs.declared.memory.Or.TheVariants.{Fault, Memory}
use Rattle.lt_arch.specs.declared.event.Offence.TheVariants.{NoEnd}
use Rattle.lt_audit.specs.declared.miss.Miss.{Miss}
use Rattle.lt_lossy.specs.declared.event.LossyOffence.TheVariants.{Common}
use Rattle.lt_schedule.specs.declared.halt.Halt.{Halt}
use Rattle.lt_schedule.specs.declared.halt.Halt.TheVariants as halt
use Rattle.lt_schedule.specs.declared.halt.ScheduleRefusal.{ScheduleRefusal}
use Rattle.lt_schedule.specs.declared.halt.ScheduleRefusal.TheVariants as refusal
use Rattle.lt_schedule.specs.Rules.{Rules, file_judged_by}
use Rattle.lt_answer.specs.Answered.{Verdict, OfFile}
use Rattle.lt_load_fit.specs.declared.fault.What.TheVariants.{ScheduleBytes}
use Rattle.lt_load_fit.specs.declared.fault.CommandFault.{CommandFault}
use Rattle.lt_load_fit.specs.declared.fault.CommandFault.TheVariants as fault
use Rattle.lt_diagram.specs.declared.picture.Arrow.{Arrow}
use Rattle.lt_diagram.specs.declared.picture.Wrong.TheVariants.{Moment}
use Rattle.lt_tape.specs.declared.asked.Asked.{Asked}
use Rattle.lt_tape.specs.declared.stroke.Stroke.{Stroke}
use Rattle.lt_tape.specs.Excerpts.{excerpt_of}
use Rattle.lt_tape.specs.Times.{last_time, time_or_zero}
use Rattle.lt_course.specs.declared.course.Course.{Course}
use Rattle.lt_course.specs.declared.course.RefusedEvent.{RefusedEvent}
use Rattle.lt_course.specs.declared.course.Stopped.{Stopped}

-- all that events are drawn as, none of which has an offence: over so many nodes a stroke for each, what is in transit behind them, the horizon where they
-- were ended, and the first execution with a message too few or too many
pub record WholeCourse : Type 0 where
  pub nodes : ℕ
  pub strokes : List Stroke
  pub pending : List Arrow
  pub horizon : Option ℕ
  pub miss : Option Miss

-- the latest time that matters of an event that is refused
abbrev pub stop_time : RefusedEvent → ℕ
stop_time r = max r.time (time_or_zero r.bound)

-- what is drawn of events where the next one is refused, and it is asked which ticks are
abbrev pub stopped_before : Asked → WholeCourse → RefusedEvent → Stopped
stopped_before asked w r = record { excerpt = excerpt_of asked w.nodes (Some (stop_time r)) w.strokes; pending = w.pending; refused = r; miss = w.miss }

-- how lines and events are judged for a picture: as for a run, but with an offence what is drawn of the list is told, and one that stops is no refusal
abbrev pub drawing_by : {E O : Type 0} → Rules E O → (stopped : (before : List E) → E → O → Stopped) → Rules E Stopped
drawing_by rules stopped = record {
  reads = rules.reads;
  offence = λ before e. option_map (stopped before e) (rules.offence before e);
  missing = λ before. None;
}

-- the missing end of a list whose last event has this time
abbrev pub no_end_at : (last : ℕ) → RefusedEvent
no_end_at last = record { time = last; row = []; offence = Common NoEnd; bound = None; wrong = Moment }

-- where a list stops that has no offence so far, with its horizon where it was ended
abbrev pub unended_by : (horizon : Option ℕ) → (last : ℕ) → Option RefusedEvent
unended_by horizon last = if is_some horizon then None else Some (no_end_at last)

-- what is drawn of all events of a list
pub record IsCourseBy (asked : Asked) (w : WholeCourse) (c : Course) : Type 0 where
  pub excerpt : c.excerpt ≡ excerpt_of asked w.nodes (option_map stop_time c.refused) w.strokes
  pub pending : c.pending ≡ w.pending
  pub refused : c.refused ≡ unended_by w.horizon (last_time w.strokes)
  pub miss : c.miss ≡ w.miss

-- what is drawn of a list with an offence
abbrev pub stopped_course : Stopped → Course
stopped_course x = record { excerpt = x.excerpt; pending = x.pending; refused = Some x.refused; miss = x.miss }

-- what a refusal of rows is for a picture: an offence is drawn
abbrev pub course_or_fault : ScheduleRefusal Stopped → Result Course CommandFault
course_or_fault (refusal.Row row f) = Err (fault.Row row f)
course_or_fault (refusal.Offence event x) = Ok (stopped_course x)
course_or_fault refusal.Bytes = Err (fault.Limit ScheduleBytes)

-- the same of whatever ends a replay, where also memory may be wanting
abbrev pub or_course : Result Course CommandFault → Result Course (Or CommandFault)
or_course (Ok c) = Ok c
or_course (Err e) = Err (Fault e)

abbrev pub halted_course : Or (Halt Stopped) → Result Course (Or CommandFault)
halted_course (Fault (halt.Refused refused)) = or_course (course_or_fault refused)
halted_course (Fault halt.Read) = Err (Fault fault.Read)
halted_course (Fault halt.Link) = Err (Fault fault.Link)
halted_course Memory = Err Memory

-- what is right of rows that read so, where this is all that events are drawn as
abbrev pub DrawnBy : {E : Type 0} → Asked → (whole : List E → WholeCourse) → Result (List E) (ScheduleRefusal Stopped) → Verdict Course CommandFault
DrawnBy asked whole (Ok es) (Ok c) = IsCourseBy asked (whole es) c
DrawnBy asked whole (Ok es) (Err e) = ⊥
DrawnBy asked whole (Err refused) outcome = course_or_fault refused ≡ outcome

-- of a schedule file whose rows are judged by these rules
unfoldable pub drawn_verdict : {E : Type 0} → Rules E Stopped → Asked → (whole : List E → WholeCourse) → (file : Option (List ℕ)) → Verdict Course CommandFault
drawn_verdict rules asked whole file = OfFile fault.Read file (λ bytes outcome. DrawnBy asked whole (file_judged_by rules bytes) outcome)
