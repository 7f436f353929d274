-- A schedule over links that lose messages as it is drawn: what its events are drawn as up to its first offence, and that offence.
use Rattle.std.specs.Prelude.{ℕ, List, Option, None}
use Rattle.lt_arch.specs.declared.shape.Shape.{Shape}
use Rattle.lt_arch.specs.declared.timing.Timing.{Timing}
use Rattle.lt_arch.specs.Readers.{node_count, from_of, to_of}
use Rattle.lt_lossy.specs.declared.event.LossyEvent.{LossyEvent}
use Rattle.lt_lossy.specs.declared.event.LossyOffence.{LossyOffence}
use Rattle.lt_lossy.specs.declared.event.LossyOffence.TheVariants.{Common, TooManyLost}
use Rattle.lt_lossy.specs.State.{LossyState, plain_of}
use Rattle.lt_lossy.specs.Schedule.{lossy_reached}
use Rattle.lt_lossy.specs.Times.{lossy_time_of}
use Rattle.lt_losing.specs.LossyFile.{lossy_event_text}
use Rattle.lt_net_lossy.specs.Rules.{lossy_rules_of}
use Rattle.lt_place_reads.specs.declared.crossing.Crossing.{Crossing}
use Rattle.lt_schedule.specs.Rules.{Rules}
use Rattle.lt_answer.specs.Answered.{Verdict}
use Rattle.lt_load_fit.specs.declared.fault.CommandFault.{CommandFault}
use Rattle.lt_diagram.specs.declared.picture.Wrong.{Wrong}
use Rattle.lt_diagram.specs.declared.picture.Wrong.TheVariants.{Gone}
use Rattle.lt_tape.specs.declared.asked.Asked.{Asked}
use Rattle.lt_tape.specs.Times.{time_or_zero}
use Rattle.lt_course.specs.declared.course.Course.{Course}
use Rattle.lt_course.specs.declared.course.RefusedEvent.{RefusedEvent}
use Rattle.lt_course.specs.declared.course.Stopped.{Stopped}
use Rattle.lt_course.specs.Courses.{last_for, offence_bound, oldest_for, wrong_by}
use Rattle.lt_course.specs.Strokes.{first_sent_or}
use Rattle.lt_course.specs.Whole.{WholeCourse, drawing_by, drawn_verdict, stopped_before}
use Rattle.lt_lossy_course.specs.LossyStrokes.{lossy_pending_of, lossy_strokes_of}

-- when the node of an offence was activated last
abbrev pub lossy_last_for : LossyState → LossyOffence → Option ℕ
lossy_last_for st (Common o) = last_for (plain_of st) o
lossy_last_for st (TooManyLost c) = None

-- when the oldest message in transit on the channel of an offence was sent
abbrev pub lossy_oldest_for : LossyState → LossyOffence → ℕ
lossy_oldest_for st (Common o) = oldest_for (plain_of st) o
lossy_oldest_for st (TooManyLost c) = first_sent_or 0 ((plain_of st).chan c).transit

-- the tick by which the node or the message of an offence was due, or before which it was not, by those two times
abbrev pub lossy_offence_bound : Shape → Timing → (last : Option ℕ) → (oldest : ℕ) → LossyOffence → Option ℕ
lossy_offence_bound s t last oldest (Common o) = offence_bound s t last oldest o
lossy_offence_bound s t last oldest (TooManyLost c) = None

-- where an event at this time stands out, with that tick
abbrev pub lossy_wrong_by : Shape → (last : Option ℕ) → (oldest at bound : ℕ) → LossyOffence → Wrong
lossy_wrong_by s last oldest at bound (Common o) = wrong_by s last oldest at bound o
lossy_wrong_by s last oldest at bound (TooManyLost c) = Gone (from_of s c) (to_of s c) oldest

-- an event with this offence
abbrev pub lossy_refused_by : Shape → Timing → (last : Option ℕ) → (oldest : ℕ) → LossyEvent → LossyOffence → RefusedEvent
lossy_refused_by s t last oldest e o = record {
  time = lossy_time_of e;
  row = lossy_event_text s e;
  offence = o;
  bound = lossy_offence_bound s t last oldest o;
  wrong = lossy_wrong_by s last oldest (lossy_time_of e) (time_or_zero (lossy_offence_bound s t last oldest o)) o;
}

-- in this state
abbrev pub lossy_refused_at : Shape → Timing → LossyState → LossyEvent → LossyOffence → RefusedEvent
lossy_refused_at s t st e o = lossy_refused_by s t (lossy_last_for st o) (lossy_oldest_for st o) e o

-- All that these events are drawn as. Under back-pressure each execution has its messages, so that there is no miss.
abbrev pub lossy_whole_course : List Crossing → Shape → Timing → (rows : ℕ) → List LossyEvent → WholeCourse
lossy_whole_course cross s t rows es = record {
  nodes = node_count s;
  strokes = lossy_strokes_of cross s t rows es;
  pending = lossy_pending_of cross s t (lossy_reached s t rows es);
  horizon = (lossy_reached s t rows es).horizon;
  miss = None;
}

-- what is drawn of a list that has this offence at an event behind these, where it is asked which ticks are
abbrev pub lossy_stopped_at : Asked → List Crossing → Shape → Timing → (rows : ℕ) → (before : List LossyEvent) → LossyEvent → LossyOffence → Stopped
lossy_stopped_at asked cross s t rows before e o = stopped_before asked (lossy_whole_course cross s t rows before) (lossy_refused_at s t (lossy_reached s t rows before) e o)

-- how lines and events are judged for a picture
abbrev pub lossy_drawing_rules : Asked → List Crossing → Shape → Timing → (limit rows : ℕ) → Rules LossyEvent Stopped
lossy_drawing_rules asked cross s t limit rows = drawing_by (lossy_rules_of s t limit rows) (lossy_stopped_at asked cross s t rows)

-- what is right of a schedule file, where so many losses in a row are allowed
unfoldable pub lossy_course_verdict : Asked → List Crossing → Shape → Timing → (limit rows : ℕ) → (file : Option (List ℕ)) → Verdict Course CommandFault
lossy_course_verdict asked cross s t limit rows file = drawn_verdict (lossy_drawing_rules asked cross s t limit rows) asked (lossy_whole_course cross s t rows) file
