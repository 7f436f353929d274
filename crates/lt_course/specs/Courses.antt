-- A schedule as it is drawn: what its events are drawn as up to its first offence, and that offence.
use Rattle.std.specs.Prelude.{ℕ, ◌+◌, List, Option, Some, None}
use Rattle.lt_arch.specs.declared.event.Event.{Event}
use Rattle.lt_arch.specs.declared.event.Offence.{Offence}
use Rattle.lt_arch.specs.declared.event.Offence.TheVariants.{AfterEnd, Backwards, NodeOverdue, ChannelOverdue, TooSoon, NothingSent, TooEarly, NoEnd}
use Rattle.lt_arch.specs.declared.shape.Shape.{Shape}
use Rattle.lt_arch.specs.declared.timing.Timing.{Timing}
use Rattle.lt_arch.specs.State.{State}
use Rattle.lt_arch.specs.Readers.{node_count, from_of, to_of, tmin_of, tmax_of, dmin_of, dmax_of}
use Rattle.lt_arch.specs.Deadline.{after_last}
use Rattle.lt_arch.specs.Schedule.{reached}
use Rattle.lt_arch.specs.Step.{time_of}
use Rattle.lt_lossy.specs.declared.event.LossyOffence.TheVariants.{Common}
use Rattle.lt_rows.specs.Texts.{event_text}
use Rattle.lt_place_reads.specs.declared.crossing.Crossing.{Crossing}
use Rattle.lt_schedule.specs.Rules.{Rules}
use Rattle.lt_schedule.specs.Verdict.{rules_of}
use Rattle.lt_answer.specs.Answered.{Verdict}
use Rattle.lt_load_fit.specs.declared.fault.CommandFault.{CommandFault}
use Rattle.lt_diagram.specs.declared.picture.Wrong.{Wrong}
use Rattle.lt_diagram.specs.declared.picture.Wrong.TheVariants.{Moment, Absent, Soon, Untimely, Unsent}
use Rattle.lt_tape.specs.declared.asked.Asked.{Asked}
use Rattle.lt_tape.specs.Times.{time_or_zero}
use Rattle.lt_course.specs.declared.course.Course.{Course}
use Rattle.lt_course.specs.declared.course.RefusedEvent.{RefusedEvent}
use Rattle.lt_course.specs.declared.course.Stopped.{Stopped}
use Rattle.lt_course.specs.Missed.{first_miss}
use Rattle.lt_course.specs.Strokes.{first_sent_or, pending_of, strokes_of}
use Rattle.lt_course.specs.Whole.{WholeCourse, drawing_by, drawn_verdict, stopped_before}

-- when the node of an offence was activated last
abbrev pub last_for : State → Offence → Option ℕ
last_for st AfterEnd = None
last_for st Backwards = None
last_for st (NodeOverdue n) = (st.node n).last
last_for st (ChannelOverdue c) = None
last_for st (TooSoon n) = (st.node n).last
last_for st (NothingSent c) = None
last_for st (TooEarly c) = None
last_for st NoEnd = None

-- when the oldest message in transit on the channel of an offence was sent
abbrev pub oldest_for : State → Offence → ℕ
oldest_for st AfterEnd = 0
oldest_for st Backwards = 0
oldest_for st (NodeOverdue n) = 0
oldest_for st (ChannelOverdue c) = first_sent_or 0 (st.chan c).transit
oldest_for st (TooSoon n) = 0
oldest_for st (NothingSent c) = 0
oldest_for st (TooEarly c) = first_sent_or 0 (st.chan c).transit
oldest_for st NoEnd = 0

-- the tick by which the node or the message of an offence was due, or before which it was not, by those two times
abbrev pub offence_bound : Shape → Timing → (last : Option ℕ) → (oldest : ℕ) → Offence → Option ℕ
offence_bound s t last oldest AfterEnd = None
offence_bound s t last oldest Backwards = None
offence_bound s t last oldest (NodeOverdue n) = Some (after_last last (tmax_of t n))
offence_bound s t last oldest (ChannelOverdue c) = Some (oldest + dmax_of t (from_of s c) (to_of s c))
offence_bound s t last oldest (TooSoon n) = Some (after_last last (tmin_of t n))
offence_bound s t last oldest (NothingSent c) = None
offence_bound s t last oldest (TooEarly c) = Some (oldest + dmin_of t (from_of s c) (to_of s c))
offence_bound s t last oldest NoEnd = None

-- where an event at this time stands out, with that tick
abbrev pub wrong_by : Shape → (last : Option ℕ) → (oldest at bound : ℕ) → Offence → Wrong
wrong_by s last oldest at bound AfterEnd = Moment
wrong_by s last oldest at bound Backwards = Moment
wrong_by s last oldest at bound (NodeOverdue n) = Absent n bound
wrong_by s last oldest at bound (ChannelOverdue c) = Untimely (from_of s c) (to_of s c) oldest bound
wrong_by s last oldest at bound (TooSoon n) = Soon n (time_or_zero last) bound
wrong_by s last oldest at bound (NothingSent c) = Unsent (from_of s c) (to_of s c)
wrong_by s last oldest at bound (TooEarly c) = Untimely (from_of s c) (to_of s c) oldest at
wrong_by s last oldest at bound NoEnd = Moment

-- an event with this offence
abbrev pub refused_by : Shape → Timing → (last : Option ℕ) → (oldest : ℕ) → Event → Offence → RefusedEvent
refused_by s t last oldest e o = record {
  time = time_of e;
  row = event_text s e;
  offence = Common o;
  bound = offence_bound s t last oldest o;
  wrong = wrong_by s last oldest (time_of e) (time_or_zero (offence_bound s t last oldest o)) o;
}

-- in this state
abbrev pub refused_at : Shape → Timing → State → Event → Offence → RefusedEvent
refused_at s t st e o = refused_by s t (last_for st o) (oldest_for st o) e o

-- all that these events are drawn as
abbrev pub whole_course : List Crossing → Shape → Timing → (rows : ℕ) → List Event → WholeCourse
whole_course cross s t rows es = record {
  nodes = node_count s;
  strokes = strokes_of cross s t rows es;
  pending = pending_of cross s t (reached s t rows es);
  horizon = (reached s t rows es).horizon;
  miss = first_miss s t rows es;
}

-- what is drawn of a list that has this offence at an event behind these, where it is asked which ticks are
abbrev pub stopped_at : Asked → List Crossing → Shape → Timing → (rows : ℕ) → (before : List Event) → Event → Offence → Stopped
stopped_at asked cross s t rows before e o = stopped_before asked (whole_course cross s t rows before) (refused_at s t (reached s t rows before) e o)

-- how lines and events are judged for a picture
abbrev pub drawing_rules : Asked → List Crossing → Shape → Timing → (rows : ℕ) → Rules Event Stopped
drawing_rules asked cross s t rows = drawing_by (rules_of s t rows) (stopped_at asked cross s t rows)

-- what is right of a schedule file
unfoldable pub course_verdict : Asked → List Crossing → Shape → Timing → (rows : ℕ) → (file : Option (List ℕ)) → Verdict Course CommandFault
course_verdict asked cross s t rows file = drawn_verdict (drawing_rules asked cross s t rows) asked (whole_course cross s t rows) file
