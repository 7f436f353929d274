-- A recorder of the events of a schedule.
use Rattle.std.specs.Prelude.{◌≡◌, List, None, Some, Result, Ok, Err}
use Rattle.lt_arch.specs.declared.event.Event.{Event}
use Rattle.lt_arch.specs.declared.timing.Timing.{Timing}
use Rattle.lt_arch.specs.Readers.{node_count}
use Rattle.lt_arch.specs.Schedule.{reached}
use Rattle.lt_arch.specs.Shapes.{HaveSameNodes}
use Rattle.lt_place_reads.specs.declared.crossing.Crossing.{Crossing}
use Rattle.lt_schedule.specs.declared.halt.Stop.{Stop}
use Rattle.lt_schedule.specs.declared.halt.Stop.TheVariants as stop
use Rattle.lt_schedule.specs.Rules.{Rules}
use Rattle.lt_audit.specs.Audit.{AuditState}
use Rattle.lt_audit.specs.Standing.{AuditStands}
use Rattle.lt_tape.specs.declared.asked.Asked.{Asked}
use Rattle.lt_tape.specs.declared.tape.Tape.{Tape}
use Rattle.lt_tape.specs.Tapes.{IsTapeOf}
use Rattle.lt_tape.specs.Times.{last_time, time_or_zero}
use Rattle.lt_course.specs.declared.course.Stopped.{Stopped}
use Rattle.lt_course.specs.Strokes.{strokes_of}

-- the auditor stands for these events, over as many nodes as the timing has, and the tape for the strokes that they are drawn as, no later than the state
pub record IsNotedSoFar (a : AuditState) (asked : Asked) (cross : List Crossing) (t : Timing) (tape : Tape) (es : List Event) : Type 0 where
  pub stands : AuditStands a a.shape t a.rows es
  pub same : HaveSameNodes a.shape t
  pub taped : IsTapeOf tape asked (node_count a.shape) (strokes_of cross a.shape t a.rows es)
  pub latest : last_time (strokes_of cross a.shape t a.rows es) ≡ time_or_zero (reached a.shape t a.rows es).latest

-- the next event is judged behind these: it is taken, or it has an offence
abbrev pub JudgesNextEvent : {E : Type 0} → Rules E Stopped → (before : List E) → E → Result (Unit {0}) (Stop Stopped) → Type 0
JudgesNextEvent rules before e (Ok done) = rules.offence before e ≡ None
JudgesNextEvent rules before e (Err (stop.Row f)) = ⊥
JudgesNextEvent rules before e (Err (stop.Offence x)) = rules.offence before e ≡ Some x
JudgesNextEvent rules before e (Err stop.Link) = ⊥
JudgesNextEvent rules before e (Err stop.Memory) = Unit {0}
