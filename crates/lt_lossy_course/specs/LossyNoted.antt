-- A recorder of the events of a schedule over links that lose messages.
use Rattle.std.specs.Prelude.{◌≡◌, ℕ, List}
use Rattle.lt_arch.specs.declared.timing.Timing.{Timing}
use Rattle.lt_arch.specs.Readers.{node_count}
use Rattle.lt_arch.specs.Shapes.{HaveSameNodes}
use Rattle.lt_lossy.specs.declared.event.LossyEvent.{LossyEvent}
use Rattle.lt_lossy.specs.Schedule.{lossy_reached}
use Rattle.lt_place_reads.specs.declared.crossing.Crossing.{Crossing}
use Rattle.lt_tape.specs.declared.asked.Asked.{Asked}
use Rattle.lt_tape.specs.declared.tape.Tape.{Tape}
use Rattle.lt_tape.specs.Tapes.{IsTapeOf}
use Rattle.lt_tape.specs.Times.{last_time, time_or_zero}
use Rattle.lt_lossy_audit.specs.LossyAudit.{LossyAuditState, LossyAuditStands}
use Rattle.lt_lossy_course.specs.LossyStrokes.{lossy_strokes_of}

-- the auditor stands for these events, over as many nodes as the timing has, and the tape for the strokes that they are drawn as, no later than the state
pub record IsLossyNotedSoFar (a : LossyAuditState) (asked : Asked) (cross : List Crossing) (t : Timing) (limit : ℕ) (tape : Tape) (es : List LossyEvent) : Type 0 where
  pub stands : LossyAuditStands a a.shape t limit a.rows es
  pub same : HaveSameNodes a.shape t
  pub taped : IsTapeOf tape asked (node_count a.shape) (lossy_strokes_of cross a.shape t a.rows es)
  pub latest : last_time (lossy_strokes_of cross a.shape t a.rows es) ≡ time_or_zero (lossy_reached a.shape t a.rows es).latest
