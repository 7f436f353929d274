-- What holds of what is drawn where links lose messages.
use Rattle.std.specs.Prelude.{◌≡◌, ℕ, List, length}
use Rattle.lt_arch.specs.declared.event.Offence.TheVariants.{NoEnd}
use Rattle.lt_arch.specs.declared.shape.Shape.{Shape}
use Rattle.lt_arch.specs.declared.timing.Timing.{Timing}
use Rattle.lt_lossy.specs.declared.event.LossyEvent.{LossyEvent}
use Rattle.lt_lossy.specs.declared.event.LossyOffence.TheVariants.{Common}
use Rattle.lt_net_lossy.specs.Rules.{lossy_rules_of}
use Rattle.lt_place_reads.specs.declared.crossing.Crossing.{Crossing}
use Rattle.lt_schedule.specs.Rules.{file_judged_by}
use Rattle.lt_tape.specs.declared.asked.Asked.{Asked}
use Rattle.lt_course.specs.Agreed.{AgreesWith}
use Rattle.lt_lossy_course.specs.LossyCourses.{lossy_drawing_rules}
use Rattle.lt_lossy_course.specs.LossyStrokes.{lossy_strokes_of}

-- there is a stroke for each event
abbrev pub HasLossyStrokeEach : Type 0
HasLossyStrokeEach = (cross : List Crossing) (s : Shape) (t : Timing) (rows : ℕ) (es : List LossyEvent) → length (lossy_strokes_of cross s t rows es) ≡ length es

-- of every file what is drawn agrees with what a run makes of it
abbrev pub DrawsAsLossyJudged : Type 0
DrawsAsLossyJudged =
    (asked : Asked) (cross : List Crossing) (s : Shape) (t : Timing) (limit rows : ℕ) (bytes : List ℕ) → AgreesWith (λ o. o) (Common NoEnd) (file_judged_by (lossy_rules_of s t limit rows) bytes) (file_judged_by (lossy_drawing_rules asked cross s t limit rows) bytes)
