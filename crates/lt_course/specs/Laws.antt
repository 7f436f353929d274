-- What holds of what is drawn.
use Rattle.std.specs.Prelude.{◌≡◌, ℕ, ◌-◌, ◌^◌, ◌<◌, List, length}
use Rattle.lt_arch.specs.declared.event.Event.{Event}
use Rattle.lt_arch.specs.declared.event.Offence.TheVariants.{NoEnd}
use Rattle.lt_arch.specs.declared.shape.Shape.{Shape}
use Rattle.lt_arch.specs.declared.timing.Timing.{Timing}
use Rattle.lt_lossy.specs.declared.event.LossyOffence.TheVariants.{Common}
use Rattle.lt_place_reads.specs.declared.crossing.Crossing.{Crossing}
use Rattle.lt_schedule.specs.Rules.{file_judged_by}
use Rattle.lt_schedule.specs.Verdict.{rules_of}
use Rattle.lt_audit.specs.Misses.{FirstMiss}
use Rattle.lt_tape.specs.declared.asked.Asked.{Asked}
use Rattle.lt_course.specs.Agreed.{AgreesWith}
use Rattle.lt_course.specs.Courses.{drawing_rules}
use Rattle.lt_course.specs.Missed.{first_miss}
use Rattle.lt_course.specs.Strokes.{strokes_of}

-- there is a stroke for each event
abbrev pub HasStrokeEach : Type 0
HasStrokeEach = (cross : List Crossing) (s : Shape) (t : Timing) (rows : ℕ) (es : List Event) → length (strokes_of cross s t rows es) ≡ length es

-- of every file what is drawn agrees with what a run makes of it
abbrev pub DrawsAsJudged : Type 0
DrawsAsJudged =
    (asked : Asked) (cross : List Crossing) (s : Shape) (t : Timing) (rows : ℕ) (bytes : List ℕ) → AgreesWith Common NoEnd (file_judged_by (rules_of s t rows) bytes) (file_judged_by (drawing_rules asked cross s t rows) bytes)

-- as far as events can be numbered, what is told of a list is the first event at which a node executes with a message too few or too many
abbrev pub TellsFirstMiss : Type 0
TellsFirstMiss = (s : Shape) (t : Timing) (rows : ℕ) (es : List Event) → length es < 2 ^ 32 - 1 → FirstMiss s t rows es (first_miss s t rows es)
