-- What is drawn of a schedule file over links that lose messages is what a run's verdict says of it.
use Rattle.std.proofs.Common.{ℕ, List, is_some, refl}
use Rattle.lt_arch.specs.declared.event.Offence.TheVariants.{NoEnd}
use Rattle.lt_arch.specs.declared.shape.Shape.{Shape}
use Rattle.lt_arch.specs.declared.timing.Timing.{Timing}
use Rattle.lt_lossy.specs.declared.event.LossyOffence.TheVariants.{Common}
use Rattle.lt_lossy.specs.Schedule.{lossy_reached}
use Rattle.lt_net_lossy.specs.Rules.{lossy_rules_of}
use Rattle.lt_place_reads.specs.declared.crossing.Crossing.{Crossing}
use Rattle.lt_schedule.specs.Rules.{file_judged_by}
use Rattle.lt_tape.specs.declared.asked.Asked.{Asked}
use Rattle.lt_course.specs.Agreed.{AgreesWith}
use Rattle.lt_course.proofs.Agreeing.{agrees_drawn, ends_unless}
use Rattle.lt_lossy_course.specs.LossyCourses.{lossy_drawing_rules, lossy_stopped_at}

pub agrees_file : (asked : Asked) (cross : List Crossing) (s : Shape) (t : Timing) (limit rows : ℕ) (bytes : List ℕ) → AgreesWith (λ o. o) (Common NoEnd) (file_judged_by (lossy_rules_of s t limit rows) bytes) (file_judged_by (lossy_drawing_rules asked cross s t limit rows) bytes)
agrees_file asked cross s t limit rows bytes =
    agrees_drawn (λ o. o) (Common NoEnd) (lossy_rules_of s t limit rows) (lossy_stopped_at asked cross s t rows) (λ before e o. refl) (λ before. ends_unless (Common NoEnd) (is_some (lossy_reached s t rows before).horizon)) bytes
