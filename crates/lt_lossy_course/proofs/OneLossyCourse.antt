-- All right refusals of a schedule's course are of one kind, whatever crosses, and then no course is right.
use Rattle.std.proofs.Common.{◌≡◌, ℕ, List, Option, Ok, Err}
use Rattle.lt_arch.specs.declared.shape.Shape.{Shape}
use Rattle.lt_arch.specs.declared.timing.Timing.{Timing}
use Rattle.lt_place_reads.specs.declared.crossing.Crossing.{Crossing}
use Rattle.lt_load_fit.specs.declared.fault.CommandFault.{CommandFault}
use Rattle.lt_net_lossy.specs.Rules.{lossy_rules_of}
use Rattle.lt_tape.specs.declared.asked.Asked.{Asked}
use Rattle.lt_course.specs.declared.course.Course.{Course}
use Rattle.lt_course.proofs.OneCourse.{no_course_drawn, one_fault_drawn}
use Rattle.lt_lossy_course.specs.LossyCourses.{lossy_course_verdict, lossy_stopped_at, lossy_whole_course}

module _ (asked : Asked) (cross other : List Crossing) (s : Shape) (t : Timing) (limit rows : ℕ) where
  pub one_fault : (file : Option (List ℕ)) (e f : CommandFault) → lossy_course_verdict asked cross s t limit rows file (Err e) → lossy_course_verdict asked other s t limit rows file (Err f) → e ≡ f
  unfolding lossy_course_verdict
  one_fault file e f p q = one_fault_drawn (lossy_rules_of s t limit rows) (lossy_stopped_at asked cross s t rows) (lossy_stopped_at asked other s t rows) asked (lossy_whole_course cross s t rows) (lossy_whole_course other s t rows) file e f p q

  pub no_course : (file : Option (List ℕ)) (e : CommandFault) (c : Course) → lossy_course_verdict asked cross s t limit rows file (Err e) → lossy_course_verdict asked other s t limit rows file (Ok c) → ⊥
  unfolding lossy_course_verdict
  no_course file e c p q = no_course_drawn (lossy_rules_of s t limit rows) (lossy_stopped_at asked cross s t rows) (lossy_stopped_at asked other s t rows) asked (lossy_whole_course cross s t rows) (lossy_whole_course other s t rows) file e c p q
