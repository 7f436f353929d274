-- All right refusals of a schedule's course are of one kind, whatever crosses, and then no course is right.
use Rattle.std.proofs.Common.{◌≡◌, ◌∙◌, ℕ, List, Option, Some, None, Result, Ok, Err, refl, sym}
use Rattle.std.specs.Prelude.{option_map}
use Rattle.lt_arch.specs.declared.shape.Shape.{Shape}
use Rattle.lt_arch.specs.declared.timing.Timing.{Timing}
use Rattle.lt_place_reads.specs.declared.crossing.Crossing.{Crossing}
use Rattle.lt_schedule.specs.declared.halt.ScheduleRefusal.{ScheduleRefusal}
use Rattle.lt_schedule.specs.declared.halt.ScheduleRefusal.TheVariants as refusal
use Rattle.lt_schedule.specs.Rules.{Rules, file_judged_by}
use Rattle.lt_schedule.specs.Verdict.{rules_of}
use Rattle.lt_load_fit.specs.declared.fault.CommandFault.{CommandFault}
use Rattle.lt_load_fit.specs.declared.fault.CommandFault.TheVariants as fault
use Rattle.lt_tape.specs.declared.asked.Asked.{Asked}
use Rattle.lt_course.specs.declared.course.Course.{Course}
use Rattle.lt_course.specs.declared.course.Stopped.{Stopped}
use Rattle.lt_course.specs.Courses.{course_verdict, stopped_at, whole_course}
use Rattle.lt_course.specs.Whole.{DrawnBy, WholeCourse, course_or_fault, drawing_by, drawn_verdict}
use Rattle.lt_course.proofs.Alike.{AreAlikeReads, SameCase, SameRefusal, alike_file}

wrong_of_row : (r q : ScheduleRefusal Stopped) (e f : CommandFault) → SameRefusal r q → course_or_fault r ≡ Err e → course_or_fault q ≡ Err f → e ≡ f
wrong_of_row (refusal.Row row f) (refusal.Row row' f') e g same p q =
    let here : e ≡ fault.Row row f = cc in let there : g ≡ fault.Row row' f' = cc in here ∙ (λ i. fault.Row (same.0 i) (same.1 i)) ∙ sym there
wrong_of_row (refusal.Row row f) (refusal.Offence m y) e g same p q = absurd same
wrong_of_row (refusal.Row row f) refusal.Bytes e g same p q = absurd same
wrong_of_row (refusal.Offence n x) q e g same p other = cc
wrong_of_row refusal.Bytes (refusal.Row row f) e g same p q = absurd same
wrong_of_row refusal.Bytes (refusal.Offence m y) e g same p q = absurd same
wrong_of_row refusal.Bytes refusal.Bytes e g same p q = let both : Err e ≡ Err g = sym p ∙ q in cc

no_row : (r q : ScheduleRefusal Stopped) (e : CommandFault) (c : Course) → SameRefusal r q → course_or_fault r ≡ Err e → course_or_fault q ≡ Ok c → ⊥
no_row (refusal.Row row f) (refusal.Row row' f') e c same p q = cc
no_row (refusal.Row row f) (refusal.Offence m y) e c same p q = same
no_row (refusal.Row row f) refusal.Bytes e c same p q = same
no_row (refusal.Offence n x) q e c same p other = cc
no_row refusal.Bytes (refusal.Row row f) e c same p q = same
no_row refusal.Bytes (refusal.Offence m y) e c same p q = same
no_row refusal.Bytes refusal.Bytes e c same p q = cc

both_mapped : {A B C : Type 0} (f : A → B) (g : A → C) (o : Option A) → SameCase (option_map f o) (option_map g o)
both_mapped f g None = tt
both_mapped f g (Some x) = tt

same_refusal : (e f : CommandFault) → ◌≡◌ {A = Result Course CommandFault} (Err e) (Err f) → e ≡ f
same_refusal e f is = cc

-- whatever is drawn of events, where rules differ in what they tell of an offence alone
module _ {E O : Type 0} (rules : Rules E O) (first second : List E → E → O → Stopped) (asked : Asked) (whole other : List E → WholeCourse) where
  alike : (bytes : List ℕ) → AreAlikeReads (file_judged_by (drawing_by rules first) bytes) (file_judged_by (drawing_by rules second) bytes)
  alike bytes = alike_file (drawing_by rules first) (drawing_by rules second) (λ line. refl) (λ before e. both_mapped (first before e) (second before e) (rules.offence before e)) (λ before. tt) bytes

  one_fault_of : (v w : Result (List E) (ScheduleRefusal Stopped)) (e f : CommandFault) → AreAlikeReads v w → DrawnBy asked whole v (Err e) → DrawnBy asked other w (Err f) → e ≡ f
  one_fault_of (Ok es) w e f same p q = absurd p
  one_fault_of (Err r) (Ok ds) e f same p q = absurd q
  one_fault_of (Err r) (Err q) e f same p other_is = wrong_of_row r q e f same p other_is

  no_course_of : (v w : Result (List E) (ScheduleRefusal Stopped)) (e : CommandFault) (c : Course) → AreAlikeReads v w → DrawnBy asked whole v (Err e) → DrawnBy asked other w (Ok c) → ⊥
  no_course_of (Ok es) w e c same p q = p
  no_course_of (Err r) (Ok ds) e c same p q = same
  no_course_of (Err r) (Err q) e c same p other_is = no_row r q e c same p other_is

  pub one_fault_drawn : (file : Option (List ℕ)) (e f : CommandFault) → drawn_verdict (drawing_by rules first) asked whole file (Err e) → drawn_verdict (drawing_by rules second) asked other file (Err f) → e ≡ f
  unfolding drawn_verdict
  one_fault_drawn None e f p q = same_refusal e f (p ∙ sym q)
  one_fault_drawn (Some bytes) e f p q = one_fault_of _ _ e f (alike bytes) p q

  pub no_course_drawn : (file : Option (List ℕ)) (e : CommandFault) (c : Course) → drawn_verdict (drawing_by rules first) asked whole file (Err e) → drawn_verdict (drawing_by rules second) asked other file (Ok c) → ⊥
  unfolding drawn_verdict
  no_course_drawn None e c p q = cc
  no_course_drawn (Some bytes) e c p q = no_course_of _ _ e c (alike bytes) p q

module _ (asked : Asked) (cross other : List Crossing) (s : Shape) (t : Timing) (rows : ℕ) where
  pub one_fault : (file : Option (List ℕ)) (e f : CommandFault) → course_verdict asked cross s t rows file (Err e) → course_verdict asked other s t rows file (Err f) → e ≡ f
  unfolding course_verdict
  one_fault file e f p q = one_fault_drawn (rules_of s t rows) (stopped_at asked cross s t rows) (stopped_at asked other s t rows) asked (whole_course cross s t rows) (whole_course other s t rows) file e f p q

  pub no_course : (file : Option (List ℕ)) (e : CommandFault) (c : Course) → course_verdict asked cross s t rows file (Err e) → course_verdict asked other s t rows file (Ok c) → ⊥
  unfolding course_verdict
  no_course file e c p q = no_course_drawn (rules_of s t rows) (stopped_at asked cross s t rows) (stopped_at asked other s t rows) asked (whole_course cross s t rows) (whole_course other s t rows) file e c p q
