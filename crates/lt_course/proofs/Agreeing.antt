-- What is drawn of a schedule file is what a run's verdict says of it.
use Rattle.std.proofs.Common.{◌≡◌, ◌∙◌, ℕ, ◌+◌, nat_lt, Bool, true, false, List, [], ◌∷◌, ◌++◌, length, drop, Option, Some, None, Result, Ok, Err, is_some, if◌then◌else◌, refl, sym, ap, length-append}
use Rattle.std.specs.Prelude.{option_map}
use Rattle.lt_arch.specs.declared.event.Offence.TheVariants.{NoEnd}
use Rattle.lt_arch.specs.declared.shape.Shape.{Shape}
use Rattle.lt_arch.specs.declared.timing.Timing.{Timing}
use Rattle.lt_arch.specs.Schedule.{reached}
use Rattle.lt_lossy.specs.declared.event.LossyOffence.{LossyOffence}
use Rattle.lt_lossy.specs.declared.event.LossyOffence.TheVariants.{Common}
use Rattle.lt_place_reads.specs.declared.crossing.Crossing.{Crossing}
use Rattle.lt_rows.specs.declared.fault.RowFault.{RowFault}
use Rattle.lt_rows.specs.declared.fault.RowFault.TheVariants.{Header}
use Rattle.lt_rows.specs.Limits.{most_bytes}
use Rattle.lt_rows.specs.Events.{header_fault}
use Rattle.lt_rows.specs.Rows.{FileRow, rows_of}
use Rattle.lt_schedule.specs.declared.halt.ScheduleRefusal.{ScheduleRefusal}
use Rattle.lt_schedule.specs.declared.halt.ScheduleRefusal.TheVariants as refusal
use Rattle.lt_schedule.specs.Rules.{Rules, file_judged_by, header_refusal, judged_behind, row_event, row_zero, unless_fault, unless_missing, unless_offence, unless_refused}
use Rattle.lt_schedule.specs.Verdict.{rules_of}
use Rattle.lt_tape.specs.declared.asked.Asked.{Asked}
use Rattle.lt_course.specs.declared.course.Stopped.{Stopped}
use Rattle.lt_course.specs.Agreed.{AgreesWith}
use Rattle.lt_course.specs.Courses.{drawing_rules, stopped_at}
use Rattle.lt_course.specs.Whole.{drawing_by}

-- the only offence of a list that stops is the missing end
abbrev pub EndsSo : {O : Type 0} → (no_end : O) → Option O → Type 0
EndsSo no_end None = Unit {0}
EndsSo no_end (Some o) = o ≡ no_end

pub ends_unless : {O : Type 0} (no_end : O) (ended : Bool) → EndsSo no_end (if ended then None else Some no_end)
ends_unless no_end true = tt
ends_unless no_end false = refl

module _ {E O : Type 0} (told : O → LossyOffence) (no_end : O) (rules : Rules E O) (stopped : List E → E → O → Stopped) (tells : (before : List E) (e : E) (o : O) → (stopped before e o).refused.offence ≡ told o)
    (ends : (before : List E) → EndsSo no_end (rules.missing before)) where
  abbrev Judged : Type 0
  Judged = Result (List E) (ScheduleRefusal O)

  abbrev Drawn : Type 0
  Drawn = Result (List E) (ScheduleRefusal Stopped)

  agrees_bytes : (past : Bool) (r : Judged) (q : Drawn) → AgreesWith told no_end r q → AgreesWith told no_end (if past then Err refusal.Bytes else r) (if past then Err refusal.Bytes else q)
  agrees_bytes true r q same = tt
  agrees_bytes false r q same = same

  agrees_missing : (o : Option O) (n : ℕ) (before : List E) → EndsSo no_end o → n ≡ length before + 1 → AgreesWith told no_end (unless_missing n o before) (Ok before)
  agrees_missing None n before so number = refl
  agrees_missing (Some o) n before so number = (so, number)

  agrees_fault : (n : ℕ) (read : Result E RowFault) (f : E → Judged) (g : E → Drawn) → ((e : E) → AgreesWith told no_end (f e) (g e)) → AgreesWith told no_end (unless_fault n read f) (unless_fault n read g)
  agrees_fault n (Err fault) f g later = (refl, refl)
  agrees_fault n (Ok e) f g later = later e

  agrees_offence : (n : ℕ) (before : List E) (e : E) (o : Option O) (r : Judged) (q : Drawn) → AgreesWith told no_end r q → AgreesWith told no_end (unless_offence n o r) (unless_offence n (option_map (stopped before e) o) q)
  agrees_offence n before e None r q later = later
  agrees_offence n before e (Some o) r q later = (refl, tells before e o)

  agrees_behind : (left : List FileRow) (before : List E) (n end : ℕ) → n ≡ length before + 1 → AgreesWith told no_end (judged_behind rules before n end left) (judged_behind (drawing_by rules stopped) before n end left)
  unfolding judged_behind
  agrees_behind [] before n end number = agrees_bytes (nat_lt most_bytes end) _ _ (agrees_missing (rules.missing before) n before (ends before) number)
  agrees_behind (row ∷ later) before n end number =
      agrees_bytes (nat_lt most_bytes row.ends) _ _
      (agrees_fault n (row_event rules n row.line) _ _ (λ e. agrees_offence n before e (rules.offence before e) _ _
      (agrees_behind later (before ++ e ∷ []) (n + 1) end (ap (λ (k : ℕ). k + 1) (number ∙ sym (length-append before (e ∷ [])))))))

  agrees_zero : (f : Option RowFault) (r : Judged) (q : Drawn) → AgreesWith told no_end r q → AgreesWith told no_end (unless_refused (row_zero f) r) (unless_refused (row_zero f) q)
  agrees_zero None r q later = later
  agrees_zero (Some f) r q later = (refl, refl)

  agrees_past : (past : Bool) (f : Option RowFault) (r : Judged) (q : Drawn) → AgreesWith told no_end r q → AgreesWith told no_end (unless_refused (if past then Some refusal.Bytes else row_zero f) r) (unless_refused (if past then Some refusal.Bytes else row_zero f) q)
  agrees_past true f r q later = tt
  agrees_past false f r q later = agrees_zero f r q later

  agrees_header : (end : ℕ) (left : List FileRow) (r : Judged) (q : Drawn) → AgreesWith told no_end r q → AgreesWith told no_end (unless_refused (header_refusal end left) r) (unless_refused (header_refusal end left) q)
  unfolding header_refusal
  agrees_header end [] r q later = agrees_past (nat_lt most_bytes end) (Some Header) r q later
  agrees_header end (row ∷ left) r q later = agrees_past (nat_lt most_bytes row.ends) (header_fault row.line) r q later

  pub agrees_drawn : (bytes : List ℕ) → AgreesWith told no_end (file_judged_by rules bytes) (file_judged_by (drawing_by rules stopped) bytes)
  agrees_drawn bytes = agrees_header (length bytes) (rows_of bytes) _ _ (agrees_behind (drop 1 (rows_of bytes)) [] 1 (length bytes) refl)

pub agrees_file : (asked : Asked) (cross : List Crossing) (s : Shape) (t : Timing) (rows : ℕ) (bytes : List ℕ) → AgreesWith Common NoEnd (file_judged_by (rules_of s t rows) bytes) (file_judged_by (drawing_rules asked cross s t rows) bytes)
agrees_file asked cross s t rows bytes =
    agrees_drawn Common NoEnd (rules_of s t rows) (stopped_at asked cross s t rows) (λ before e o. refl) (λ before. ends_unless NoEnd (is_some (reached s t rows before).horizon)) bytes
