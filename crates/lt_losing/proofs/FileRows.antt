-- The file of a list reads back to it.
use Rattle.std.proofs.Common.{◌≡◌, ℕ, ◌+◌, ◌*◌, ◌≤◌, Bool, true, false, List, [], ◌∷◌, ◌++◌, length, drop, Option, Some, None, Ok, Err, is_some, if◌then◌else◌, refl, sym, ap, subst, ◌∙◌, arith, lit≤, append_assoc}
use Rattle.std.specs.Prelude.{codes}
use Rattle.std.specs.List.{All}
use Rattle.std.proofs.lemmas.List.{length-append, append-nil}
use Rattle.std.proofs.lemmas.List.Splits.{slice_split_at}
use Rattle.std.proofs.lemmas.List.Elements.{All-head, All-tail}
use Rattle.lt_arch.specs.declared.event.Offence.TheVariants.{NoEnd}
use Rattle.lt_arch.specs.declared.shape.Shape.{Shape}
use Rattle.lt_arch.specs.declared.timing.Timing.{Timing}
use Rattle.lt_rows.specs.Fields.{fields_of}
use Rattle.lt_rows.specs.Events.{header_fault}
use Rattle.lt_rows.specs.Rows.{FileRow, is_line_feed, lines_of, is_blank_line, bytes_held, rows_from, rows_of}
use Rattle.lt_rows.proofs.Cuts.{rows_over, rows_cons, held_short, some_lines}
use Rattle.lt_schedule.specs.declared.halt.ScheduleRefusal.{ScheduleRefusal}
use Rattle.lt_schedule.specs.declared.halt.ScheduleRefusal.TheVariants.{Bytes}
use Rattle.lt_schedule.specs.Rules.{unless_missing, row_zero, header_refusal, unless_refused, judged_behind, file_judged_by}
use Rattle.lt_schedule.proofs.Steps.{not_past, event_few, judged_event}
use Rattle.lt_lossy.specs.declared.event.LossyEvent.{LossyEvent}
use Rattle.lt_lossy.specs.declared.event.LossyOffence.{LossyOffence}
use Rattle.lt_lossy.specs.declared.event.LossyOffence.TheVariants.{Common}
use Rattle.lt_lossy.specs.State.{LossyState, lossy_start}
use Rattle.lt_lossy.specs.Step.{lossy_after}
use Rattle.lt_lossy.specs.Events.{IsLossyEventOf}
use Rattle.lt_lossy.specs.Schedule.{lossy_after_all, lossy_reached, HasNoLossyOffence}
use Rattle.lt_net_lossy.specs.Rules.{lossy_rules_of}
use Rattle.lt_sim.specs.File.{header_text}
use Rattle.lt_losing.specs.LossyFile.{lossy_event_text, lossy_rows_text, lossy_file_text}
use Rattle.lt_losing.proofs.LossyRows.{lacks_codes, line_is, lossy_reads_back}

not_blank : (line : List ℕ) → 2 ≤ length line → is_blank_line line ≡ false
not_blank [] some = absurd (omega (arith, some))
not_blank (b ∷ []) some = absurd (omega (arith, some))
not_blank (b ∷ c ∷ line) some = refl

-- The rows of a text that begins with such a line.

row_step : (p : ℕ) (line rest : List ℕ) → 2 ≤ length line → length line ≤ 4096 → All (λ b. is_line_feed b ≡ false) line
    → rows_from p (lines_of ((line ++ 10 ∷ []) ++ rest)) ≡ record { line = line; ends = p + (length line + 1) } ∷ rows_from (p + (length line + 1)) (lines_of rest)
unfolding lines_of
row_step p line rest some short lacks =
    let held : bytes_held line (lines_of rest) ≡ length line + 1 = held_short line (lines_of rest) short ∙ ap (λ n. length line + n) (some_lines rest) in
    ap (λ (l : List ℕ). rows_from p (lines_of l)) (append_assoc line (10 ∷ []) rest)
    ∙ (ap (rows_from p) (slice_split_at is_line_feed line 10 rest lacks refl)
    ∙ (rows_cons p (length line + 1) line (lines_of rest) held
    ∙ ap (λ (b : Bool). if b then rows_from (p + (length line + 1)) (lines_of rest) else record { line = line; ends = p + (length line + 1) } ∷ rows_from (p + (length line + 1)) (lines_of rest)) (not_blank line some)))

-- the rows of these events, of which the first begins at a place
rows_at : Shape → (p : ℕ) → List LossyEvent → List FileRow
rows_at s p [] = []
rows_at s p (e ∷ es) = record { line = lossy_event_text s e; ends = p + (length (lossy_event_text s e) + 1) } ∷ rows_at s (p + (length (lossy_event_text s e) + 1)) es

module _ (s : Shape) where
  rows_are : (p : ℕ) (es : List LossyEvent) → All (IsLossyEventOf s) es → rows_from p (lines_of (lossy_rows_text s es)) ≡ rows_at s p es
  unfolding rows_at
  rows_are p [] all = rows_over p
  rows_are p (e ∷ es) all =
      let line = line_is s e (All-head (IsLossyEventOf s) e es all) in
      let short = line.short in
      row_step p (lossy_event_text s e) (lossy_rows_text s es) line.some (omega (arith, short)) line.lacks
      ∙ ap (λ (rows : List FileRow). record { line = lossy_event_text s e; ends = p + (length (lossy_event_text s e) + 1) } ∷ rows) (rows_are (p + (length (lossy_event_text s e) + 1)) es (All-tail (IsLossyEventOf s) e es all))

  -- a row is short
  text-short : (es : List LossyEvent) → All (IsLossyEventOf s) es → length (lossy_rows_text s es) ≤ 156 * length es
  text-short [] all = omega arith
  text-short (e ∷ es) all =
      let rest : length (lossy_rows_text s es) ≤ 156 * length es = text-short es (All-tail (IsLossyEventOf s) e es all) in
      let short = (line_is s e (All-head (IsLossyEventOf s) e es all)).short in
      let size = length-append (lossy_event_text s e ++ 10 ∷ []) (lossy_rows_text s es) in
      let row = length-append (lossy_event_text s e) (10 ∷ []) in
      omega (arith, rest, short, size, row)

after_push : (s : Shape) (t : Timing) (rows : ℕ) (st : LossyState) (es : List LossyEvent) (e : LossyEvent) → lossy_after_all s t rows st (es ++ e ∷ []) ≡ lossy_after s t rows (lossy_after_all s t rows st es) e
after_push s t rows st [] e = refl
after_push s t rows st (d ∷ es) e = after_push s t rows (lossy_after s t rows st d) es e

module _ (s : Shape) (t : Timing) (limit rows end : ℕ) (low : end ≤ 1073741824) where
  -- the events of the rows behind some others, where none has an offence and the list ends
  judged : (p : ℕ) (before : List LossyEvent) (number : ℕ) (es : List LossyEvent) → All (IsLossyEventOf s) es → p + length (lossy_rows_text s es) ≤ 1073741824 → number + length es ≤ 5000001
      → HasNoLossyOffence s t limit rows (lossy_reached s t rows before) es → is_some (lossy_after_all s t rows (lossy_reached s t rows before) es).horizon ≡ true
      → judged_behind (lossy_rules_of s t limit rows) before number end (rows_at s p es) ≡ Ok (before ++ es)
  unfolding rows_at judged_behind
  judged p before number [] all within few free ends =
      ap (λ (b : Bool). if b then Err Bytes else unless_missing number (if is_some (lossy_reached s t rows before).horizon then None else Some (Common NoEnd)) before) (not_past end low)
      ∙ (ap (λ (b : Bool). unless_missing number (if b then None else Some (Common NoEnd)) before) ends
      ∙ ap (λ (l : List LossyEvent). Ok l) (sym (append-nil before)))
  judged p before number (e ∷ es) all within few free ends =
      let size = length-append (lossy_event_text s e ++ 10 ∷ []) (lossy_rows_text s es) in
      let row = length-append (lossy_event_text s e) (10 ∷ []) in
      let next : ℕ = p + (length (lossy_event_text s e) + 1) in
      let first : FileRow = record { line = lossy_event_text s e; ends = next } in
      let pushed : lossy_reached s t rows (before ++ e ∷ []) ≡ lossy_after s t rows (lossy_reached s t rows before) e = after_push s t rows lossy_start before e in
      let reads = event_few (lossy_rules_of s t limit rows) number (lossy_event_text s e) (omega (arith, few)) ∙ lossy_reads_back s e (All-head (IsLossyEventOf s) e es all) in
      let rest = judged next (before ++ e ∷ []) (number + 1) es (All-tail (IsLossyEventOf s) e es all) (omega (arith, within, size, row)) (omega (arith, few))
      (subst (λ (st : LossyState). HasNoLossyOffence s t limit rows st es) (sym pushed) free.1) (subst (λ (st : LossyState). is_some (lossy_after_all s t rows st es).horizon ≡ true) (sym pushed) ends) in
      judged_event (lossy_rules_of s t limit rows) before number end first (rows_at s next es) (omega (arith, within, size, row)) e reads free.0
      ∙ (rest ∙ ap (λ (l : List LossyEvent). Ok l) (append_assoc before (e ∷ []) es))

header_lacks : All (λ b. is_line_feed b ≡ false) (codes "time,event,place")
header_lacks = lacks_codes 10 (codes "time,event,place") refl

-- the file of a list that is not too long, has no offence and ends
pub file_judged : (s : Shape) (t : Timing) (limit rows : ℕ) (es : List LossyEvent) → All (IsLossyEventOf s) es → length es ≤ 5000000 → HasNoLossyOffence s t limit rows lossy_start es
    → is_some (lossy_reached s t rows es).horizon ≡ true → file_judged_by (lossy_rules_of s t limit rows) (lossy_file_text s es) ≡ Ok es
unfolding fields_of header_refusal
file_judged s t limit rows es all few free ends =
    let size = length-append header_text (lossy_rows_text s es) in
    let short = text-short s es all in
    let within : length (lossy_file_text s es) ≤ 1073741824 = omega (arith, size, short, few) in
    let end : ℕ = length (lossy_file_text s es) in
    let header : FileRow = record { line = codes "time,event,place"; ends = 17 } in
    let left : rows_of (lossy_file_text s es) ≡ header ∷ rows_at s 17 es =
    row_step 0 (codes "time,event,place") (lossy_rows_text s es) (lit≤ tt) (lit≤ tt) header_lacks ∙ ap (λ (rows : List FileRow). header ∷ rows) (rows_are s 17 es all) in
    let none : header_refusal {O = LossyOffence} end (header ∷ rows_at s 17 es) ≡ None =
    ap (λ (b : Bool). if b then Some Bytes else row_zero (header_fault header.line)) (not_past 17 (lit≤ tt)) in
    ap (λ (found : List FileRow). unless_refused (header_refusal end found) (judged_behind (lossy_rules_of s t limit rows) [] 1 end (drop 1 found))) left
    ∙ (ap (λ (r : Option (ScheduleRefusal LossyOffence)). unless_refused r (judged_behind (lossy_rules_of s t limit rows) [] 1 end (rows_at s 17 es))) none
    ∙ judged s t limit rows end within 17 [] 1 es all (omega (arith, size, within)) (omega (arith, few)) free ends)
