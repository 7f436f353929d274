-- The file of a list reads back to it.
use Rattle.std.proofs.Common.{◌≡◌, ℕ, suc, ◌+◌, ◌*◌, ◌^◌, ◌<◌, ◌≤◌, ◌==◌, Bool, true, false, not, List, [], ◌∷◌, ◌++◌, length, map, Ok, if◌then◌else◌, refl, sym, ap, subst, ◌∙◌, arith, lit<, lit≤, append_assoc, get_or}
use Rattle.std.specs.Prelude.{codes}
use Rattle.std.specs.Fmt.{decimal}
use Rattle.std.specs.List.{list_all, All}
use Rattle.std.proofs.lemmas.List.{length-append}
use Rattle.std.proofs.lemmas.List.Splits.{slice_split_at}
use Rattle.std.proofs.lemmas.List.Sums.{AllPass-from_list_all}
use Rattle.std.proofs.lemmas.List.Elements.{All-from_get_or, All-append, All-cons, All-nil, All-weaker, All-head, All-tail}
use Rattle.std.proofs.lemmas.Bool.Decides.{nat_tests}
use Rattle.std.proofs.lemmas.Fmt.{length-decimal-le}
use Rattle.std.proofs.lemmas.Str.Parse.{digit_at}
use Rattle.lt_arch.specs.declared.chan.ChanKind.{ChanKind}
use Rattle.lt_arch.specs.declared.chan.ChanKind.TheVariants.{Data, Ack}
use Rattle.lt_arch.specs.declared.event.Event.{Event}
use Rattle.lt_arch.specs.declared.event.Event.TheVariants.{Act, Del, End}
use Rattle.lt_arch.specs.declared.shape.Shape.{Shape}
use Rattle.lt_arch.specs.declared.timing.Timing.{Timing}
use Rattle.lt_arch.specs.Readers.{chan_of}
use Rattle.lt_arch.specs.Schedule.{IsEventOf, IsAdmissible}
use Rattle.lt_rows.specs.Rows.{FileRow, is_line_feed, lines_of, is_blank_line, bytes_held, rows_from, rows_of}
use Rattle.lt_rows.specs.Events.{node_name, ends_text}
use Rattle.lt_rows.specs.Fields.{fields_of}
use Rattle.lt_rows.specs.Texts.{event_text, kind_text}
use Rattle.lt_rows.proofs.Cuts.{rows_over, rows_cons, held_short, some_lines}
use Rattle.lt_rows.proofs.Readback.{Lacks, named, lacks_word, digits_of, chan_ends, ends_short, reads_back}
use Rattle.lt_schedule.specs.Verdict.{verdict}
use Rattle.lt_schedule.specs.Settled.{RowIsWithin, event_in_row, read_event, ReadAs, settled}
use Rattle.lt_schedule.proofs.Settling.{settles_rows}
use Rattle.lt_sim.specs.File.{rows_text, header_text, file_text}

-- A row is not blank, is short and holds no line feed.
record IsLine (line : List ℕ) : Type 0 where
  some : 2 ≤ length line
  short : length line ≤ 151
  lacks : Lacks 10 line

time_lacks : (n : ℕ) → n < 2 ^ 64 → Lacks 10 (decimal n)
time_lacks n h = All-from_get_or (λ b. (b == 10) ≡ false) (decimal n) 0 (λ i within. let digit = digit_at (decimal n) i (digits_of n h) within in other (get_or (decimal n) i 0) digit.0)
  where
    other : (b : ℕ) → 48 ≤ b → (b == 10) ≡ false
    other b low = grind (arith, nat_tests)

lacks_codes : (text : List ℕ) → list_all (λ b. not (b == 10)) text ≡ true → Lacks 10 text
lacks_codes text is = All-weaker (λ b. not (b == 10) ≡ true) (λ b. (b == 10) ≡ false) (λ b. flip (b == 10)) text (AllPass-from_list_all (λ b. not (b == 10)) text is)
  where
    flip : (t : Bool) → not t ≡ true → t ≡ false
    flip true is = absurd cc
    flip false is = refl

-- a time, a comma, and a place that is one
timed_line : (at : ℕ) (place : List ℕ) → at ≤ 1000000000000000 → 1 ≤ length place → length place ≤ 134 → Lacks 10 place → IsLine (decimal at ++ 44 ∷ place)
timed_line at place few some short lacks =
    let h : at < 2 ^ 64 = omega (arith, few) in
    let digits : length (decimal at) ≤ 16 = length-decimal-le 16 at (lit< tt) (omega (arith, few)) h in
    let size = length-append (decimal at) (44 ∷ place) in
    record {
      some = omega (arith, size, some);
      short = omega (arith, size, digits, short);
      lacks = All-append (λ b. (b == 10) ≡ false) (decimal at) (44 ∷ place) (time_lacks at h) (All-cons (λ b. (b == 10) ≡ false) 44 place refl lacks);
    }

ends_lack : (s : Shape) (c : ℕ) → c < length s.channels → Lacks 10 (ends_text s (chan_of s c))
ends_lack s c lt =
    let has = chan_ends s c lt in
    All-append (λ b. (b == 10) ≡ false) (node_name s (chan_of s c).from) (62 ∷ node_name s (chan_of s c).to) (lacks_word 10 (node_name s (chan_of s c).from) refl (named s (chan_of s c).from has.from_in).bytes)
    (All-cons (λ b. (b == 10) ≡ false) 62 (node_name s (chan_of s c).to) refl (lacks_word 10 (node_name s (chan_of s c).to) refl (named s (chan_of s c).to has.to_in).bytes))

kind_lacks : (k : ChanKind) → Lacks 10 (kind_text k)
kind_lacks Data = lacks_codes (codes "data") refl
kind_lacks Ack = lacks_codes (codes "ack") refl

kind_short : (k : ChanKind) → length (kind_text k) ≤ 4
kind_short Data = lit≤ tt
kind_short Ack = lit≤ tt

line_is : (s : Shape) (e : Event) → IsEventOf s e → IsLine (event_text s e)
line_is s (Act n at) is =
    let name = named s n is.placed in
    let size = length-append (codes "act,") (node_name s n) in
    let short = name.short in
    timed_line at (codes "act," ++ node_name s n) is.timely (omega (arith, size)) (omega (arith, size, short))
    (All-append (λ b. (b == 10) ≡ false) (codes "act,") (node_name s n) (lacks_codes (codes "act,") refl) (lacks_word 10 (node_name s n) refl name.bytes))
line_is s (Del c at) is =
    let kind = (chan_of s c).kind in
    let ends = ends_text s (chan_of s c) in
    let size = length-append (kind_text kind) (44 ∷ ends) in
    let short = ends_short s (chan_of s c) (chan_ends s c is.placed) in
    let few = kind_short kind in
    timed_line at (kind_text kind ++ 44 ∷ ends) is.timely (omega (arith, size)) (omega (arith, size, short, few))
    (All-append (λ b. (b == 10) ≡ false) (kind_text kind) (44 ∷ ends) (kind_lacks kind) (All-cons (λ b. (b == 10) ≡ false) 44 ends refl (ends_lack s c is.placed)))
line_is s (End at) is = timed_line at (codes "end,") is.timely (lit≤ tt) (lit≤ tt) (lacks_codes (codes "end,") refl)

not_blank : (line : List ℕ) → 2 ≤ length line → is_blank_line line ≡ false
not_blank [] some = absurd (omega (arith, some))
not_blank (b ∷ []) some = absurd (omega (arith, some))
not_blank (b ∷ c ∷ line) some = refl

-- The rows of a text that begins with such a line.

row_step : (p : ℕ) (line rest : List ℕ) → IsLine line → rows_from p (lines_of ((line ++ 10 ∷ []) ++ rest)) ≡ record { line = line; ends = p + (length line + 1) } ∷ rows_from (p + (length line + 1)) (lines_of rest)
unfolding lines_of
row_step p line rest is =
    let short = is.short in
    let held : bytes_held line (lines_of rest) ≡ length line + 1 = held_short line (lines_of rest) (omega (arith, short)) ∙ ap (λ n. length line + n) (some_lines rest) in
    ap (λ (l : List ℕ). rows_from p (lines_of l)) (append_assoc line (10 ∷ []) rest)
    ∙ (ap (rows_from p) (slice_split_at is_line_feed line 10 rest is.lacks refl)
    ∙ (rows_cons p (length line + 1) line (lines_of rest) held
    ∙ ap (λ (b : Bool). if b then rows_from (p + (length line + 1)) (lines_of rest) else record { line = line; ends = p + (length line + 1) } ∷ rows_from (p + (length line + 1)) (lines_of rest)) (not_blank line is.some)))

-- the rows of these events, of which the first begins at a place
rows_at : Shape → (p : ℕ) → List Event → List FileRow
rows_at s p [] = []
rows_at s p (e ∷ es) = record { line = event_text s e; ends = p + (length (event_text s e) + 1) } ∷ rows_at s (p + (length (event_text s e) + 1)) es

module _ (s : Shape) where
  rows_are : (p : ℕ) (es : List Event) → All (IsEventOf s) es → rows_from p (lines_of (rows_text s es)) ≡ rows_at s p es
  unfolding rows_at
  rows_are p [] all = rows_over p
  rows_are p (e ∷ es) all =
      row_step p (event_text s e) (rows_text s es) (line_is s e (All-head (IsEventOf s) e es all))
      ∙ ap (λ (rows : List FileRow). record { line = event_text s e; ends = p + (length (event_text s e) + 1) } ∷ rows) (rows_are (p + (length (event_text s e) + 1)) es (All-tail (IsEventOf s) e es all))

  rows-length : (p : ℕ) (es : List Event) → length (rows_at s p es) ≡ length es
  unfolding rows_at
  rows-length p [] = refl
  rows-length p (e ∷ es) = ap suc (rows-length (p + (length (event_text s e) + 1)) es)

  rows-read : (p : ℕ) (es : List Event) → All (IsEventOf s) es → map (event_in_row s) (rows_at s p es) ≡ map read_event es
  unfolding rows_at
  rows-read p [] all = refl
  rows-read p (e ∷ es) all = λ i. reads_back s e (All-head (IsEventOf s) e es all) i ∷ rows-read (p + (length (event_text s e) + 1)) es (All-tail (IsEventOf s) e es all) i

  -- each row ends by the end of the text, and a row is short
  text-short : (es : List Event) → All (IsEventOf s) es → length (rows_text s es) ≤ 152 * length es
  text-short [] all = omega arith
  text-short (e ∷ es) all =
      let rest : length (rows_text s es) ≤ 152 * length es = text-short es (All-tail (IsEventOf s) e es all) in
      let short = (line_is s e (All-head (IsEventOf s) e es all)).short in
      let size = length-append (event_text s e ++ 10 ∷ []) (rows_text s es) in
      let row = length-append (event_text s e) (10 ∷ []) in
      omega (arith, rest, short, size, row)

  rows-within : (p : ℕ) (es : List Event) → p + length (rows_text s es) ≤ 1073741824 → All RowIsWithin (rows_at s p es)
  unfolding rows_at
  rows-within p [] few = All-nil RowIsWithin
  rows-within p (e ∷ es) few =
      let size = length-append (event_text s e ++ 10 ∷ []) (rows_text s es) in
      let row = length-append (event_text s e) (10 ∷ []) in
      All-cons RowIsWithin (record { line = event_text s e; ends = p + (length (event_text s e) + 1) }) (rows_at s (p + (length (event_text s e) + 1)) es) (omega (arith, few, size, row)) (rows-within (p + (length (event_text s e) + 1)) es (omega (arith, few, size, row)))

header_is : IsLine (codes "time,event,place")
header_is = record { some = lit≤ tt; short = lit≤ tt; lacks = lacks_codes (codes "time,event,place") refl }

-- the file of a list within the limit reads as the list
pub file_reads : (s : Shape) (es : List Event) → All (IsEventOf s) es → length es ≤ 5000000 → ReadAs s (length (file_text s es)) (rows_of (file_text s es)) es
unfolding fields_of
file_reads s es all few =
    let size = length-append header_text (rows_text s es) in
    let short = text-short s es all in
    let within : length (file_text s es) ≤ 1073741824 = omega (arith, size, short, few) in
    let left : rows_of (file_text s es) ≡ record { line = codes "time,event,place"; ends = 17 } ∷ rows_at s 17 es =
    row_step 0 (codes "time,event,place") (rows_text s es) header_is ∙ ap (λ (rows : List FileRow). record { line = codes "time,event,place"; ends = 17 } ∷ rows) (rows_are s 17 es all) in
    record {
      header = record { line = codes "time,event,place"; ends = 17 };
      later = rows_at s 17 es;
      left_is = left;
      header_reads = refl;
      events_read = rows-read s 17 es all;
      few = let n = rows-length s 17 es in omega (arith, n, few);
      rows_within = subst (All RowIsWithin) (sym left) (All-cons RowIsWithin (record { line = codes "time,event,place"; ends = 17 }) (rows_at s 17 es) (lit≤ tt) (rows-within s 17 es (omega (arith, size, within))));
      end_within = within;
    }

-- and where the list is admissible, it is accepted
pub file_accepted : (s : Shape) (t : Timing) (rows : ℕ) (es : List Event) → All (IsEventOf s) es → length es ≤ 5000000 → IsAdmissible s t rows es → verdict s t rows (file_text s es) ≡ Ok es
file_accepted s t rows es all few ok =
    settles_rows s t rows (length (file_text s es)) (rows_of (file_text s es)) es (file_reads s es all few) ∙ ap (settled es) ok
