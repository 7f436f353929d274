-- A row that was written is not blank, is short, holds no line feed and reads back.
use Rattle.std.proofs.Common.{◌≡◌, ◌≢◌, ℕ, ◌-◌, ◌^◌, ◌<◌, ◌≤◌, ◌==◌, Bool, true, false, not, List, [], ◌∷◌, ◌++◌, length, take, Option, Some, Ok, if◌then◌else◌, refl, sym, ap, subst, ◌∙◌, arith, lit<, lit≤, append_assoc, get_or, ne_eqb}
use Rattle.std.specs.Prelude.{codes}
use Rattle.std.specs.Fmt.{decimal}
use Rattle.std.specs.List.{list_all}
use Rattle.std.proofs.lemmas.List.{length-append, get_or-append_right}
use Rattle.std.proofs.lemmas.List.Splits.{slice_split_at, slice_split_none}
use Rattle.std.proofs.lemmas.List.Sums.{AllPass-from_list_all}
use Rattle.std.proofs.lemmas.List.Elements.{All-from_get_or, All-append, All-cons, All-weaker}
use Rattle.std.proofs.lemmas.Bool.{false≢true}
use Rattle.std.proofs.lemmas.Fmt.{length-decimal-le}
use Rattle.std.proofs.lemmas.Str.Parse.{digit_at}
use Rattle.lt_base.specs.Digits.{up_to}
use Rattle.lt_base.proofs.Digits.{number_back, at_end}
use Rattle.lt_arch.specs.declared.chan.ChanKind.{ChanKind}
use Rattle.lt_arch.specs.declared.chan.ChanKind.TheVariants.{Data, Ack}
use Rattle.lt_arch.specs.declared.event.Event.TheVariants.{Act, Del, End}
use Rattle.lt_arch.specs.declared.shape.Shape.{Shape}
use Rattle.lt_arch.specs.Names.{is_word_byte}
use Rattle.lt_arch.specs.Readers.{chan_of}
use Rattle.lt_rows.specs.Events.{time_in, chan_named, node_name, ends_text}
use Rattle.lt_rows.specs.Fields.{is_comma, without_return, three_of, fields_of}
use Rattle.lt_rows.specs.Texts.{kind_text}
use Rattle.lt_rows.proofs.Commas.{fields_are}
use Rattle.lt_rows.proofs.Readback.{Lacks, IsName, named, lacks_word, digits_of, chan_back, chan_ends, ends_short, reads_back}
use Rattle.lt_lossy.specs.declared.event.LossyEvent.{LossyEvent}
use Rattle.lt_lossy.specs.declared.event.LossyEvent.TheVariants.{Plain, Lose}
use Rattle.lt_lossy.specs.Events.{loss_event, lossy_event_at, timed_lossy_event, lossy_event_in, lossy_event_of, IsLossyEventOf}
use Rattle.lt_lossy.proofs.Rows.{plain-line, is_event}
use Rattle.lt_losing.specs.LossyFile.{loss_kind_text, lossy_event_text}

-- Bytes that a row lacks: 10 is a line feed, and 44 a comma.

time_lacks : (mark n : ℕ) → mark < 48 → n < 2 ^ 64 → Lacks mark (decimal n)
time_lacks mark n low h = All-from_get_or (λ b. (b == mark) ≡ false) (decimal n) 0 (λ i within. let digit = digit_at (decimal n) i (digits_of n h) within in other (get_or (decimal n) i 0) digit.0)
  where
    other : (b : ℕ) → 48 ≤ b → (b == mark) ≡ false
    other b digit = ne_eqb b mark (λ e. absurd (omega (arith, e, digit, low)))

pub lacks_codes : (mark : ℕ) (text : List ℕ) → list_all (λ b. not (b == mark)) text ≡ true → Lacks mark text
lacks_codes mark text is = All-weaker (λ b. not (b == mark) ≡ true) (λ b. (b == mark) ≡ false) (λ b. flip (b == mark)) text (AllPass-from_list_all (λ b. not (b == mark)) text is)
  where
    flip : (t : Bool) → not t ≡ true → t ≡ false
    flip true is = absurd (false≢true is)
    flip false is = refl

lacks_join : (mark sep : ℕ) (a b : List ℕ) → (sep == mark) ≡ false → Lacks mark a → Lacks mark b → Lacks mark (a ++ sep ∷ b)
lacks_join mark sep a b other la lb = All-append (λ b. (b == mark) ≡ false) a (sep ∷ b) la (All-cons (λ b. (b == mark) ≡ false) sep b other lb)

module _ (s : Shape) (c : ℕ) (lt : c < length s.channels) where
  ends_lack : (mark : ℕ) → is_word_byte mark ≡ false → (62 == mark) ≡ false → Lacks mark (ends_text s (chan_of s c))
  ends_lack mark outside other =
      let has = chan_ends s c lt in
      lacks_join mark 62 (node_name s (chan_of s c).from) (node_name s (chan_of s c).to) other
      (lacks_word mark (node_name s (chan_of s c).from) outside (named s (chan_of s c).from has.from_in).bytes) (lacks_word mark (node_name s (chan_of s c).to) outside (named s (chan_of s c).to has.to_in).bytes)

-- A row as a line.
pub record IsLine (line : List ℕ) : Type 0 where
  pub some : 2 ≤ length line
  pub short : length line ≤ 155
  pub lacks : Lacks 10 line

-- a time, a comma, and a place that is one
timed_line : (at : ℕ) (place : List ℕ) → at ≤ 1000000000000000 → 1 ≤ length place → length place ≤ 138 → Lacks 10 place → IsLine (decimal at ++ 44 ∷ place)
timed_line at place few some short lacks =
    let h : at < 2 ^ 64 = omega (arith, few) in
    let digits : length (decimal at) ≤ 16 = length-decimal-le 16 at (lit< tt) (omega (arith, few)) h in
    let size = length-append (decimal at) (44 ∷ place) in
    record {
      some = omega (arith, size, some);
      short = omega (arith, size, digits, short);
      lacks = lacks_join 10 44 (decimal at) place refl (time_lacks 10 at (lit< tt) h) lacks;
    }

kind_lacks : (k : ChanKind) → Lacks 10 (kind_text k)
kind_lacks Data = lacks_codes 10 (codes "data") refl
kind_lacks Ack = lacks_codes 10 (codes "ack") refl

kind_short : (k : ChanKind) → length (kind_text k) ≤ 4
kind_short Data = lit≤ tt
kind_short Ack = lit≤ tt

loss_lacks : (mark : ℕ) (k : ChanKind) → list_all (λ b. not (b == mark)) (codes "losedata") ≡ true → list_all (λ b. not (b == mark)) (codes "loseack") ≡ true → Lacks mark (loss_kind_text k)
loss_lacks mark Data first second = lacks_codes mark (codes "losedata") first
loss_lacks mark Ack first second = lacks_codes mark (codes "loseack") second

loss_short : (k : ChanKind) → length (loss_kind_text k) ≤ 8
loss_short Data = lit≤ tt
loss_short Ack = lit≤ tt

-- the ends of a channel behind a kind
kind_ends : (s : Shape) (c at : ℕ) (kind : List ℕ) → c < length s.channels → at ≤ 1000000000000000 → length kind ≤ 8 → Lacks 10 kind → IsLine (decimal at ++ 44 ∷ (kind ++ 44 ∷ ends_text s (chan_of s c)))
kind_ends s c at kind lt few short lacks =
    let ends : List ℕ = ends_text s (chan_of s c) in
    let size = length-append kind (44 ∷ ends) in
    let few_ends = ends_short s (chan_of s c) (chan_ends s c lt) in
    timed_line at (kind ++ 44 ∷ ends) few (omega (arith, size)) (omega (arith, size, short, few_ends)) (lacks_join 10 44 kind ends refl lacks (ends_lack s c lt 10 refl refl))

pub line_is : (s : Shape) (e : LossyEvent) → IsLossyEventOf s e → IsLine (lossy_event_text s e)
line_is s (Plain (Act n at)) is =
    let name = named s n is.placed in
    let size = length-append (codes "act,") (node_name s n) in
    let short = name.short in
    timed_line at (codes "act," ++ node_name s n) is.timely (omega (arith, size)) (omega (arith, size, short))
    (All-append (λ b. (b == 10) ≡ false) (codes "act,") (node_name s n) (lacks_codes 10 (codes "act,") refl) (lacks_word 10 (node_name s n) refl name.bytes))
line_is s (Plain (Del c at)) is = let short = kind_short (chan_of s c).kind in kind_ends s c at (kind_text (chan_of s c).kind) is.placed is.timely (omega (arith, short)) (kind_lacks (chan_of s c).kind)
line_is s (Plain (End at)) is = timed_line at (codes "end,") is.timely (lit≤ tt) (lit≤ tt) (lacks_codes 10 (codes "end,") refl)
line_is s (Lose c at) is = kind_ends s c at (loss_kind_text (chan_of s c).kind) is.placed is.timely (loss_short (chan_of s c).kind) (loss_lacks 10 (chan_of s c).kind refl refl)

-- What a row reads as.

-- no carriage return stands at the end of a line that ends with a name
name_last : (line front name : List ℕ) → IsName name → front ++ name ≡ line → get_or line (length line - 1) 0 ≢ 13
name_last line front name is whole = subst (λ (l : List ℕ). get_or l (length l - 1) 0 ≢ 13) whole (λ at.
    let sum = length-append front name in
    let some = is.some in
    let byte : is_word_byte (get_or name (length name - 1) 0) ≡ true = is.bytes (length name - 1) 0 (omega (arith, some)) in
    let there : get_or (front ++ name) (length (front ++ name) - 1) 0 ≡ get_or name (length name - 1) 0 =
    get_or-append_right front name (length front) (length (front ++ name) - 1) 0 refl (omega (arith, sum, some)) ∙ ap (λ (n : ℕ). get_or name n 0) (omega (arith, sum, some)) in
    false≢true (subst (λ (b : ℕ). is_word_byte b ≡ true) (sym there ∙ at) byte))

row_fields : (time kind place : List ℕ) → Lacks 44 time → Lacks 44 kind → Lacks 44 place → length (time ++ 44 ∷ (kind ++ 44 ∷ place)) ≤ 4096
    → get_or (time ++ 44 ∷ (kind ++ 44 ∷ place)) (length (time ++ 44 ∷ (kind ++ 44 ∷ place)) - 1) 0 ≢ 13
    → fields_of (time ++ 44 ∷ (kind ++ 44 ∷ place)) ≡ Some (record { time = time; kind = kind; place = place })
row_fields time kind place t k p short plain =
    let line : List ℕ = time ++ 44 ∷ (kind ++ 44 ∷ place) in
    let whole : line ≡ without_return line = ap (λ (b : Bool). if b then take (length line - 1) line else line) (sym (ne_eqb (get_or line (length line - 1) 0) 13 plain)) in
    fields_are line line (Some (record { time = time; kind = kind; place = place })) short whole
    (ap three_of (slice_split_at is_comma time 44 (kind ++ 44 ∷ place) t refl
    ∙ ap (λ (l : List (List ℕ)). time ∷ l) (slice_split_at is_comma kind 44 place k refl)
    ∙ ap (λ (l : List (List ℕ)). time ∷ kind ∷ l) (slice_split_none is_comma place p)))

time_back : (n : ℕ) → n ≤ 1000000000000000 → time_in (decimal n) ≡ Some n
unfolding time_in
time_back n few = ap (up_to 1000000000000000) (number_back n (omega (arith, few))) ∙ at_end 1000000000000000 n few

module _ (s : Shape) (c at : ℕ) (within : c < length s.channels) where
  by_kind : (k : ChanKind) → (chan_of s c).kind ≡ k → lossy_event_at s (loss_kind_text k) (ends_text s (chan_of s c)) at ≡ Ok (Lose c at)
  unfolding lossy_event_at
  by_kind Data kind = ap (λ (o : Option ℕ). loss_event o at) (ap (λ (k : ChanKind). chan_named s k (ends_text s (chan_of s c))) (sym kind) ∙ chan_back s c within)
  by_kind Ack kind = ap (λ (o : Option ℕ). loss_event o at) (ap (λ (k : ChanKind). chan_named s k (ends_text s (chan_of s c))) (sym kind) ∙ chan_back s c within)

  loss_reads : at ≤ 1000000000000000 → lossy_event_of s (lossy_event_text s (Lose c at)) ≡ Ok (Lose c at)
  unfolding lossy_event_of
  loss_reads few =
      let kind : List ℕ = loss_kind_text (chan_of s c).kind in
      let ends : List ℕ = ends_text s (chan_of s c) in
      let h : at < 2 ^ 64 = omega (arith, few) in
      let line = kind_ends s c at kind within few (loss_short (chan_of s c).kind) (loss_lacks 10 (chan_of s c).kind refl refl) in
      let short = line.short in
      let has = chan_ends s c within in
      let front : List ℕ = decimal at ++ 44 ∷ (kind ++ 44 ∷ (node_name s (chan_of s c).from ++ 62 ∷ [])) in
      let last = name_last (decimal at ++ 44 ∷ (kind ++ 44 ∷ ends)) front (node_name s (chan_of s c).to) (named s (chan_of s c).to has.to_in) (simp append_assoc) in
      let fields = row_fields (decimal at) kind ends (time_lacks 44 at (lit< tt) h) (loss_lacks 44 (chan_of s c).kind refl refl) (ends_lack s c within 44 refl refl) (omega (arith, short)) last in
      ap (lossy_event_in s) fields
      ∙ (ap (timed_lossy_event s (record { time = decimal at; kind = kind; place = ends })) (time_back at few)
      ∙ by_kind (chan_of s c).kind refl)

pub lossy_reads_back : (s : Shape) (e : LossyEvent) → IsLossyEventOf s e → lossy_event_of s (lossy_event_text s e) ≡ Ok e
lossy_reads_back s (Plain (Act n at)) is = plain-line s (Ok (Act n at)) (is_event (Act n at)) (lossy_event_text s (Plain (Act n at))) (reads_back s (Act n at) (record { placed = is.placed; timely = is.timely }))
lossy_reads_back s (Plain (Del c at)) is = plain-line s (Ok (Del c at)) (is_event (Del c at)) (lossy_event_text s (Plain (Del c at))) (reads_back s (Del c at) (record { placed = is.placed; timely = is.timely }))
lossy_reads_back s (Plain (End at)) is = plain-line s (Ok (End at)) (is_event (End at)) (lossy_event_text s (Plain (End at))) (reads_back s (End at) (record { placed = is.placed; timely = is.timely }))
lossy_reads_back s (Lose c at) is = loss_reads s c at is.placed is.timely
