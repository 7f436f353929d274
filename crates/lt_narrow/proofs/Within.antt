-- What keeps to narrower bounds keeps to the wider ones.
use Rattle.std.proofs.Common.{◌≡◌, ℕ, ◌+◌, ◌-◌, ◌<◌, ◌≤◌, inl, inr, List, [], ◌∷◌, Option, Some, None, is_some, Bool, true, false, ◌&&◌, ◌||◌, nat_lt, if◌then◌else◌, refl, sym, ◌∙◌, ap, subst, arith, le-ltb, lt-ltb, ltb-false}
use Rattle.std.proofs.lemmas.Bool.{cases_lt}
use Rattle.std.proofs.lemmas.Bool.Decides.{leb_tells}
use Rattle.lt_arch.specs.declared.event.Event.{Event}
use Rattle.lt_arch.specs.declared.event.Event.TheVariants.{Act, Del, End}
use Rattle.lt_arch.specs.declared.event.Offence.{Offence}
use Rattle.lt_arch.specs.declared.event.Offence.TheVariants.{AfterEnd, Backwards, TooEarly}
use Rattle.lt_arch.specs.declared.shape.Shape.{Shape}
use Rattle.lt_arch.specs.declared.timing.Timing.{Timing}
use Rattle.lt_arch.specs.State.{State, start, executed_of}
use Rattle.lt_arch.specs.Readers.{node_count, chan_count, from_of, to_of, tmin_of, tmax_of, dmin_of, dmax_of, is_back_pressure}
use Rattle.lt_arch.specs.Deeds.{deed_at, phase_after, data_from, ack_from}
use Rattle.lt_arch.specs.Deadline.{after_last, after_oldest, node_deadline, chan_deadline, deadline_of, first_due, IsFirst}
use Rattle.lt_arch.specs.Step.{time_of, is_late, is_backwards, overdue_by, too_soon, too_early, own_offence, offence_or_else, where_true, offence_of, after, is_execute, is_send, updated, with_sent}
use Rattle.lt_arch.specs.Schedule.{after_all, reached, HasNoOffence, IsOffenceFree, IsAdmissible, IsOnePlace, OnePlace, first_offence_from, numbered_or}
use Rattle.lt_arch.proofs.Facts.{clear, InTime, in_time-node, in_time-chan, rested}
use Rattle.lt_arch.proofs.Winners.{least_below-first}
use Rattle.lt_narrow.specs.Narrow.{HasBoundsWithin}

-- The same events lead to the same state.

pub after_same : (s : Shape) (t narrow : Timing) (rows : ℕ) (st : State) (e : Event) → HasBoundsWithin t narrow → after s narrow rows st e ≡ after s t rows st e
unfolding after
after_same s t narrow rows st (Act n at) w = λ i. record {
  node = updated st.node n (record {
    phase = phase_after (w.send n i) (w.execute n i) (st.node n).phase (deed_at s rows st n);
    executed = if is_execute (deed_at s rows st n) then executed_of st n + 1 else executed_of st n;
    last = Some at;
  });
  chan = λ c. with_sent ((is_send (deed_at s rows st n) && data_from s n c) || (is_execute (deed_at s rows st n) && (is_back_pressure (w.protocol i) && ack_from s n c))) at (st.chan c);
  latest = Some at;
  horizon = st.horizon;
}
after_same s t narrow rows st (Del c at) w = refl
after_same s t narrow rows st (End at) w = refl

after_all_same : (s : Shape) (t narrow : Timing) (rows : ℕ) (st : State) (es : List Event) → HasBoundsWithin t narrow → after_all s narrow rows st es ≡ after_all s t rows st es
after_all_same s t narrow rows st [] w = refl
after_all_same s t narrow rows st (e ∷ es) w = ap (λ (x : State). after_all s narrow rows x es) (after_same s t narrow rows st e w) ∙ after_all_same s t narrow rows (after s t rows st e) es w

start_same : (t narrow : Timing) → HasBoundsWithin t narrow → start narrow.protocol ≡ start t.protocol
start_same t narrow w = λ i. start (w.protocol i)

pub reached_same : (s : Shape) (t narrow : Timing) (rows : ℕ) (es : List Event) → HasBoundsWithin t narrow → reached s narrow rows es ≡ reached s t rows es
reached_same s t narrow rows es w = ap (λ (x : State). after_all s narrow rows x es) (start_same t narrow w) ∙ after_all_same s t narrow rows (start t.protocol) es w

-- Deadlines come no earlier.

in_time_later : (e : Event) (b d : ℕ) → b ≤ d → InTime e b → is_late e d ≡ false
in_time_later (Act n at) b d le h = le-ltb d at (omega (arith, le, h))
in_time_later (Del c at) b d le h = le-ltb d at (omega (arith, le, h))
in_time_later (End at) b d le h = elim (leb_tells d at) [ inl x ↦ absurd (let y = x.1 in omega (arith, le, h, y)) | inr x ↦ x.0 ]

last_later : (last : Option ℕ) (less gap : ℕ) → less ≤ gap → after_last last less ≤ after_last last gap
last_later None less gap le = le
last_later (Some last) less gap le = omega (arith, le)

-- a deadline that is no later than this
record IsDueBy (deadline : Option ℕ) (by : ℕ) : Type 0 where
  at : ℕ
  is : deadline ≡ Some at
  le : at ≤ by

oldest_later : (transit : List ℕ) (less delay d : ℕ) → less ≤ delay → after_oldest transit delay ≡ Some d → IsDueBy (after_oldest transit less) d
oldest_later [] less delay d le is = absurd cc
oldest_later (sent ∷ later) less delay d le is = let same : sent + delay ≡ d = cc in record { at = sent + less; is = refl; le = omega (arith, le, same) }

not_overdue : (s : Shape) (e : Event) (best : Option (ℕ × ℕ)) → ((due : ℕ × ℕ) → best ≡ Some due → is_late e due.0 ≡ false) → overdue_by s e best ≡ None
not_overdue s e None h = refl
not_overdue s e (Some due) h = rw (h due refl) refl

module _ (s : Shape) (t narrow : Timing) (w : HasBoundsWithin t narrow) (st : State) (e : Event) (free : offence_of s narrow st e ≡ None) where
  place_later : (place d : ℕ) → place < node_count s + chan_count s → deadline_of s t st place ≡ Some d → is_late e d ≡ false
  unfolding deadline_of
  place_later place d lt is = elim (cases_lt place (node_count s)) [
    | inl node ↦
        let due : Some (node_deadline t st place) ≡ Some d = rw (lt-ltb place (node_count s) node) at is in
        let same : node_deadline t st place ≡ d = cc in
        let less = last_later (st.node place).last (tmax_of narrow place) (tmax_of t place) (w.greatest place) in
        in_time_later e (node_deadline narrow st place) d (omega (arith, less, same)) (in_time-node s narrow st e free place node)
    | inr past ↦
        let c = place - node_count s in
        let due : chan_deadline s t st c ≡ Some d = rw (le-ltb place (node_count s) past) at is in
        let within : c < chan_count s = omega (arith, lt, past) in
        let less = oldest_later (st.chan c).transit (dmax_of narrow (from_of s c) (to_of s c)) (dmax_of t (from_of s c) (to_of s c)) d (w.longest (from_of s c) (to_of s c)) due in
        in_time_later e less.at d less.le (in_time-chan s narrow st e free c less.at within less.is)
  ]

  punctual : overdue_by s e (first_due s t st) ≡ None
  punctual = not_overdue s e (first_due s t st) (λ due is.
      let first = subst (IsFirst (deadline_of s t st) (node_count s + chan_count s)) is (least_below-first (deadline_of s t st) (node_count s + chan_count s)) in
      place_later due.1 due.0 first.0 first.1)

-- What an event may break by itself.

soon_later : (n less tmin at : ℕ) (last : Option ℕ) → less ≤ tmin → too_soon n tmin at last ≡ None → too_soon n less at last ≡ None
soon_later n less tmin at None le h = refl
soon_later n less tmin at (Some last) le h = let r : last + tmin ≤ at = rested n tmin at (Some last) h in rw (le-ltb at (last + less) (omega (arith, le, r))) refl

early_if : (b : Bool) (o : Offence) (at x : ℕ) → nat_lt at x ≡ b → (if b then Some o else None) ≡ None → x ≤ at
early_if true o at x is h = absurd cc
early_if false o at x is h = ltb-false at x is

early_later : (c less dmin at : ℕ) (transit : List ℕ) → less ≤ dmin → too_early c dmin at transit ≡ None → too_early c less at transit ≡ None
early_later c less dmin at [] le h = h
early_later c less dmin at (sent ∷ later) le h =
    let r = early_if (nat_lt at (sent + dmin)) (TooEarly c) at (sent + dmin) refl h in
    rw (le-ltb at (sent + less) (omega (arith, le, r))) refl

own_within : (s : Shape) (t narrow : Timing) (st : State) (e : Event) → HasBoundsWithin t narrow → own_offence s narrow st e ≡ None → own_offence s t st e ≡ None
own_within s t narrow st (Act n at) w h = soon_later n (tmin_of t n) (tmin_of narrow n) at (st.node n).last (w.least n) h
own_within s t narrow st (Del c at) w h = early_later c (dmin_of t (from_of s c) (to_of s c)) (dmin_of narrow (from_of s c) (to_of s c)) at (st.chan c).transit (w.shortest (from_of s c) (to_of s c)) h
own_within s t narrow st (End at) w h = refl

free_from : (s : Shape) (t : Timing) (st : State) (e : Event) → is_some st.horizon ≡ false → is_backwards (time_of e) st.latest ≡ false → overdue_by s e (first_due s t st) ≡ None → own_offence s t st e ≡ None → offence_of s t st e ≡ None
unfolding offence_of
free_from s t st e a b c d = λ i. offence_or_else (where_true (a i) AfterEnd) (offence_or_else (where_true (b i) Backwards) (offence_or_else (c i) (d i)))

pub within_free : (s : Shape) (t narrow : Timing) (st : State) (e : Event) → HasBoundsWithin t narrow → offence_of s narrow st e ≡ None → offence_of s t st e ≡ None
within_free s t narrow st e w free =
    let h = clear s narrow st e free in
    free_from s t st e h.unended h.forward (punctual s t narrow w st e free) (own_within s t narrow st e w h.own)

-- Lists of events.

free_all : (s : Shape) (t narrow : Timing) (rows : ℕ) (st : State) (es : List Event) → HasBoundsWithin t narrow → HasNoOffence s narrow rows st es → HasNoOffence s t rows st es
free_all s t narrow rows st [] w h = tt
free_all s t narrow rows st (e ∷ es) w h =
    (within_free s t narrow st e w h.0, free_all s t narrow rows (after s t rows st e) es w (subst (λ (x : State). HasNoOffence s narrow rows x es) (after_same s t narrow rows st e w) h.1))

pub within_offence_free : (s : Shape) (t narrow : Timing) (rows : ℕ) (es : List Event) → HasBoundsWithin t narrow → IsOffenceFree s narrow rows es → IsOffenceFree s t rows es
within_offence_free s t narrow rows es w h = free_all s t narrow rows (start t.protocol) es w (subst (λ (x : State). HasNoOffence s narrow rows x es) (start_same t narrow w) h)

pub one_place_within : (s : Shape) (t narrow : Timing) (rows : ℕ) → HasBoundsWithin t narrow → OnePlace s t rows → OnePlace s narrow rows
one_place_within s t narrow rows w one es timely free =
    subst (IsOnePlace s) (sym (reached_same s t narrow rows es w)) (one es timely (within_offence_free s t narrow rows es w free))

no_number : (number : ℕ) (o : Option Offence) (later : Option (ℕ × Offence)) → numbered_or number o later ≡ None → (o ≡ None) × (later ≡ None)
no_number number None later h = (refl, h)
no_number number (Some o) later h = absurd cc

admissible_from : (s : Shape) (t narrow : Timing) (rows : ℕ) (st : State) (number : ℕ) (es : List Event) → HasBoundsWithin t narrow → first_offence_from s narrow rows st number es ≡ None → first_offence_from s t rows st number es ≡ None
admissible_from s t narrow rows st number [] w h = h
admissible_from s t narrow rows st number (e ∷ es) w h =
    let both = no_number number (offence_of s narrow st e) _ h in
    let later = subst (λ (x : State). first_offence_from s narrow rows x (number + 1) es ≡ None) (after_same s t narrow rows st e w) both.1 in
    ap (λ (o : Option Offence). numbered_or number o (first_offence_from s t rows (after s t rows st e) (number + 1) es)) (within_free s t narrow st e w both.0)
    ∙ admissible_from s t narrow rows (after s t rows st e) (number + 1) es w later

pub admissible_within : (s : Shape) (t narrow : Timing) (rows : ℕ) (es : List Event) → HasBoundsWithin t narrow → IsAdmissible s narrow rows es → IsAdmissible s t rows es
admissible_within s t narrow rows es w h =
    admissible_from s t narrow rows (start t.protocol) 1 es w (subst (λ (x : State). first_offence_from s narrow rows x 1 es ≡ None) (start_same t narrow w) h)
