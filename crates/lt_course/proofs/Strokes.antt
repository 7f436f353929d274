-- One event more, as it is drawn.
use Rattle.std.proofs.Common.{◌≡◌, ◌∙◌, ℕ, suc, ◌+◌, ◌<◌, ◌≤◌, ◌==◌, List, [], ◌∷◌, ◌++◌, length, map, Bool, true, false, Option, Some, None, is_some, if◌then◌else◌, refl, sym, ap, arith, ltb-false}
use Rattle.lt_arch.specs.declared.event.Deed.{Deed}
use Rattle.lt_arch.specs.declared.event.Event.{Event}
use Rattle.lt_arch.specs.declared.event.Event.TheVariants.{Act, Del, End}
use Rattle.lt_arch.specs.declared.event.Offence.{Offence}
use Rattle.lt_arch.specs.declared.event.Offence.TheVariants.{AfterEnd, Backwards}
use Rattle.lt_arch.specs.declared.shape.Shape.{Shape}
use Rattle.lt_arch.specs.declared.timing.Timing.{Timing}
use Rattle.lt_arch.specs.State.{ChanState, State, NodeState, start}
use Rattle.lt_arch.specs.Schedule.{IsPlacedIn, after_all, reached}
use Rattle.lt_arch.specs.Step.{after, is_backwards, offence_of, offence_or_else, time_of, where_true, woken}
use Rattle.lt_place_reads.specs.declared.crossing.Crossing.{Crossing}
use Rattle.lt_audit.specs.Audit.{AuditState}
use Rattle.lt_audit.specs.Acts.{next_number}
use Rattle.lt_audit.specs.Standing.{AuditStands, KnowsDeed}
use Rattle.lt_audit.proofs.Seen.{chan_seen, executed_seen}
use Rattle.lt_tape.specs.declared.stroke.Stroke.{Stroke}
use Rattle.lt_tape.specs.declared.stroke.Stroke.TheVariants.{Point}
use Rattle.lt_tape.specs.Times.{last_mark, last_mark_from, later_mark, stroke_time, time_or_zero}
use Rattle.lt_course.specs.Sketches.{IsDeedDone, IsExecuted, IsSent, stroke_by}
use Rattle.lt_course.specs.Strokes.{arrows_below, first_sent_or, pending_arrow, pending_on, sign_of, stroke_of, strokes_from, strokes_of}
use Rattle.lt_course.proofs.Transit.{below_same}

module _ (cross : List Crossing) (s : Shape) (t : Timing) (rows : ℕ) where
  -- the last event's stroke comes last
  pub strokes_push : (st : State) (count : ℕ) (es : List Event) (e : Event)
      → strokes_from cross s t rows st count (es ++ e ∷ []) ≡ strokes_from cross s t rows st count es ++ stroke_of cross s rows (after_all s t rows st es) (next_number (count + length es)) e ∷ []
  strokes_push st count [] e = let same : count ≡ count + 0 = omega arith in ap (λ (k : ℕ). stroke_of cross s rows st (next_number k) e ∷ []) same
  strokes_push st count (d ∷ es) e =
      let same : count + 1 + length es ≡ count + length (d ∷ es) = omega arith in
      ap (λ (xs : List Stroke). stroke_of cross s rows st (next_number count) d ∷ xs)
      (strokes_push (after s t rows st d) (count + 1) es e
      ∙ ap (λ (k : ℕ). strokes_from cross s t rows (after s t rows st d) (count + 1) es ++ stroke_of cross s rows (after_all s t rows (after s t rows st d) es) (next_number k) e ∷ []) same)

  -- there is one for each event
  pub strokes_count : (st : State) (count : ℕ) (es : List Event) → length (strokes_from cross s t rows st count es) ≡ length es
  strokes_count st count [] = refl
  strokes_count st count (e ∷ es) = ap (λ (k : ℕ). suc k) (strokes_count (after s t rows st e) (count + 1) es)

-- what is read of an auditor around an event gives what the event is drawn as
pub stroke_same : (a b : AuditState) (cross : List Crossing) (s : Shape) (t : Timing) (rows : ℕ) (es : List Event) (number executed sent : ℕ) (deed : Deed) (e : Event)
    → AuditStands a s t rows es → IsPlacedIn a.shape e → KnowsDeed b s rows (reached s t rows es) e → IsExecuted a e executed → IsSent a e sent → IsDeedDone b e deed
    → stroke_by cross s number deed executed sent e ≡ stroke_of cross s rows (reached s t rows es) number e
stroke_same a b cross s t rows es number executed sent deed (Act n at) stands placed knows ex se done =
    λ i. Point (record { event = number; node = n; time = at; sign = sign_of ((done ∙ knows) i) ((ex ∙ executed_seen a s t rows es stands n placed) i) })
stroke_same a b cross s t rows es number executed sent deed (Del c at) stands placed knows ex se done =
    ap (λ (k : ℕ). stroke_by cross s number deed executed k (Del c at)) (se ∙ ap (λ (ch : ChanState). first_sent_or at ch.transit) (chan_seen a s t rows es stands c placed))
stroke_same a b cross s t rows es number executed sent deed (End at) stands placed knows ex se done = refl

-- what is in transit, channel by channel
pub pending_same : (cross : List Crossing) (s : Shape) (t : Timing) (f g : ℕ → ChanState) (n : ℕ) → ((c : ℕ) → c < n → f c ≡ g c) → arrows_below (pending_on cross s t f) n ≡ arrows_below (pending_on cross s t g) n
pending_same cross s t f g n same = below_same (pending_on cross s t f) (pending_on cross s t g) n (λ c lt. ap (λ (ch : ChanState). map (pending_arrow cross s t c) ch.transit) (same c lt))

-- a node's last activation is that of its last mark
last_of_if : (b : Bool) (x y : NodeState) → (if b then x else y).last ≡ (if b then x.last else y.last)
last_of_if true x y = refl
last_of_if false x y = refl

module _ (cross : List Crossing) (s : Shape) (t : Timing) (rows n : ℕ) where
  last_next : (st : State) (number : ℕ) (e : Event) → later_mark n (st.node n).last (stroke_of cross s rows st number e) ≡ ((after s t rows st e).node n).last
  unfolding after
  last_next st number (Act m at) = sym (last_of_if (n == m) (woken s t rows st m at) (st.node n))
  last_next st number (Del c at) = refl
  last_next st number (End at) = refl

  pub last_seen_from : (st : State) (count : ℕ) (es : List Event) → last_mark_from n (st.node n).last (strokes_from cross s t rows st count es) ≡ ((after_all s t rows st es).node n).last
  last_seen_from st count [] = refl
  last_seen_from st count (e ∷ es) =
      ap (λ (found : Option ℕ). last_mark_from n found (strokes_from cross s t rows (after s t rows st e) (count + 1) es)) (last_next st (next_number count) e) ∙ last_seen_from (after s t rows st e) (count + 1) es

  pub last_seen : (es : List Event) → last_mark n (strokes_of cross s t rows es) ≡ ((reached s t rows es).node n).last
  last_seen es = last_seen_from (start t.protocol) 0 es

-- a stroke happens when its event does
pub stroke_at : (cross : List Crossing) (s : Shape) (rows : ℕ) (st : State) (number : ℕ) (e : Event) → stroke_time (stroke_of cross s rows st number e) ≡ time_of e
stroke_at cross s rows st number (Act n at) = refl
stroke_at cross s rows st number (Del c at) = refl
stroke_at cross s rows st number (End at) = refl

-- the state knows when its last event happened
pub latest_after : (s : Shape) (t : Timing) (rows : ℕ) (st : State) (e : Event) → (after s t rows st e).latest ≡ Some (time_of e)
unfolding after
latest_after s t rows st (Act n at) = refl
latest_after s t rows st (Del c at) = refl
latest_after s t rows st (End at) = refl

-- an event without an offence is no earlier

none_left : (a b : Option Offence) → offence_or_else a b ≡ None → a ≡ None
none_left None b is = refl
none_left (Some o) b is = cc

none_right : (a b : Option Offence) → offence_or_else a b ≡ None → b ≡ None
none_right None b is = is
none_right (Some o) b is = cc

not_where : (test : Bool) (o : Offence) → where_true test o ≡ None → test ≡ false
not_where true o is = cc
not_where false o is = refl

pub no_earlier : (latest : Option ℕ) (at : ℕ) → is_backwards at latest ≡ false → time_or_zero latest ≤ at
no_earlier None at is = omega arith
no_earlier (Some last) at is = ltb-false at last is

pub comes_later : (s : Shape) (t : Timing) (st : State) (e : Event) → offence_of s t st e ≡ None → time_or_zero st.latest ≤ time_of e
unfolding offence_of
comes_later s t st e none =
    no_earlier st.latest (time_of e) (not_where (is_backwards (time_of e) st.latest) Backwards (none_left _ _ (none_right (where_true (is_some st.horizon) AfterEnd) _ none)))
