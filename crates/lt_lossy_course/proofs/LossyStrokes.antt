-- One event more, as it is drawn.
use Rattle.std.proofs.Common.{◌≡◌, ◌∙◌, ℕ, suc, ◌+◌, ◌<◌, ◌≤◌, ◌==◌, List, [], ◌∷◌, ◌++◌, length, map, Bool, true, false, is_some, Option, Some, None, if◌then◌else◌, refl, sym, ap, subst, arith}
use Rattle.lt_arch.specs.declared.event.Deed.{Deed}
use Rattle.lt_arch.specs.declared.event.Event.TheVariants.{Act, Del, End}
use Rattle.lt_arch.specs.declared.event.Offence.{Offence}
use Rattle.lt_arch.specs.declared.event.Offence.TheVariants.{AfterEnd, Backwards}
use Rattle.lt_arch.specs.declared.shape.Shape.{Shape}
use Rattle.lt_arch.specs.declared.timing.Timing.{Timing}
use Rattle.lt_arch.specs.State.{NodeState}
use Rattle.lt_arch.specs.Readers.{node_count, chan_count}
use Rattle.lt_arch.specs.declared.event.Event.{Event}
use Rattle.lt_arch.specs.Step.{is_backwards, offence_of, offence_or_else, overdue_by, own_offence, time_of, where_true, woken}
use Rattle.lt_arch.specs.Deadline.{first_due}
use Rattle.lt_lossy.specs.declared.event.LossyEvent.{LossyEvent}
use Rattle.lt_lossy.specs.declared.event.LossyEvent.TheVariants.{Plain, Lose}
use Rattle.lt_lossy.specs.Events.{IsLossyPlacedIn}
use Rattle.lt_lossy.specs.State.{LinkState, LossyState, lossy_start, plain_of}
use Rattle.lt_lossy.specs.Schedule.{lossy_after_all, lossy_reached}
use Rattle.lt_lossy.specs.declared.event.LossyOffence.{LossyOffence}
use Rattle.lt_lossy.specs.Step.{at_any_time, common_or, lossy_after, lossy_offence, too_many_lost}
use Rattle.lt_lossy.specs.Times.{lossy_time_of}
use Rattle.lt_place_reads.specs.declared.crossing.Crossing.{Crossing}
use Rattle.lt_audit.specs.Acts.{next_number}
use Rattle.lt_diagram.specs.declared.picture.Fate.{Fate}
use Rattle.lt_diagram.specs.declared.picture.Fate.TheVariants.{Delivered, Lost}
use Rattle.lt_tape.specs.declared.stroke.Stroke.{Stroke}
use Rattle.lt_tape.specs.declared.stroke.Stroke.TheVariants.{Line, Point}
use Rattle.lt_tape.specs.Times.{last_mark, last_mark_from, later_mark, stroke_time, time_or_zero}
use Rattle.lt_course.specs.Strokes.{arrows_below, sign_of}
use Rattle.lt_course.proofs.Strokes.{comes_later, no_earlier}
use Rattle.lt_course.proofs.Transit.{below_same}
use Rattle.lt_lossy_audit.specs.Links.{link_seen}
use Rattle.lt_lossy_audit.specs.LossyAudit.{KnowsLossyDeed, LossyAuditState, LossyAuditStands}
use Rattle.lt_lossy_course.specs.declared.sketch.Leaving.{Leaving}
use Rattle.lt_lossy_course.specs.LossySketches.{IsLeaving, IsLossyDeedDone, IsLossyExecuted, TakesLeaving, left_message, lossy_stroke_by}
use Rattle.lt_lossy_course.specs.LossyStrokes.{leaving_arrow, lossy_pending_on, lossy_stroke_of, lossy_strokes_from, lossy_strokes_of, message_arrow, pending_message, placed_message}

module _ (cross : List Crossing) (s : Shape) (t : Timing) (rows : ℕ) where
  -- the last event's stroke comes last
  pub strokes_push : (st : LossyState) (count : ℕ) (es : List LossyEvent) (e : LossyEvent)
      → lossy_strokes_from cross s t rows st count (es ++ e ∷ []) ≡ lossy_strokes_from cross s t rows st count es ++ lossy_stroke_of cross s rows (lossy_after_all s t rows st es) (next_number (count + length es)) e ∷ []
  strokes_push st count [] e = let same : count ≡ count + 0 = omega arith in ap (λ (k : ℕ). lossy_stroke_of cross s rows st (next_number k) e ∷ []) same
  strokes_push st count (d ∷ es) e =
      let same : count + 1 + length es ≡ count + length (d ∷ es) = omega arith in
      ap (λ (xs : List Stroke). lossy_stroke_of cross s rows st (next_number count) d ∷ xs)
      (strokes_push (lossy_after s t rows st d) (count + 1) es e
      ∙ ap (λ (k : ℕ). lossy_strokes_from cross s t rows (lossy_after s t rows st d) (count + 1) es ++ lossy_stroke_of cross s rows (lossy_after_all s t rows (lossy_after s t rows st d) es) (next_number k) e ∷ []) same)

  -- there is one for each event
  pub strokes_count : (st : LossyState) (count : ℕ) (es : List LossyEvent) → length (lossy_strokes_from cross s t rows st count es) ≡ length es
  strokes_count st count [] = refl
  strokes_count st count (e ∷ es) = ap (λ (k : ℕ). suc k) (strokes_count (lossy_after s t rows st e) (count + 1) es)

-- what is read of an auditor around an event gives what the event is drawn as
module _ (a b : LossyAuditState) (cross : List Crossing) (s : Shape) (t : Timing) (limit rows : ℕ) (es : List LossyEvent) (number executed : ℕ) (x : Leaving) (deed : Deed) (stands : LossyAuditStands a s t limit rows es) where
  abbrev st : LossyState
  st = lossy_reached s t rows es

  leaves : (c at : ℕ) → c < chan_count a.shape → IsLeaving a c at x → (fate : Fate) → message_arrow cross s c x.newest (left_message x) at fate ≡ leaving_arrow cross s st c at fate
  leaves c at lc is fate =
      let link : link_seen a.links c ≡ st.link c = stands.state.link c (subst (λ (q : Shape). c < chan_count q) stands.state.shape lc) in
      λ i. message_arrow cross s c ((is.newest ∙ ap (λ (l : LinkState). l.newest) link) i) ((is.message ∙ ap (λ (l : LinkState). placed_message at l.transit 0) link) i) at fate

  pub stroke_same : (e : LossyEvent) → IsLossyPlacedIn a.shape e → KnowsLossyDeed b s rows st e → IsLossyExecuted a e executed → TakesLeaving a e x → IsLossyDeedDone b e deed → lossy_stroke_by cross s number deed executed x e ≡ lossy_stroke_of cross s rows st number e
  stroke_same (Plain (Act n at)) placed knows ex takes done =
      let seen = stands.state.node n (subst (λ (q : Shape). n < node_count q) stands.state.shape placed) in
      λ i. Point (record { event = number; node = n; time = at; sign = sign_of ((done ∙ knows) i) ((ex ∙ seen.executed) i) })
  stroke_same (Plain (Del c at)) placed knows ex takes done = ap Line (leaves c at placed takes (Delivered number))
  stroke_same (Plain (End at)) placed knows ex takes done = refl
  stroke_same (Lose c at) placed knows ex takes done = ap Line (leaves c at placed takes (Lost number))

-- what is in transit, channel by channel
pub pending_same : (cross : List Crossing) (s : Shape) (t : Timing) (f g : ℕ → LinkState) (n : ℕ) → ((c : ℕ) → c < n → f c ≡ g c) → arrows_below (lossy_pending_on cross s t f) n ≡ arrows_below (lossy_pending_on cross s t g) n
pending_same cross s t f g n same = below_same (lossy_pending_on cross s t f) (lossy_pending_on cross s t g) n (λ c lt. ap (λ (l : LinkState). map (pending_message cross s t c l.newest) l.transit) (same c lt))

-- a node's last activation is that of its last mark
last_of_if : (b : Bool) (x y : NodeState) → (if b then x else y).last ≡ (if b then x.last else y.last)
last_of_if true x y = refl
last_of_if false x y = refl

module _ (cross : List Crossing) (s : Shape) (t : Timing) (rows n : ℕ) where
  last_next : (st : LossyState) (number : ℕ) (e : LossyEvent) → later_mark n (st.node n).last (lossy_stroke_of cross s rows st number e) ≡ ((lossy_after s t rows st e).node n).last
  unfolding lossy_after
  last_next st number (Plain (Act m at)) = sym (last_of_if (n == m) (woken s t rows (plain_of st) m at) (st.node n))
  last_next st number (Plain (Del c at)) = refl
  last_next st number (Plain (End at)) = refl
  last_next st number (Lose c at) = refl

  last_seen_from : (st : LossyState) (count : ℕ) (es : List LossyEvent) → last_mark_from n (st.node n).last (lossy_strokes_from cross s t rows st count es) ≡ ((lossy_after_all s t rows st es).node n).last
  last_seen_from st count [] = refl
  last_seen_from st count (e ∷ es) =
      ap (λ (found : Option ℕ). last_mark_from n found (lossy_strokes_from cross s t rows (lossy_after s t rows st e) (count + 1) es)) (last_next st (next_number count) e) ∙ last_seen_from (lossy_after s t rows st e) (count + 1) es

  pub last_seen : (es : List LossyEvent) → last_mark n (lossy_strokes_of cross s t rows es) ≡ ((lossy_reached s t rows es).node n).last
  last_seen es = last_seen_from lossy_start 0 es

-- a stroke happens when its event does
pub stroke_at : (cross : List Crossing) (s : Shape) (rows : ℕ) (st : LossyState) (number : ℕ) (e : LossyEvent) → stroke_time (lossy_stroke_of cross s rows st number e) ≡ lossy_time_of e
stroke_at cross s rows st number (Plain (Act n at)) = refl
stroke_at cross s rows st number (Plain (Del c at)) = refl
stroke_at cross s rows st number (Plain (End at)) = refl
stroke_at cross s rows st number (Lose c at) = refl

-- the state knows when its last event happened
pub latest_after : (s : Shape) (t : Timing) (rows : ℕ) (st : LossyState) (e : LossyEvent) → (lossy_after s t rows st e).latest ≡ Some (lossy_time_of e)
unfolding lossy_after
latest_after s t rows st (Plain (Act n at)) = refl
latest_after s t rows st (Plain (Del c at)) = refl
latest_after s t rows st (Plain (End at)) = refl
latest_after s t rows st (Lose c at) = refl

-- an event without an offence is no earlier

none_common : (a : Option Offence) (b : Option LossyOffence) → common_or a b ≡ None → a ≡ None
none_common None b is = refl
none_common (Some o) b is = cc

lost_forward : (ended back : Bool) (later : Option Offence) → at_any_time (offence_or_else (where_true ended AfterEnd) (offence_or_else (where_true back Backwards) later)) ≡ None → back ≡ false
lost_forward true back later is = cc
lost_forward false true later is = cc
lost_forward false false later is = refl

lost_later : (s : Shape) (t : Timing) (st : LossyState) (c at : ℕ) → at_any_time (offence_of s t (plain_of st) (Del c at)) ≡ None → time_or_zero st.latest ≤ at
unfolding offence_of
lost_later s t st c at none =
    let later = offence_or_else (overdue_by s (Del c at) (first_due s t (plain_of st))) (own_offence s t (plain_of st) (Del c at)) in
    no_earlier st.latest at (lost_forward (is_some st.horizon) (is_backwards at st.latest) later none)

plain_time : (e : Event) → time_of e ≡ lossy_time_of (Plain e)
plain_time (Act n at) = refl
plain_time (Del c at) = refl
plain_time (End at) = refl

pub lossy_comes_later : (s : Shape) (t : Timing) (limit : ℕ) (st : LossyState) (e : LossyEvent) → lossy_offence s t limit st e ≡ None → time_or_zero st.latest ≤ lossy_time_of e
unfolding lossy_offence
lossy_comes_later s t limit st (Plain e) none =
    subst (λ (k : ℕ). time_or_zero st.latest ≤ k) (plain_time e) (comes_later s t (plain_of st) e (none_common (offence_of s t (plain_of st) e) None none))
lossy_comes_later s t limit st (Lose c at) none = lost_later s t st c at (none_common (at_any_time (offence_of s t (plain_of st) (Del c at))) (too_many_lost limit c (st.link c).losses) none)
