-- A recorder after one event more, and at an offence.
use Rattle.std.proofs.Common.{◌≡◌, ◌∙◌, ℕ, ◌+◌, ◌-◌, ◌^◌, ◌<◌, ◌≤◌, min, List, [], ◌∷◌, ◌++◌, length, None, Result, Ok, Err, refl, sym, ap, subst, arith, length-append}
use Rattle.std.specs.Prelude.{IfErr, OnOk, option_map}
use Rattle.lt_arch.specs.declared.event.Deed.{Deed}
use Rattle.lt_arch.specs.declared.event.Event.{Event}
use Rattle.lt_arch.specs.declared.event.Offence.{Offence}
use Rattle.lt_arch.specs.declared.event.Offence.TheVariants.{AfterEnd, Backwards, NodeOverdue, ChannelOverdue, TooSoon, NothingSent, TooEarly, NoEnd}
use Rattle.lt_arch.specs.declared.limits.TheConstants.{GREATEST_TIME}
use Rattle.lt_arch.specs.declared.shape.Shape.{Shape}
use Rattle.lt_arch.specs.declared.timing.Timing.{Timing}
use Rattle.lt_arch.specs.State.{ChanState, State, start}
use Rattle.lt_arch.specs.Readers.{chan_count, node_count}
use Rattle.lt_arch.specs.Schedule.{IsEventOf, reached}
use Rattle.lt_arch.specs.Shapes.{HaveSameNodes}
use Rattle.lt_arch.specs.Step.{offence_of, time_of}
use Rattle.lt_place_reads.specs.declared.crossing.Crossing.{Crossing}
use Rattle.lt_schedule.specs.declared.halt.Stop.{Stop}
use Rattle.lt_schedule.specs.declared.halt.Stop.TheVariants as stop
use Rattle.lt_schedule.specs.Rules.{Rules}
use Rattle.lt_audit.specs.Audit.{AuditState, chan_at}
use Rattle.lt_audit.specs.Acts.{next_number}
use Rattle.lt_audit.specs.Standing.{AuditStands, KnowsDeed}
use Rattle.lt_audit.proofs.Longer.{after_push}
use Rattle.lt_audit.proofs.Seen.{chan_seen}
use Rattle.lt_course.specs.declared.course.RefusedEvent.{RefusedEvent}
use Rattle.lt_course.specs.declared.course.Stopped.{Stopped}
use Rattle.lt_tape.specs.declared.asked.Asked.{Asked}
use Rattle.lt_tape.specs.declared.tape.Tape.{Tape}
use Rattle.lt_tape.specs.Tapes.{IsTapeOf}
use Rattle.lt_tape.specs.Times.{last_mark, last_time, stroke_time, time_or_zero}
use Rattle.lt_tape.proofs.Tallying.{last_push}
use Rattle.lt_tape.specs.declared.stroke.Stroke.{Stroke}
use Rattle.lt_course.specs.Courses.{last_for, oldest_for, refused_at, refused_by}
use Rattle.lt_course.specs.Lasts.{last_mark_for, oldest_read}
use Rattle.lt_course.specs.Placed.{IsPlacedOffence}
use Rattle.lt_course.specs.Recorded.{IsNotedSoFar, JudgesNextEvent}
use Rattle.lt_course.specs.Recording.{TapesStroke}
use Rattle.lt_course.specs.Sketches.{IsDeedDone, IsExecuted, IsSent, stroke_by}
use Rattle.lt_course.specs.Strokes.{arrows_below, first_sent_or, pending_of, pending_on, stroke_of, strokes_of}
use Rattle.lt_course.specs.Whole.{drawing_by}
use Rattle.lt_course.proofs.Strokes.{comes_later, last_seen, latest_after, pending_same, stroke_at, stroke_same, strokes_push}

-- the number of the event that was taken last
number_after : (n : ℕ) → min (n + 1) (2 ^ 32 - 1) ≡ next_number (0 + n)
number_after n = let same : n ≡ 0 + n = omega arith in ap next_number same

module _ (a b : AuditState) (asked : Asked) (cross : List Crossing) (t : Timing) (tape : Tape) (es : List Event) (e : Event) (before : IsNotedSoFar a asked cross t tape es) (event : IsEventOf a.shape e) where
  pub recorded_on : (deed : Deed) (executed sent : ℕ) (after : Tape) → b.shape ≡ a.shape → AuditStands b a.shape t a.rows (es ++ e ∷ []) → KnowsDeed b a.shape a.rows (reached a.shape t a.rows es) e
      → offence_of a.shape t (reached a.shape t a.rows es) e ≡ None → IsExecuted a e executed → IsSent a e sent → IsDeedDone b e deed → TapesStroke tape after (stroke_by cross b.shape b.taken deed executed sent e)
      → IsNotedSoFar b asked cross t after (es ++ e ∷ [])
  recorded_on deed executed sent after shape stands knows none ex se done tapes =
      let st = reached a.shape t a.rows es in
      let number : b.taken ≡ next_number (0 + length es) = stands.taken_is ∙ ap (λ (n : ℕ). min n (2 ^ 32 - 1)) (length-append es (e ∷ [])) ∙ number_after (length es) in
      let x = stroke_of cross a.shape a.rows st (next_number (0 + length es)) e in
      let here : stroke_by cross b.shape b.taken deed executed sent e ≡ x =
      (λ i. stroke_by cross (shape i) (number i) deed executed sent e) ∙ stroke_same a b cross a.shape t a.rows es (next_number (0 + length es)) executed sent deed e before.stands event.placed knows ex se done in
      let xs = strokes_of cross a.shape t a.rows es in
      let more : strokes_of cross a.shape t a.rows (es ++ e ∷ []) ≡ xs ++ x ∷ [] = strokes_push cross a.shape t a.rows (start t.protocol) 0 es e in
      let at : stroke_time x ≡ time_of e = stroke_at cross a.shape a.rows st (next_number (0 + length es)) e in
      let later : last_time xs ≤ stroke_time x = subst (λ (k : ℕ). k ≤ stroke_time x) (sym before.latest) (subst (λ (k : ℕ). time_or_zero st.latest ≤ k) (sym at) (comes_later a.shape t st e none)) in
      let timely : stroke_time x ≤ GREATEST_TIME = subst (λ (k : ℕ). k ≤ GREATEST_TIME) (sym at) event.timely in
      let taped : IsTapeOf after asked (node_count a.shape) (xs ++ x ∷ []) = subst (λ (y : Stroke). TapesStroke tape after y) here tapes asked (node_count a.shape) xs before.taped later timely in
      record {
        stands = subst (λ (q : Shape). AuditStands b q t b.rows (es ++ e ∷ [])) (sym shape) (subst (λ (n : ℕ). AuditStands b a.shape t n (es ++ e ∷ [])) (sym stands.rows_are) stands);
        same = subst (λ (q : Shape). HaveSameNodes q t) (sym shape) before.same;
        taped = subst (λ (q : Shape). IsTapeOf after asked (node_count q) (strokes_of cross q t b.rows (es ++ e ∷ []))) (sym shape)
            (subst (λ (n : ℕ). IsTapeOf after asked (node_count a.shape) (strokes_of cross a.shape t n (es ++ e ∷ []))) (sym stands.rows_are) (subst (λ (ys : List Stroke). IsTapeOf after asked (node_count a.shape) ys) (sym more) taped));
        latest = subst (λ (q : Shape). last_time (strokes_of cross q t b.rows (es ++ e ∷ [])) ≡ time_or_zero (reached q t b.rows (es ++ e ∷ [])).latest) (sym shape)
            (subst (λ (n : ℕ). last_time (strokes_of cross a.shape t n (es ++ e ∷ [])) ≡ time_or_zero (reached a.shape t n (es ++ e ∷ [])).latest) (sym stands.rows_are)
            (ap (λ (ys : List Stroke). last_time ys) more ∙ last_push xs x ∙ at ∙ sym (ap (λ (q : State). time_or_zero q.latest) (after_push a.shape t a.rows (start t.protocol) es e) ∙ ap time_or_zero (latest_after a.shape t a.rows st e))));
      }

-- what is read for an offence

module _ (a : AuditState) (asked : Asked) (cross : List Crossing) (t : Timing) (tape : Tape) (es : List Event) (before : IsNotedSoFar a asked cross t tape es) where
  abbrev st : State
  st = reached a.shape t a.rows es

  abbrev strokes : List Stroke
  strokes = strokes_of cross a.shape t a.rows es

  last_of : (n : ℕ) → last_mark n strokes ≡ (st.node n).last
  last_of n = last_seen cross a.shape t a.rows n es

  last_same : (o : Offence) → last_mark_for strokes o ≡ last_for st o
  last_same AfterEnd = refl
  last_same Backwards = refl
  last_same (NodeOverdue n) = last_of n
  last_same (ChannelOverdue c) = refl
  last_same (TooSoon n) = last_of n
  last_same (NothingSent c) = refl
  last_same (TooEarly c) = refl
  last_same NoEnd = refl

  oldest_of : (c : ℕ) → c < chan_count a.shape → first_sent_or 0 (chan_at a.chans c).transit ≡ first_sent_or 0 (st.chan c).transit
  oldest_of c lc = ap (λ (ch : ChanState). first_sent_or 0 ch.transit) (chan_seen a a.shape t a.rows es before.stands c lc)

  oldest_same : (o : Offence) → IsPlacedOffence a.shape o → oldest_read a o ≡ oldest_for st o
  oldest_same AfterEnd placed = refl
  oldest_same Backwards placed = refl
  oldest_same (NodeOverdue n) placed = refl
  oldest_same (ChannelOverdue c) placed = oldest_of c placed
  oldest_same (TooSoon n) placed = refl
  oldest_same (NothingSent c) placed = refl
  oldest_same (TooEarly c) placed = oldest_of c placed
  oldest_same NoEnd placed = refl

  pub pending_is : arrows_below (pending_on cross a.shape t (chan_at a.chans)) (chan_count a.shape) ≡ pending_of cross a.shape t st
  pending_is = pending_same cross a.shape t (chan_at a.chans) st.chan (chan_count a.shape) (λ c lc. chan_seen a a.shape t a.rows es before.stands c lc)

  pub refused_is : (e : Event) (o : Offence) (refused : RefusedEvent) → IsPlacedOffence a.shape o → refused ≡ refused_by a.shape t (last_mark_for strokes o) (oldest_read a o) e o → refused ≡ refused_at a.shape t st e o
  refused_is e o refused placed is = is ∙ (λ j. refused_by a.shape t (last_same o j) (oldest_same o placed j) e o)

-- the same by equal auditors, crossings and bounds of time
pub moved : (a b : AuditState) (asked asked' : Asked) (cross cross' : List Crossing) (t t' : Timing) (tape : Tape) (es : List Event) → b ≡ a → asked' ≡ asked → cross' ≡ cross → t' ≡ t → IsNotedSoFar a asked cross t tape es → IsNotedSoFar b asked' cross' t' tape es
moved a b asked asked' cross cross' t t' tape es p d q r rec =
    subst (λ (x : AuditState). IsNotedSoFar x asked' cross' t' tape es) (sym p) (subst (λ (x : Asked). IsNotedSoFar a x cross' t' tape es) (sym d)
    (subst (λ (c : List Crossing). IsNotedSoFar a asked c t' tape es) (sym q) (subst (λ (u : Timing). IsNotedSoFar a asked cross u tape es) (sym r) rec)))

-- what is judged of the next event, whatever events are

pub judged_taken : {E O : Type 0} (rules : Rules E O) (stopped : List E → E → O → Stopped) (before : List E) (e : E) (r : Result (Unit {0}) (Stop Stopped)) → IfErr r (λ x. x ≡ stop.Memory) → rules.offence before e ≡ None → JudgesNextEvent (drawing_by rules stopped) before e r
judged_taken rules stopped before e (Ok done) short none = ap (option_map (stopped before e)) none
judged_taken rules stopped before e (Err x) short none = subst (λ (y : Stop Stopped). JudgesNextEvent (drawing_by rules stopped) before e (Err y)) (sym short) tt

pub on_ok : {P Q : Type 0} (r : Result (Unit {0}) (Stop Stopped)) → (P → Q) → OnOk r P → OnOk r Q
on_ok (Ok done) f p = f p
on_ok (Err x) f p = tt
