-- A recorder after one event more, and at an offence.
use Rattle.std.proofs.Common.{◌≡◌, ◌∙◌, ℕ, ◌+◌, ◌<◌, ◌≤◌, List, [], ◌∷◌, ◌++◌, length, map, None, refl, sym, ap, subst, arith, slice_index_or}
use Rattle.lt_arch.specs.declared.event.Deed.{Deed}
use Rattle.lt_arch.specs.declared.event.Offence.{Offence}
use Rattle.lt_arch.specs.declared.event.Offence.TheVariants.{AfterEnd, Backwards, NodeOverdue, ChannelOverdue, TooSoon, NothingSent, TooEarly, NoEnd}
use Rattle.lt_arch.specs.declared.limits.TheConstants.{GREATEST_TIME}
use Rattle.lt_arch.specs.declared.shape.Shape.{Shape}
use Rattle.lt_arch.specs.declared.timing.Timing.{Timing}
use Rattle.lt_arch.specs.Readers.{chan_count, node_count}
use Rattle.lt_arch.specs.Shapes.{HaveSameNodes}
use Rattle.lt_lossy.specs.declared.event.LossyEvent.{LossyEvent}
use Rattle.lt_lossy.specs.declared.event.LossyOffence.{LossyOffence}
use Rattle.lt_lossy.specs.declared.event.LossyOffence.TheVariants.{Common, TooManyLost}
use Rattle.lt_lossy.specs.Events.{IsLossyEventOf}
use Rattle.lt_lossy.specs.State.{LinkState, LossyState, Message, lossy_start, plain_of}
use Rattle.lt_lossy.specs.Schedule.{lossy_reached}
use Rattle.lt_lossy.specs.Step.{lossy_offence}
use Rattle.lt_lossy.specs.Times.{lossy_time_of}
use Rattle.lt_place_reads.specs.declared.crossing.Crossing.{Crossing}
use Rattle.lt_audit.specs.Acts.{next_number}
use Rattle.lt_tape.specs.declared.asked.Asked.{Asked}
use Rattle.lt_tape.specs.declared.stroke.Stroke.{Stroke}
use Rattle.lt_tape.specs.declared.tape.Tape.{Tape}
use Rattle.lt_tape.specs.Tapes.{IsTapeOf, tape_count}
use Rattle.lt_tape.specs.Times.{last_mark, last_time, stroke_time, time_or_zero}
use Rattle.lt_tape.proofs.Tallying.{last_push}
use Rattle.lt_course.specs.declared.course.RefusedEvent.{RefusedEvent}
use Rattle.lt_course.specs.Courses.{last_for, oldest_for}
use Rattle.lt_course.specs.Lasts.{last_mark_for}
use Rattle.lt_course.specs.Placed.{IsPlacedOffence}
use Rattle.lt_course.specs.Recording.{TapesStroke}
use Rattle.lt_course.specs.Strokes.{arrows_below, first_sent_or}
use Rattle.lt_lossy_audit.specs.Links.{link_seen, link_send_times}
use Rattle.lt_lossy_audit.specs.LossyAudit.{KnowsLossyDeed, LossyAuditState, LossyAuditStands}
use Rattle.lt_lossy_audit.proofs.SpaceSeen.{after_more}
use Rattle.lt_lossy_course.specs.declared.sketch.Leaving.{Leaving}
use Rattle.lt_lossy_course.specs.LossyCourses.{lossy_last_for, lossy_oldest_for, lossy_refused_at, lossy_refused_by}
use Rattle.lt_lossy_course.specs.LossyLasts.{IsLossyPlacedOffence, common_oldest_read, first_time_on, lossy_mark_for, lossy_oldest_read}
use Rattle.lt_lossy_course.specs.LossyNoted.{IsLossyNotedSoFar}
use Rattle.lt_lossy_course.specs.LossySketches.{IsLossyDeedDone, IsLossyExecuted, TakesLeaving, lossy_stroke_by}
use Rattle.lt_lossy_course.specs.LossyStrokes.{lossy_pending_of, lossy_pending_on, lossy_stroke_of, lossy_strokes_of}
use Rattle.lt_lossy_course.proofs.LossyStrokes.{last_seen, latest_after, lossy_comes_later, pending_same, stroke_at, stroke_same, strokes_count, strokes_push}

module _ (a b : LossyAuditState) (asked : Asked) (cross : List Crossing) (t : Timing) (limit : ℕ) (tape : Tape) (es : List LossyEvent) (e : LossyEvent) (before : IsLossyNotedSoFar a asked cross t limit tape es) (event : IsLossyEventOf a.shape e) where
  -- so many events came before
  count_is : tape_count tape ≡ 0 + length es
  count_is = before.taped.front.tally.count ∙ strokes_count cross a.shape t a.rows lossy_start 0 es ∙ omega arith

  pub recorded_on : (deed : Deed) (executed : ℕ) (x : Leaving) (after : Tape) → b.shape ≡ a.shape → LossyAuditStands b a.shape t limit a.rows (es ++ e ∷ []) → KnowsLossyDeed b a.shape a.rows (lossy_reached a.shape t a.rows es) e
      → lossy_offence a.shape t limit (lossy_reached a.shape t a.rows es) e ≡ None → IsLossyExecuted a e executed → TakesLeaving a e x → IsLossyDeedDone b e deed
      → TapesStroke tape after (lossy_stroke_by cross b.shape (next_number (tape_count tape)) deed executed x e) → IsLossyNotedSoFar b asked cross t limit after (es ++ e ∷ [])
  recorded_on deed executed x after shape stands knows none ex takes done tapes =
      let st = lossy_reached a.shape t a.rows es in
      let y = lossy_stroke_of cross a.shape a.rows st (next_number (0 + length es)) e in
      let here : lossy_stroke_by cross b.shape (next_number (tape_count tape)) deed executed x e ≡ y =
      (λ i. lossy_stroke_by cross (shape i) (next_number (count_is i)) deed executed x e) ∙ stroke_same a b cross a.shape t limit a.rows es (next_number (0 + length es)) executed x deed before.stands e event.placed knows ex takes done in
      let xs = lossy_strokes_of cross a.shape t a.rows es in
      let more : lossy_strokes_of cross a.shape t a.rows (es ++ e ∷ []) ≡ xs ++ y ∷ [] = strokes_push cross a.shape t a.rows lossy_start 0 es e in
      let at : stroke_time y ≡ lossy_time_of e = stroke_at cross a.shape a.rows st (next_number (0 + length es)) e in
      let later : last_time xs ≤ stroke_time y = subst (λ (k : ℕ). k ≤ stroke_time y) (sym before.latest) (subst (λ (k : ℕ). time_or_zero st.latest ≤ k) (sym at) (lossy_comes_later a.shape t limit st e none)) in
      let timely : stroke_time y ≤ GREATEST_TIME = subst (λ (k : ℕ). k ≤ GREATEST_TIME) (sym at) event.timely in
      let taped : IsTapeOf after asked (node_count a.shape) (xs ++ y ∷ []) = subst (λ (z : Stroke). TapesStroke tape after z) here tapes asked (node_count a.shape) xs before.taped later timely in
      record {
        stands = subst (λ (q : Shape). LossyAuditStands b q t limit b.rows (es ++ e ∷ [])) (sym shape) (subst (λ (n : ℕ). LossyAuditStands b a.shape t limit n (es ++ e ∷ [])) (sym stands.rows_are) stands);
        same = subst (λ (q : Shape). HaveSameNodes q t) (sym shape) before.same;
        taped = subst (λ (q : Shape). IsTapeOf after asked (node_count q) (lossy_strokes_of cross q t b.rows (es ++ e ∷ []))) (sym shape)
            (subst (λ (n : ℕ). IsTapeOf after asked (node_count a.shape) (lossy_strokes_of cross a.shape t n (es ++ e ∷ []))) (sym stands.rows_are) (subst (λ (ys : List Stroke). IsTapeOf after asked (node_count a.shape) ys) (sym more) taped));
        latest = subst (λ (q : Shape). last_time (lossy_strokes_of cross q t b.rows (es ++ e ∷ [])) ≡ time_or_zero (lossy_reached q t b.rows (es ++ e ∷ [])).latest) (sym shape)
            (subst (λ (n : ℕ). last_time (lossy_strokes_of cross a.shape t n (es ++ e ∷ [])) ≡ time_or_zero (lossy_reached a.shape t n (es ++ e ∷ [])).latest) (sym stands.rows_are)
            (ap (λ (ys : List Stroke). last_time ys) more ∙ last_push xs y ∙ at ∙ sym (ap (λ (q : LossyState). time_or_zero q.latest) (after_more a.shape t a.rows lossy_start es e) ∙ ap time_or_zero (latest_after a.shape t a.rows st e))));
      }

first_is : (ms : List Message) → slice_index_or (map (λ (m : Message). m.sent_at) ms) 0 0 ≡ first_sent_or 0 (map (λ (m : Message). m.sent_at) ms)
first_is [] = refl
first_is (m ∷ later) = refl

-- what is read for an offence

module _ (a : LossyAuditState) (asked : Asked) (cross : List Crossing) (t : Timing) (limit : ℕ) (tape : Tape) (es : List LossyEvent) (before : IsLossyNotedSoFar a asked cross t limit tape es) where
  abbrev st : LossyState
  st = lossy_reached a.shape t a.rows es

  abbrev strokes : List Stroke
  strokes = lossy_strokes_of cross a.shape t a.rows es

  last_of : (n : ℕ) → last_mark n strokes ≡ (st.node n).last
  last_of n = last_seen cross a.shape t a.rows n es

  common_last : (o : Offence) → last_mark_for strokes o ≡ last_for (plain_of st) o
  common_last AfterEnd = refl
  common_last Backwards = refl
  common_last (NodeOverdue n) = last_of n
  common_last (ChannelOverdue c) = refl
  common_last (TooSoon n) = last_of n
  common_last (NothingSent c) = refl
  common_last (TooEarly c) = refl
  common_last NoEnd = refl

  last_same : (o : LossyOffence) → lossy_mark_for strokes o ≡ lossy_last_for st o
  last_same (Common o) = common_last o
  last_same (TooManyLost c) = refl

  oldest_of : (c : ℕ) → c < chan_count a.shape → first_time_on a c ≡ first_sent_or 0 ((plain_of st).chan c).transit
  oldest_of c lc = ap (λ (l : LinkState). slice_index_or (link_send_times l) 0 0) (before.stands.state.link c lc) ∙ first_is (st.link c).transit

  common_oldest : (o : Offence) → IsPlacedOffence a.shape o → common_oldest_read a o ≡ oldest_for (plain_of st) o
  common_oldest AfterEnd placed = refl
  common_oldest Backwards placed = refl
  common_oldest (NodeOverdue n) placed = refl
  common_oldest (ChannelOverdue c) placed = oldest_of c placed
  common_oldest (TooSoon n) placed = refl
  common_oldest (NothingSent c) placed = refl
  common_oldest (TooEarly c) placed = oldest_of c placed
  common_oldest NoEnd placed = refl

  oldest_same : (o : LossyOffence) → IsLossyPlacedOffence a.shape o → lossy_oldest_read a o ≡ lossy_oldest_for st o
  oldest_same (Common o) placed = common_oldest o placed
  oldest_same (TooManyLost c) placed = oldest_of c placed

  pub pending_is : arrows_below (lossy_pending_on cross a.shape t (link_seen a.links)) (chan_count a.shape) ≡ lossy_pending_of cross a.shape t st
  pending_is = pending_same cross a.shape t (link_seen a.links) st.link (chan_count a.shape) (λ c lc. before.stands.state.link c lc)

  pub refused_is : (e : LossyEvent) (o : LossyOffence) (refused : RefusedEvent) → IsLossyPlacedOffence a.shape o → refused ≡ lossy_refused_by a.shape t (lossy_mark_for strokes o) (lossy_oldest_read a o) e o → refused ≡ lossy_refused_at a.shape t st e o
  refused_is e o refused placed is = is ∙ (λ j. lossy_refused_by a.shape t (last_same o j) (oldest_same o placed j) e o)

-- the same by equal auditors, crossings, bounds of time and limits, where the same is asked
pub moved : (a b : LossyAuditState) (asked asked' : Asked) (cross cross' : List Crossing) (t t' : Timing) (limit limit' : ℕ) (tape : Tape) (es : List LossyEvent) → b ≡ a → asked' ≡ asked → cross' ≡ cross → t' ≡ t → limit' ≡ limit
    → IsLossyNotedSoFar a asked cross t limit tape es → IsLossyNotedSoFar b asked' cross' t' limit' tape es
moved a b asked asked' cross cross' t t' limit limit' tape es p d q r l rec =
    subst (λ (x : LossyAuditState). IsLossyNotedSoFar x asked' cross' t' limit' tape es) (sym p) (subst (λ (k : Asked). IsLossyNotedSoFar a k cross' t' limit' tape es) (sym d)
    (subst (λ (c : List Crossing). IsLossyNotedSoFar a asked c t' limit' tape es) (sym q) (subst (λ (u : Timing). IsLossyNotedSoFar a asked cross u limit' tape es) (sym r)
    (subst (λ (n : ℕ). IsLossyNotedSoFar a asked cross t n tape es) (sym l) rec))))
