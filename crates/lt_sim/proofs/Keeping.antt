-- What is pending keeps to the bounds.
use Rattle.std.proofs.Common.{◌≡◌, ℕ, suc, ◌+◌, ◌-◌, ◌%◌, ◌<◌, ◌≤◌, inl, inr, List, [], ◌∷◌, ◌++◌, length, Option, Some, None, is_some, Bool, true, false, ◌&&◌, ◌||◌, ◌==◌, nat_le, if◌then◌else◌, refl, sym, ◌∙◌, ap, subst, arith, le-ltb, lt-ltb, leb-true}
use Rattle.std.proofs.Math.Nat.{mod-lt}
use Rattle.std.proofs.lemmas.Bool.{cases_lt}
use Rattle.std.proofs.lemmas.Bool.Decides.{eqb_tells, leb_tells}
use Rattle.std.proofs.lemmas.List.{length-append}
use Rattle.lt_arch.specs.declared.event.Deed.TheVariants.{Nothing, Execute, Send}
use Rattle.lt_arch.specs.declared.event.Event.{Event}
use Rattle.lt_arch.specs.declared.event.Event.TheVariants.{Act, Del, End}
use Rattle.lt_arch.specs.declared.event.Offence.TheVariants.{AfterEnd, Backwards}
use Rattle.lt_arch.specs.declared.limits.TheConstants.{GREATEST_TIME}
use Rattle.lt_arch.specs.declared.shape.Shape.{Shape}
use Rattle.lt_arch.specs.declared.timing.Timing.{Timing}
use Rattle.lt_arch.specs.State.{State, ChanState, Phase, Wait, Ready, First, Sending, Executing, start, executed_of}
use Rattle.lt_arch.specs.Readers.{node_count, chan_count, from_of, to_of, tmin_of, tmax_of, dmin_of, dmax_of}
use Rattle.lt_arch.specs.Deeds.{deed_of, deed_at, all_in, any_in, all_ack, more}
use Rattle.lt_arch.specs.Deadline.{after_last, after_oldest, node_deadline, chan_deadline, deadline_of, first_due, IsFirst}
use Rattle.lt_arch.specs.Step.{time_of, is_late, is_backwards, overdue_by, too_soon, too_early, own_offence, offence_or_else, where_true, offence_of, after, is_execute, updated, with_sent, with_delivered}
use Rattle.lt_arch.specs.Schedule.{after_all, reached, HasNoOffence, IsOffenceFree, AreUpTo, IsOnePlace, OnePlace}
use Rattle.lt_arch.proofs.Changes.{one_if, executed-act}
use Rattle.lt_arch.proofs.Ranges.{tmin-tmax, dmin-dmax}
use Rattle.lt_arch.proofs.Winners.{least_below-first}
use Rattle.lt_schedule.proofs.Pushed.{after_push}
use Rattle.lt_sim.specs.Words.{drawn_word, number_in}
use Rattle.lt_sim.specs.Drawn.{Draw, pending_at, next_due, due_event, beginning, sends, gap, delay, activated, delivered, drawn_on}
use Rattle.lt_base.specs.Truths.{how_many}
use Rattle.lt_sim.specs.Standing.{IsRestPending, IsTransitPending, IsNotBefore, IsPending, DrawKeeps}
use Rattle.lt_sim.proofs.Dues.{pending-node, pending-chan, IsActivation, IsDelivery, which, least}

-- A number that is drawn is in its range.

module _ (low high drawn_word : ℕ) (order : low ≤ high) where
  pub number-low : low ≤ number_in low high drawn_word
  number-low = omega arith

  pub number-high : number_in low high drawn_word ≤ high
  number-high = let m : drawn_word % (high - low + 1) < high - low + 1 = mod-lt drawn_word (omega arith) in omega (arith, m, order)

-- Deadlines come no earlier than what is pending.

rest_late : (tmin tmax : ℕ) (last : Option ℕ) (at : ℕ) → IsRestPending tmin tmax last at → at ≤ after_last last tmax
rest_late tmin tmax None at h = h
rest_late tmin tmax (Some last) at h = h.1

rest_rested : (n tmin tmax : ℕ) (last : Option ℕ) (at : ℕ) → IsRestPending tmin tmax last at → too_soon n tmin at last ≡ None
rest_rested n tmin tmax None at h = refl
rest_rested n tmin tmax (Some last) at h = rw (le-ltb at (last + tmin) h.0) refl

-- a pending time that is not after a deadline
record IsPendingBy (pending : Option ℕ) (deadline : ℕ) : Type 0 where
  at : ℕ
  is : pending ≡ Some at
  by : at ≤ deadline

transit_late : (dmin dmax : ℕ) (transit : List ℕ) (pending : Option ℕ) (deadline : ℕ) → IsTransitPending dmin dmax transit pending → after_oldest transit dmax ≡ Some deadline → IsPendingBy pending deadline
transit_late dmin dmax [] pending deadline h is = absurd cc
transit_late dmin dmax (sent ∷ []) None deadline h is = absurd h
transit_late dmin dmax (sent ∷ []) (Some at) deadline h is = let same : sent + dmax ≡ deadline = cc in record { at = at; is = refl; by = omega (arith, same, h.1) }
transit_late dmin dmax (sent ∷ next ∷ later) pending deadline h is = absurd h

transit_rested : (c dmin dmax : ℕ) (transit : List ℕ) (pending : Option ℕ) (at : ℕ) → pending ≡ Some at → IsTransitPending dmin dmax transit pending → too_early c dmin at transit ≡ None
transit_rested c dmin dmax [] None at is h = absurd cc
transit_rested c dmin dmax [] (Some p) at is h = absurd h
transit_rested c dmin dmax (sent ∷ []) None at is h = absurd h
transit_rested c dmin dmax (sent ∷ []) (Some p) at is h = let same : p ≡ at = cc in rw (le-ltb at (sent + dmin) (omega (arith, same, h.0))) refl
transit_rested c dmin dmax (sent ∷ next ∷ later) pending at is h = absurd h

not_back : (latest : Option ℕ) (at : ℕ) → IsNotBefore latest at → is_backwards at latest ≡ false
not_back None at h = refl
not_back (Some latest) at h = le-ltb at latest h

-- An event that passes each test has no offence.

free-from : (s : Shape) (t : Timing) (st : State) (e : Event) → is_some st.horizon ≡ false → is_backwards (time_of e) st.latest ≡ false → overdue_by s e (first_due s t st) ≡ None → own_offence s t st e ≡ None → offence_of s t st e ≡ None
unfolding offence_of
free-from s t st e a b c d = λ i. offence_or_else (where_true (a i) AfterEnd) (offence_or_else (where_true (b i) Backwards) (offence_or_else (c i) (d i)))

open_is : (horizon : Option ℕ) → horizon ≡ None → is_some horizon ≡ false
open_is None h = refl
open_is (Some at) h = absurd cc

not_overdue : (s : Shape) (e : Event) (best : Option (ℕ × ℕ)) → ((due : ℕ × ℕ) → best ≡ Some due → is_late e due.0 ≡ false) → overdue_by s e best ≡ None
not_overdue s e None h = refl
not_overdue s e (Some due) h = rw (h due refl) refl

module _ (s : Shape) (t : Timing) (d : Draw) (p : IsPending s t d) where
  by_place : (place deadline : ℕ) → place < node_count s + chan_count s → deadline_of s t d.state place ≡ Some deadline → IsPendingBy (pending_at s d place) deadline
  unfolding deadline_of
  by_place place deadline lt is = elim (cases_lt place (node_count s)) [
    | inl node ↦
        let due : Some (node_deadline t d.state place) ≡ Some deadline = rw (lt-ltb place (node_count s) node) at is in
        let same : node_deadline t d.state place ≡ deadline = cc in
        let late = rest_late (tmin_of t place) (tmax_of t place) (d.state.node place).last (d.activation place) (p.activations place node) in
        record { at = d.activation place; is = pending-node s d place node; by = omega (arith, late, same) }
    | inr past ↦
        let c = place - node_count s in
        let due : chan_deadline s t d.state c ≡ Some deadline = rw (le-ltb place (node_count s) past) at is in
        let there : place ≡ node_count s + c = omega (arith, past) in
        let late = transit_late (dmin_of t (from_of s c) (to_of s c)) (dmax_of t (from_of s c) (to_of s c)) (d.state.chan c).transit (d.delivery c) deadline (p.deliveries c (omega (arith, lt, there))) due in
        record { at = late.at; is = ap (pending_at s d) there ∙ (pending-chan s d c ∙ late.is); by = late.by }
  ]

  -- so an event that no pending time is before is in time
  in_time : (e : Event) → ((place at : ℕ) → place < node_count s + chan_count s → pending_at s d place ≡ Some at → (deadline : ℕ) → at ≤ deadline → is_late e deadline ≡ false) → overdue_by s e (first_due s t d.state) ≡ None
  in_time e early = not_overdue s e (first_due s t d.state) (λ due is.
      let first = subst (IsFirst (deadline_of s t d.state) (node_count s + chan_count s)) is (least_below-first (deadline_of s t d.state) (node_count s + chan_count s)) in
      let by = by_place due.1 due.0 first.0 first.1 in
      early due.1 by.at first.0 by.is due.0 by.by)

  module _ (due : ℕ × ℕ) (is : next_due s d ≡ Some due) where
    free-act : (n : ℕ) → IsActivation s d due n → offence_of s t d.state (Act n due.0) ≡ None
    free-act n a =
        let there : n < node_count s + chan_count s = let w = a.within in omega (arith, w) in
        let here : pending_at s d n ≡ Some due.0 = pending-node s d n a.within ∙ ap (λ (v : ℕ). Some v) a.at in
        let rests : IsRestPending (tmin_of t n) (tmax_of t n) (d.state.node n).last due.0 = subst (IsRestPending (tmin_of t n) (tmax_of t n) (d.state.node n).last) a.at (p.activations n a.within) in
        free-from s t d.state (Act n due.0) (open_is d.state.horizon p.open_end) (not_back d.state.latest due.0 (p.forward n due.0 there here))
        (in_time (Act n due.0) (λ place at lt pending deadline le. let first = least s d due is place at lt pending in le-ltb deadline due.0 (omega (arith, first, le))))
        (rest_rested n (tmin_of t n) (tmax_of t n) (d.state.node n).last due.0 rests)

    free-del : (c : ℕ) → IsDelivery s d due c → offence_of s t d.state (Del c due.0) ≡ None
    free-del c a =
        let there : node_count s + c < node_count s + chan_count s = let w = a.within in omega (arith, w) in
        free-from s t d.state (Del c due.0) (open_is d.state.horizon p.open_end) (not_back d.state.latest due.0 (p.forward (node_count s + c) due.0 there (pending-chan s d c ∙ a.at)))
        (in_time (Del c due.0) (λ place at lt pending deadline le. let first = least s d due is place at lt pending in le-ltb deadline due.0 (omega (arith, first, le))))
        (transit_rested c (dmin_of t (from_of s c) (to_of s c)) (dmax_of t (from_of s c) (to_of s c)) (d.state.chan c).transit (d.delivery c) due.0 a.at (p.deliveries c a.within))

    -- what happens next has no offence
    pub next_free : offence_of s t d.state (due_event s due) ≡ None
    next_free = elim (which s d due is) [ inl a ↦ rw a.1.event (free-act a.0 a.1) | inr a ↦ rw a.1.event (free-del a.0 a.1) ]

  -- nor has the end, where all that is pending comes after it
  pub end_free : (horizon : ℕ) → IsNotBefore d.state.latest horizon → ((place at : ℕ) → place < node_count s + chan_count s → pending_at s d place ≡ Some at → horizon < at) → offence_of s t d.state (End horizon) ≡ None
  end_free horizon latest past =
      free-from s t d.state (End horizon) (open_is d.state.horizon p.open_end) (not_back d.state.latest horizon latest)
      (in_time (End horizon) (λ place at lt pending deadline le. let later = past place at lt pending in below deadline horizon (omega (arith, later, le))))
      refl
    where
      below : (deadline horizon : ℕ) → horizon < deadline → nat_le deadline horizon ≡ false
      below deadline horizon lt = elim (leb_tells deadline horizon) [ inl h ↦ absurd (omega (arith, h.1, lt)) | inr h ↦ h.0 ]

-- What is pending after an event.

sent_pending : (b : Bool) (at delay dmin dmax : ℕ) (ch : ChanState) (transit : List ℕ) (pending : Option ℕ) → ch.transit ≡ transit → IsTransitPending dmin dmax transit pending → length (with_sent b at ch).transit ≤ 1 → dmin ≤ delay → delay ≤ dmax
    → IsTransitPending dmin dmax (with_sent b at ch).transit (if b then Some (at + delay) else pending)
sent_pending true at delay dmin dmax ch [] pending is h one low high = subst (λ (l : List ℕ). IsTransitPending dmin dmax (l ++ at ∷ []) (Some (at + delay))) (sym is) (omega (arith, low), omega (arith, high))
sent_pending true at delay dmin dmax ch (sent ∷ later) pending is h one low high =
    let size : length (ch.transit ++ at ∷ []) ≡ length ch.transit + 1 = length-append ch.transit (at ∷ []) in
    let some : length ch.transit ≡ suc (length later) = ap length is in
    absurd (omega (arith, one, size, some))
sent_pending false at delay dmin dmax ch transit pending is h one low high = subst (λ (l : List ℕ). IsTransitPending dmin dmax l pending) (sym is) h

taken_pending : (dmin dmax at : ℕ) (ch : ChanState) (transit : List ℕ) (pending : Option ℕ) → pending ≡ Some at → IsTransitPending dmin dmax transit pending → IsTransitPending dmin dmax (with_delivered ch transit).transit None
taken_pending dmin dmax at ch [] None is h = absurd cc
taken_pending dmin dmax at ch [] (Some p) is h = absurd h
taken_pending dmin dmax at ch (sent ∷ []) pending is h = tt
taken_pending dmin dmax at ch (sent ∷ next ∷ later) pending is h = absurd h

-- pending times that are not before a time
by_places : (s : Shape) (d : Draw) (at : ℕ) → ((n : ℕ) → n < node_count s → at ≤ d.activation n) → ((c v : ℕ) → c < chan_count s → d.delivery c ≡ Some v → at ≤ v) → (place v : ℕ) → place < node_count s + chan_count s → pending_at s d place ≡ Some v → at ≤ v
by_places s d at nodes chans place v lt is = elim (cases_lt place (node_count s)) [
  | inl node ↦
      let here : Some (d.activation place) ≡ Some v = sym (pending-node s d place node) ∙ is in
      let same : d.activation place ≡ v = cc in
      let le = nodes place node in
      omega (arith, same, le)
  | inr past ↦
      let c = place - node_count s in
      let there : place ≡ node_count s + c = omega (arith, past) in
      chans c v (omega (arith, lt, there)) (sym (pending-chan s d c) ∙ (ap (pending_at s d) (sym there) ∙ is))
]

some_if : (b : Bool) (x v : ℕ) (other : Option ℕ) (at : ℕ) → (if b then Some x else other) ≡ Some v → at ≤ x → ((w : ℕ) → other ≡ Some w → at ≤ w) → at ≤ v
some_if true x v other at is le h = let same : x ≡ v = cc in omega (arith, same, le)
some_if false x v other at is le h = h v is

module _ (s : Shape) (t : Timing) (rows seed : ℕ) (d : Draw) (p : IsPending s t d) (due : ℕ × ℕ) (is : next_due s d ≡ Some due) where
  module _ (n : ℕ) (a : IsActivation s d due n) (one : (c : ℕ) → c < chan_count s → length ((after s t rows d.state (Act n due.0)).chan c).transit ≤ 1) where
    new : Draw
    new = activated s t rows seed d n due.0

    next_gap : ℕ
    next_gap = gap t seed n (d.words + 1)

    gap-low : tmin_of t n ≤ next_gap
    unfolding next_gap
    gap-low = number-low (tmin_of t n) (tmax_of t n) (drawn_word seed (d.words + 1)) (tmin-tmax t n)

    gap-high : next_gap ≤ tmax_of t n
    unfolding next_gap
    gap-high = number-high (tmin_of t n) (tmax_of t n) (drawn_word seed (d.words + 1)) (tmin-tmax t n)

    act-nodes : (i : ℕ) → i < node_count s → IsRestPending (tmin_of t i) (tmax_of t i) ((after s t rows d.state (Act n due.0)).node i).last (updated d.activation n (due.0 + next_gap) i)
    unfolding after
    act-nodes i lt = elim (eqb_tells i n) [
      | inl e ↦ rw (e.0, e.1) (let low = gap-low in let high = gap-high in (omega (arith, low), omega (arith, high)))
      | inr e ↦ rw e.0 (p.activations i lt)
    ]

    act-chans : (c : ℕ) → c < chan_count s → IsTransitPending (dmin_of t (from_of s c) (to_of s c)) (dmax_of t (from_of s c) (to_of s c)) ((after s t rows d.state (Act n due.0)).chan c).transit (new.delivery c)
    unfolding after new
    act-chans c lt =
        let order = dmin-dmax t (from_of s c) (to_of s c) in
        let w : ℕ = drawn_word seed (d.words + 2 + how_many (sends s t rows d.state n) c) in
        sent_pending (sends s t rows d.state n c) due.0 (number_in (dmin_of t (from_of s c) (to_of s c)) (dmax_of t (from_of s c) (to_of s c)) w) (dmin_of t (from_of s c) (to_of s c)) (dmax_of t (from_of s c) (to_of s c))
        (d.state.chan c) (d.state.chan c).transit (d.delivery c) refl (p.deliveries c lt) (one c lt) (number-low _ _ w order) (number-high _ _ w order)

    act-later : (i : ℕ) → i < node_count s → due.0 ≤ new.activation i
    unfolding new
    act-later i lt = elim (eqb_tells i n) [
      | inl e ↦ rw e.0 (omega arith)
      | inr e ↦ rw e.0 (least s d due is i (d.activation i) (omega arith) (pending-node s d i lt))
    ]

    act-behind : (c v : ℕ) → c < chan_count s → new.delivery c ≡ Some v → due.0 ≤ v
    unfolding new
    act-behind c v lt found =
        some_if (sends s t rows d.state n c) (due.0 + delay s t seed c (d.words + 2 + how_many (sends s t rows d.state n) c)) v (d.delivery c) due.0 found (omega arith)
        (λ w pending. least s d due is (node_count s + c) w (omega arith) (pending-chan s d c ∙ pending))

    pub act-pending : IsPending s t (activated s t rows seed d n due.0)
    unfolding after new next_gap
    act-pending = record {
      open_end = p.open_end;
      activations = act-nodes;
      deliveries = act-chans;
      forward = by_places s new due.0 act-later act-behind;
    }

  module _ (c : ℕ) (a : IsDelivery s d due c) where
    newer : Draw
    newer = delivered s t rows d c due.0

    del-chans : (i : ℕ) → i < chan_count s → IsTransitPending (dmin_of t (from_of s i) (to_of s i)) (dmax_of t (from_of s i) (to_of s i)) ((after s t rows d.state (Del c due.0)).chan i).transit (newer.delivery i)
    unfolding after newer
    del-chans i lt = elim (eqb_tells i c) [
      | inl e ↦ rw (e.0, e.1) (taken_pending (dmin_of t (from_of s c) (to_of s c)) (dmax_of t (from_of s c) (to_of s c)) due.0 (d.state.chan c) (d.state.chan c).transit (d.delivery c) a.at (p.deliveries c a.within))
      | inr e ↦ rw e.0 (p.deliveries i lt)
    ]

    del-behind : (i v : ℕ) → i < chan_count s → newer.delivery i ≡ Some v → due.0 ≤ v
    unfolding newer
    del-behind i v lt found = some_not (i == c) v (d.delivery i) found (λ w pending. least s d due is (node_count s + i) w (omega arith) (pending-chan s d i ∙ pending))
      where
        some_not : (b : Bool) (v : ℕ) (other : Option ℕ) → (if b then None else other) ≡ Some v → ((w : ℕ) → other ≡ Some w → due.0 ≤ w) → due.0 ≤ v
        some_not true v other found h = absurd cc
        some_not false v other found h = h v found

    pub del-pending : IsPending s t (delivered s t rows d c due.0)
    unfolding after newer
    del-pending = record {
      open_end = p.open_end;
      activations = p.activations;
      deliveries = del-chans;
      forward = by_places s newer due.0 (λ i lt. least s d due is i (d.activation i) (omega arith) (pending-node s d i lt)) del-behind;
    }

-- A node executes only with a row of inputs left.

execute_more : (p : Phase) (a b c m : Bool) → is_execute (deed_of p a b c m) ≡ true → m ≡ true
execute_more p a b c true h = refl
execute_more Wait true b c false h = absurd cc
execute_more Wait false b c false h = absurd cc
execute_more Ready a b true false h = absurd cc
execute_more Ready a b false false h = absurd cc
execute_more First a b c false h = absurd cc
execute_more (Sending left) a b c false h = absurd (by (left == 1) b h)
  where
    by : (test some : Bool) → is_execute (if test || some then Send else Nothing) ≡ true → ⊥
    by true some h = cc
    by false true h = cc
    by false false h = cc
execute_more (Executing left) a b c false h = absurd (by (left == 1) h)
  where
    by : (test : Bool) → is_execute (if test && false then Execute else Nothing) ≡ true → ⊥
    by true h = cc
    by false h = cc

within-act : (s : Shape) (t : Timing) (rows : ℕ) (st : State) (n at : ℕ) → ((i : ℕ) → i < node_count s → executed_of st i ≤ rows) → (i : ℕ) → i < node_count s → executed_of (after s t rows st (Act n at)) i ≤ rows
within-act s t rows st n at h i lt = by (i == n) (is_execute (deed_at s rows st n)) refl refl
  where
    by : (here executes : Bool) → (i == n) ≡ here → is_execute (deed_at s rows st n) ≡ executes → executed_of (after s t rows st (Act n at)) i ≤ rows
    by true true here executes =
        let e : executed_of (after s t rows st (Act n at)) i ≡ executed_of st i + 1 = executed-act s t rows st n at i ∙ (λ k. executed_of st i + one_if (here k && executes k)) in
        let same : i ≡ n = elim (eqb_tells i n) [ inl q ↦ q.1 | inr q ↦ let clash : true ≡ false = sym here ∙ q.0 in absurd cc ] in
        let left = leb-true (suc (executed_of st n)) rows (execute_more (st.node n).phase (all_in s st n) (any_in s st n) (all_ack s st n) (more rows st n) executes) in
        let same' = ap (executed_of st) same in
        omega (arith, e, left, same')
    by true false here executes = let e : executed_of (after s t rows st (Act n at)) i ≡ executed_of st i + 0 = executed-act s t rows st n at i ∙ (λ k. executed_of st i + one_if (here k && executes k)) in let le = h i lt in omega (arith, e, le)
    by false x here executes = let e : executed_of (after s t rows st (Act n at)) i ≡ executed_of st i + 0 = executed-act s t rows st n at i ∙ (λ k. executed_of st i + one_if (here k && executes k)) in let le = h i lt in omega (arith, e, le)

within-del : (s : Shape) (t : Timing) (rows : ℕ) (st : State) (c at : ℕ) → ((i : ℕ) → i < node_count s → executed_of st i ≤ rows) → (i : ℕ) → i < node_count s → executed_of (after s t rows st (Del c at)) i ≤ rows
unfolding after
within-del s t rows st c at h = h

-- Lists with one event more.

free_push : (s : Shape) (t : Timing) (rows : ℕ) (st : State) (es : List Event) (e : Event) → HasNoOffence s t rows st es → offence_of s t (after_all s t rows st es) e ≡ None → HasNoOffence s t rows st (es ++ e ∷ [])
free_push s t rows st [] e h free = (free, tt)
free_push s t rows st (x ∷ es) e h free = (h.0, free_push s t rows (after s t rows st x) es e h.1 free)

up_to_push : (limit : ℕ) (es : List Event) (e : Event) → AreUpTo limit es → time_of e ≤ limit → AreUpTo limit (es ++ e ∷ [])
up_to_push limit [] e h le = (le, tt)
up_to_push limit (x ∷ es) e h le = (h.0, up_to_push limit es e h.1 le)

module _ (s : Shape) (t : Timing) (rows seed : ℕ) (one_place : OnePlace s t rows) where
  pub keeps_first : DrawKeeps s t rows [] (beginning s t seed)
  keeps_first = record {
    state_is = refl;
    timely = tt;
    free = tt;
    one_place = one_place [] tt tt;
    within = λ n lt. omega arith;
    pending = record {
      open_end = refl;
      activations = λ n lt. number-high 0 (tmax_of t n) (drawn_word seed (n + 1)) (omega arith);
      deliveries = λ c lt. tt;
      forward = λ place at lt is. tt;
    };
  }

  module _ (front : List Event) (d : Draw) (k : DrawKeeps s t rows front d) (due : ℕ × ℕ) (is : next_due s d ≡ Some due) (near : due.0 ≤ GREATEST_TIME) where
    module _ (e : Event) (here : due_event s due ≡ e) (time : time_of e ≤ GREATEST_TIME) where
      free : offence_of s t d.state e ≡ None
      free = subst (λ (e : Event). offence_of s t d.state e ≡ None) here (next_free s t d k.pending due is)

      longer : IsOffenceFree s t rows (front ++ e ∷ [])
      longer = free_push s t rows (start t.protocol) front e k.free (subst (λ (st : State). offence_of s t st e ≡ None) k.state_is free)

      timely : AreUpTo GREATEST_TIME (front ++ e ∷ [])
      timely = up_to_push GREATEST_TIME front e k.timely time

      reaches : after s t rows d.state e ≡ reached s t rows (front ++ e ∷ [])
      reaches = ap (λ (st : State). after s t rows st e) k.state_is ∙ sym (after_push s t rows (start t.protocol) front e)

      one : IsOnePlace s (after s t rows d.state e)
      one = subst (IsOnePlace s) (sym reaches) (one_place (front ++ e ∷ []) timely longer)

    -- and after what happens next the list keeps to them
    pub keeps_on : DrawKeeps s t rows (front ++ due_event s due ∷ []) (drawn_on s t rows seed d (due_event s due))
    unfolding drawn_on
    keeps_on = elim (which s d due is) [
      | inl a ↦ rw a.1.event (record {
        state_is = reaches (Act a.0 due.0) a.1.event near;
        timely = timely (Act a.0 due.0) a.1.event near;
        free = longer (Act a.0 due.0) a.1.event near;
        one_place = one (Act a.0 due.0) a.1.event near;
        within = within-act s t rows d.state a.0 due.0 k.within;
        pending = act-pending s t rows seed d k.pending due is a.0 a.1 (one (Act a.0 due.0) a.1.event near).one;
      })
      | inr a ↦ rw a.1.event (record {
        state_is = reaches (Del a.0 due.0) a.1.event near;
        timely = timely (Del a.0 due.0) a.1.event near;
        free = longer (Del a.0 due.0) a.1.event near;
        one_place = one (Del a.0 due.0) a.1.event near;
        within = within-del s t rows d.state a.0 due.0 k.within;
        pending = del-pending s t rows seed d k.pending due is a.0 a.1;
      })
    ]
