-- Which numbers the times of a drawn list are.
use Rattle.std.proofs.Common.{◌≡◌, ℕ, ◌+◌, ◌<◌, ◌≤◌, inl, inr, List, [], ◌∷◌, ◌++◌, length, Option, Some, None, Bool, true, false, nat_lt, if◌then◌else◌, refl, sym, ◌∙◌, ap, subst, arith, ltb-false}
use Rattle.lt_arch.specs.declared.event.Event.{Event}
use Rattle.lt_arch.specs.declared.event.Event.TheVariants.{Act, Del, End}
use Rattle.lt_arch.specs.declared.limits.TheConstants.{GREATEST_TIME}
use Rattle.lt_arch.specs.declared.shape.Shape.{Shape}
use Rattle.lt_arch.specs.declared.timing.Timing.{Timing}
use Rattle.lt_arch.specs.State.{State}
use Rattle.lt_arch.specs.Readers.{chan_count, from_of, to_of, tmax_of, dmin_of, dmax_of}
use Rattle.lt_arch.specs.Step.{after, updated}
use Rattle.lt_arch.specs.Schedule.{OnePlace, after_all, reached}
use Rattle.lt_arch.proofs.Changes.{one_if, transit-act, updated-here, updated-other}
use Rattle.lt_sim.specs.Words.{drawn_word, number_in}
use Rattle.lt_sim.specs.Drawn.{Draw, next_due, due_event, beginning, sends, gap, delay, activated, delivered, drawn_on, unless_past, drawn}
use Rattle.lt_base.specs.Truths.{how_many}
use Rattle.lt_sim.specs.Standing.{IsTransitPending, DrawKeeps}
use Rattle.lt_sim.specs.Numbers.{words_by, words_before, HasNoActivation, HasNoDelivery, AreDrawn}
use Rattle.lt_sim.proofs.Dues.{IsActivation, IsDelivery, which}
use Rattle.lt_sim.proofs.Measure.{rest, rest-is, drawn-is}
use Rattle.lt_sim.proofs.Keeping.{keeps_first, keeps_on}

-- The first event of what is left.

not_nil : (xs : List Event) (e : Event) (ys : List Event) → [] ≡ xs ++ e ∷ ys → ⊥
not_nil [] e ys h = cc
not_nil (x ∷ xs) e ys h = cc

head_of : (x y : Event) (xs ys : List Event) → x ∷ xs ≡ y ∷ ys → x ≡ y
head_of x y xs ys h = cc

tail_of : (x y : Event) (xs ys : List Event) → x ∷ xs ≡ y ∷ ys → xs ≡ ys
tail_of x y xs ys h = cc

-- it is what happens next, before the horizon
record IsNext (s : Shape) (t : Timing) (rows seed horizon : ℕ) (d : Draw) (e : Event) (later : List Event) : Type 0 where
  due : ℕ × ℕ
  next : next_due s d ≡ Some due
  near : due.0 ≤ horizon
  event : due_event s due ≡ e
  left : rest s t rows seed horizon (drawn_on s t rows seed d (due_event s due)) ≡ later

module _ (s : Shape) (t : Timing) (rows seed horizon : ℕ) (d : Draw) (e : Event) (later : List Event) where
  -- an event that is no end, or that others follow
  next_by : (End horizon ∷ [] ≡ e ∷ later → ⊥) → rest s t rows seed horizon d ≡ e ∷ later → IsNext s t rows seed horizon d e later
  next_by more is = by (next_due s d) refl (sym (rest-is s t rows seed horizon d) ∙ is)
    where
      following : ℕ × ℕ → List Event
      following due = due_event s due ∷ rest s t rows seed horizon (drawn_on s t rows seed d (due_event s due))

      at_due : (due : ℕ × ℕ) → next_due s d ≡ Some due → (b : Bool) → nat_lt horizon due.0 ≡ b → (if b then End horizon ∷ [] else following due) ≡ e ∷ later → IsNext s t rows seed horizon d e later
      at_due due next true test is = absurd (more is)
      at_due due next false test is = record {
        due = due;
        next = next;
        near = ltb-false horizon due.0 test;
        event = head_of (due_event s due) e (rest s t rows seed horizon (drawn_on s t rows seed d (due_event s due))) later is;
        left = tail_of (due_event s due) e (rest s t rows seed horizon (drawn_on s t rows seed d (due_event s due))) later is;
      }

      by : (o : Option (ℕ × ℕ)) → next_due s d ≡ o → unless_past horizon o following ≡ e ∷ later → IsNext s t rows seed horizon d e later
      by None next is = absurd (more is)
      by (Some due) next is = at_due due next (nat_lt horizon due.0) refl is

act_node : (n m at then_at : ℕ) → Act n at ≡ Act m then_at → n ≡ m
act_node n m at then_at h = cc

act_time : (n m at then_at : ℕ) → Act n at ≡ Act m then_at → at ≡ then_at
act_time n m at then_at h = cc

del_chan : (c d at then_at : ℕ) → Del c at ≡ Del d then_at → c ≡ d
del_chan c d at then_at h = cc

del_time : (c d at then_at : ℕ) → Del c at ≡ Del d then_at → at ≡ then_at
del_time c d at then_at h = cc

some_same : (a b : ℕ) → Some a ≡ Some b → a ≡ b
some_same a b h = cc

-- One event changes no other pending time.

transit_some : (dmin dmax : ℕ) (transit : List ℕ) (pending : Option ℕ) (at : ℕ) → IsTransitPending dmin dmax transit pending → pending ≡ Some at → 1 ≤ length transit
transit_some dmin dmax [] None at h is = absurd cc
transit_some dmin dmax [] (Some p) at h is = absurd h
transit_some dmin dmax (sent ∷ later) pending at h is = omega arith

-- what an event leaves of a list that is being drawn
record Leaves (s : Shape) (t : Timing) (rows : ℕ) (d new : Draw) (xs : List Event) : Type 0 where
  state_is : new.state ≡ after_all s t rows d.state xs
  words_is : new.words ≡ d.words + words_by s t rows d.state xs
  activations : (n : ℕ) → HasNoActivation n xs → new.activation n ≡ d.activation n
  deliveries : (c at : ℕ) → c < chan_count s → d.delivery c ≡ Some at → HasNoDelivery c xs → new.delivery c ≡ Some at

module _ (s : Shape) (t : Timing) (rows seed : ℕ) (one_place : OnePlace s t rows) (front : List Event) (d : Draw) (k : DrawKeeps s t rows front d) (due : ℕ × ℕ) (is : next_due s d ≡ Some due) (near : due.0 ≤ GREATEST_TIME) where
  leaves-act : (n : ℕ) → IsActivation s d due n → DrawKeeps s t rows (front ++ Act n due.0 ∷ []) (activated s t rows seed d n due.0) → Leaves s t rows d (activated s t rows seed d n due.0) (Act n due.0 ∷ [])
  leaves-act n a after_it = record {
    state_is = refl;
    words_is = omega arith;
    activations = λ m none. updated-other d.activation n (due.0 + gap t seed n (d.words + 1)) m (λ same. none.0 (sym same));
    deliveries = λ c at lt pending _.
        let some = transit_some (dmin_of t (from_of s c) (to_of s c)) (dmax_of t (from_of s c) (to_of s c)) (d.state.chan c).transit (d.delivery c) at (k.pending.deliveries c lt) pending in
        let one = after_it.one_place.one c lt in
        let grown = transit-act s t rows d.state n due.0 c in
        by c at pending (sends s t rows d.state n c) refl (omega (arith, some, one, grown));
  }
    where
      by : (c at : ℕ) → d.delivery c ≡ Some at → (b : Bool) → sends s t rows d.state n c ≡ b → one_if (sends s t rows d.state n c) ≤ 0
          → (if sends s t rows d.state n c then Some (due.0 + delay s t seed c (d.words + 2 + how_many (sends s t rows d.state n) c)) else d.delivery c) ≡ Some at
      by c at pending true test none = let one : one_if (sends s t rows d.state n c) ≡ 1 = ap one_if test in absurd (omega (arith, one, none))
      by c at pending false test none = ap (λ (b : Bool). if b then Some (due.0 + delay s t seed c (d.words + 2 + how_many (sends s t rows d.state n) c)) else d.delivery c) test ∙ pending

  leaves-del : (c : ℕ) → IsDelivery s d due c → Leaves s t rows d (delivered s t rows d c due.0) (Del c due.0 ∷ [])
  leaves-del c a = record {
    state_is = refl;
    words_is = omega arith;
    activations = λ m none. refl;
    deliveries = λ i at lt pending none. updated-other d.delivery c None i (λ same. none.0 (sym same)) ∙ pending;
  }

  leaves_next : (e : Event) → due_event s due ≡ e → Leaves s t rows d (drawn_on s t rows seed d e) (e ∷ [])
  unfolding drawn_on
  leaves_next e here = subst (λ (e : Event). Leaves s t rows d (drawn_on s t rows seed d e) (e ∷ [])) here (elim (which s d due is) [
    | inl a ↦ rw a.1.event (leaves-act a.0 a.1 (rw a.1.event at (keeps_on s t rows seed one_place front d k due is near)))
    | inr a ↦ rw a.1.event (leaves-del a.0 a.1)
  ])

-- What one event and then others leave.
words-more : (s : Shape) (t : Timing) (rows : ℕ) (st : State) (e : Event) (xs : List Event) → words_by s t rows st (e ∷ xs) ≡ words_by s t rows st (e ∷ []) + words_by s t rows (after s t rows st e) xs
words-more s t rows st (Act n at) xs = omega arith
words-more s t rows st (Del c at) xs = omega arith
words-more s t rows st (End at) xs = omega arith

no_act_first : (n : ℕ) (e : Event) (xs : List Event) → HasNoActivation n (e ∷ xs) → HasNoActivation n (e ∷ [])
no_act_first n (Act m at) xs h = (h.0, tt)
no_act_first n (Del c at) xs h = tt
no_act_first n (End at) xs h = tt

no_act_later : (n : ℕ) (e : Event) (xs : List Event) → HasNoActivation n (e ∷ xs) → HasNoActivation n xs
no_act_later n (Act m at) xs h = h.1
no_act_later n (Del c at) xs h = h
no_act_later n (End at) xs h = h

no_del_first : (c : ℕ) (e : Event) (xs : List Event) → HasNoDelivery c (e ∷ xs) → HasNoDelivery c (e ∷ [])
no_del_first c (Act m at) xs h = tt
no_del_first c (Del d at) xs h = (h.0, tt)
no_del_first c (End at) xs h = tt

no_del_later : (c : ℕ) (e : Event) (xs : List Event) → HasNoDelivery c (e ∷ xs) → HasNoDelivery c xs
no_del_later c (Act m at) xs h = h
no_del_later c (Del d at) xs h = h.1
no_del_later c (End at) xs h = h

leaves_more : (s : Shape) (t : Timing) (rows : ℕ) (d mid new : Draw) (e : Event) (xs : List Event) → Leaves s t rows d mid (e ∷ []) → Leaves s t rows mid new xs → Leaves s t rows d new (e ∷ xs)
leaves_more s t rows d mid new e xs a b = record {
  state_is = b.state_is ∙ ap (λ (st : State). after_all s t rows st xs) a.state_is;
  words_is =
      let later : words_by s t rows mid.state xs ≡ words_by s t rows (after s t rows d.state e) xs = ap (λ (st : State). words_by s t rows st xs) a.state_is in
      let first = a.words_is in
      let rest = b.words_is in
      let all = words-more s t rows d.state e xs in
      omega (arith, later, first, rest, all);
  activations = λ n none. b.activations n (no_act_later n e xs none) ∙ a.activations n (no_act_first n e xs none);
  deliveries = λ c at lt pending none. b.deliveries c at lt (a.deliveries c at lt pending (no_del_first c e xs none)) (no_del_later c e xs none);
}

-- Behind some events of the list.
record Walks (s : Shape) (t : Timing) (rows seed horizon : ℕ) (d : Draw) (xs : List Event) (e : Event) (later : List Event) : Type 0 where
  to : Draw
  front : List Event
  keeps : DrawKeeps s t rows front to
  leaves : Leaves s t rows d to xs
  left : rest s t rows seed horizon to ≡ e ∷ later

module _ (s : Shape) (t : Timing) (rows seed horizon : ℕ) (one_place : OnePlace s t rows) (near : horizon ≤ GREATEST_TIME) where
  walk : (front : List Event) (d : Draw) (xs : List Event) (e : Event) (later : List Event) → DrawKeeps s t rows front d → rest s t rows seed horizon d ≡ xs ++ e ∷ later → Walks s t rows seed horizon d xs e later
  walk front d [] e later k is = record {
    to = d;
    front = front;
    keeps = k;
    leaves = record { state_is = refl; words_is = omega arith; activations = λ n none. refl; deliveries = λ c at lt pending none. pending };
    left = is;
  }
  walk front d (x ∷ xs) e later k is =
      let h = next_by s t rows seed horizon d x (xs ++ e ∷ later) (λ end. not_nil xs e later (tail_of (End horizon) x [] (xs ++ e ∷ later) end)) is in
      let timely : h.due.0 ≤ GREATEST_TIME = let n = h.near in omega (arith, n, near) in
      let next = walk (front ++ due_event s h.due ∷ []) (drawn_on s t rows seed d (due_event s h.due)) xs e later (keeps_on s t rows seed one_place front d k h.due h.next timely) h.left in
      let first = leaves_next s t rows seed one_place front d k h.due h.next timely (due_event s h.due) refl in
      record {
        to = next.to;
        front = next.front;
        keeps = next.keeps;
        leaves = subst (λ (y : Event). Leaves s t rows d next.to (y ∷ xs)) h.event (leaves_more s t rows d (drawn_on s t rows seed d (due_event s h.due)) next.to (due_event s h.due) xs first next.leaves);
        left = next.left;
      }

  -- the time of an activation, or of a delivery
  time_of_act : (d : Draw) (n at : ℕ) (later : List Event) → rest s t rows seed horizon d ≡ Act n at ∷ later → at ≡ d.activation n
  time_of_act d n at later is =
      let h = next_by s t rows seed horizon d (Act n at) later (λ end. let clash = head_of (End horizon) (Act n at) [] later end in absurd cc) is in
      elim (which s d h.due h.next) [
        | inl a ↦
            let same : Act a.0 h.due.0 ≡ Act n at = sym a.1.event ∙ h.event in
            sym (act_time a.0 n h.due.0 at same) ∙ (sym a.1.at ∙ ap d.activation (act_node a.0 n h.due.0 at same))
        | inr a ↦ let clash : Del a.0 h.due.0 ≡ Act n at = sym a.1.event ∙ h.event in absurd cc
      ]

  time_of_del : (d : Draw) (c at : ℕ) (later : List Event) → rest s t rows seed horizon d ≡ Del c at ∷ later → d.delivery c ≡ Some at
  time_of_del d c at later is =
      let h = next_by s t rows seed horizon d (Del c at) later (λ end. let clash = head_of (End horizon) (Del c at) [] later end in absurd cc) is in
      elim (which s d h.due h.next) [
        | inl a ↦ let clash : Act a.0 h.due.0 ≡ Del c at = sym a.1.event ∙ h.event in absurd cc
        | inr a ↦
            let same : Del a.0 h.due.0 ≡ Del c at = sym a.1.event ∙ h.event in
            ap d.delivery (sym (del_chan a.0 c h.due.0 at same)) ∙ (a.1.at ∙ ap (λ v. Some v) (del_time a.0 c h.due.0 at same))
      ]

  -- behind an activation
  record Activates (d : Draw) (n at : ℕ) (later : List Event) : Type 0 where
    front : List Event
    keeps : DrawKeeps s t rows front (activated s t rows seed d n at)
    left : rest s t rows seed horizon (activated s t rows seed d n at) ≡ later

  activates : (front : List Event) (d : Draw) (n at : ℕ) (later : List Event) → DrawKeeps s t rows front d → rest s t rows seed horizon d ≡ Act n at ∷ later → Activates d n at later
  unfolding drawn_on
  activates front d n at later k is =
      let h = next_by s t rows seed horizon d (Act n at) later (λ end. let clash = head_of (End horizon) (Act n at) [] later end in absurd cc) is in
      let timely : h.due.0 ≤ GREATEST_TIME = let m = h.near in omega (arith, m, near) in
      let keeps : DrawKeeps s t rows (front ++ Act n at ∷ []) (drawn_on s t rows seed d (Act n at)) = subst (λ (e : Event). DrawKeeps s t rows (front ++ e ∷ []) (drawn_on s t rows seed d e)) h.event (keeps_on s t rows seed one_place front d k h.due h.next timely) in
      let left : rest s t rows seed horizon (drawn_on s t rows seed d (Act n at)) ≡ later = subst (λ (e : Event). rest s t rows seed horizon (drawn_on s t rows seed d e) ≡ later) h.event h.left in
      record { front = front ++ Act n at ∷ []; keeps = keeps; left = left }

  from_start : (front : List Event) (e : Event) (later : List Event) → drawn s t rows seed horizon ≡ front ++ e ∷ later → Walks s t rows seed horizon (beginning s t seed) front e later
  from_start front e later is = walk [] (beginning s t seed) front e later (keeps_first s t rows seed one_place) (sym (drawn-is s t rows seed horizon) ∙ is)

  first_time : (n at : ℕ) (front later : List Event) → drawn s t rows seed horizon ≡ front ++ Act n at ∷ later → HasNoActivation n front → at ≡ number_in 0 (tmax_of t n) (drawn_word seed (n + 1))
  first_time n at front later is none =
      let w = from_start front (Act n at) later is in
      time_of_act w.to n at later w.left ∙ w.leaves.activations n none

  next_time : (n at then_at : ℕ) (front between later : List Event) → drawn s t rows seed horizon ≡ front ++ Act n at ∷ (between ++ Act n then_at ∷ later) → HasNoActivation n between → then_at ≡ at + gap t seed n (words_before s t rows front + 1)
  next_time n at then_at front between later is none =
      let w = from_start front (Act n at) (between ++ Act n then_at ∷ later) is in
      let a = activates w.front w.to n at (between ++ Act n then_at ∷ later) w.keeps w.left in
      let v = walk a.front (activated s t rows seed w.to n at) between (Act n then_at) later a.keeps a.left in
      let set : updated w.to.activation n (at + gap t seed n (w.to.words + 1)) n ≡ at + gap t seed n (w.to.words + 1) = updated-here w.to.activation n (at + gap t seed n (w.to.words + 1)) n refl in
      time_of_act v.to n then_at later v.left ∙ (v.leaves.activations n none ∙ (set ∙ ap (λ m. at + gap t seed n (m + 1)) w.leaves.words_is))

  arrival_time : (n c at then_at : ℕ) (front between later : List Event) → drawn s t rows seed horizon ≡ front ++ Act n at ∷ (between ++ Del c then_at ∷ later) → c < chan_count s → sends s t rows (reached s t rows front) n c ≡ true → HasNoDelivery c between →
      then_at ≡ at + delay s t seed c (words_before s t rows front + 2 + how_many (sends s t rows (reached s t rows front) n) c)
  arrival_time n c at then_at front between later is lt on none =
      let w = from_start front (Act n at) (between ++ Del c then_at ∷ later) is in
      let a = activates w.front w.to n at (between ++ Del c then_at ∷ later) w.keeps w.left in
      let v = walk a.front (activated s t rows seed w.to n at) between (Del c then_at) later a.keeps a.left in
      let state : w.to.state ≡ reached s t rows front = w.leaves.state_is in
      let sent : sends s t rows w.to.state n c ≡ true = ap (λ (st : State). sends s t rows st n c) state ∙ on in
      let set : (activated s t rows seed w.to n at).delivery c ≡ Some (at + delay s t seed c (w.to.words + 2 + how_many (sends s t rows w.to.state n) c)) =
      ap (λ (b : Bool). if b then Some (at + delay s t seed c (w.to.words + 2 + how_many (sends s t rows w.to.state n) c)) else w.to.delivery c) sent in
      let kept = v.leaves.deliveries c (at + delay s t seed c (w.to.words + 2 + how_many (sends s t rows w.to.state n) c)) lt set none in
      let here = time_of_del v.to c then_at later v.left in
      some_same then_at (at + delay s t seed c (w.to.words + 2 + how_many (sends s t rows w.to.state n) c)) (sym here ∙ kept)
      ∙ (λ i. at + delay s t seed c (w.leaves.words_is i + 2 + how_many (sends s t rows (state i) n) c))

  pub numbers : AreDrawn s t rows seed (drawn s t rows seed horizon)
  numbers = record { first = first_time; next = next_time; arrival = arrival_time }
