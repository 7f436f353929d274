-- The drawn list is admissible.
use Rattle.std.proofs.Common.{◌≡◌, ℕ, zero, suc, ◌+◌, ◌<◌, ◌≤◌, inl, inr, List, [], ◌∷◌, ◌++◌, Option, Some, None, is_some, Bool, true, false, nat_lt, if◌then◌else◌, refl, sym, ◌∙◌, ap, subst, arith, ltb-true, ltb-false}
use Rattle.std.specs.List.{All}
use Rattle.std.proofs.lemmas.List.Elements.{All-cons, All-nil}
use Rattle.lt_arch.specs.declared.event.Event.{Event}
use Rattle.lt_arch.specs.declared.event.Event.TheVariants.{Act, Del, End}
use Rattle.lt_arch.specs.declared.event.Offence.{Offence}
use Rattle.lt_arch.specs.declared.event.Offence.TheVariants.{NoEnd}
use Rattle.lt_arch.specs.declared.limits.TheConstants.{GREATEST_TIME}
use Rattle.lt_arch.specs.declared.shape.Shape.{Shape}
use Rattle.lt_arch.specs.declared.timing.Timing.{Timing}
use Rattle.lt_arch.specs.State.{State, start}
use Rattle.lt_arch.specs.Readers.{node_count, chan_count}
use Rattle.lt_arch.specs.Deadline.{IsFirst}
use Rattle.lt_arch.specs.Step.{offence_of, after}
use Rattle.lt_arch.specs.Schedule.{after_all, HasNoOffence, OnePlace, IsEventOf, first_offence_from, numbered_or}
use Rattle.lt_arch.proofs.Winners.{least_below-first}
use Rattle.lt_sim.specs.Drawn.{Draw, pending_at, next_due, due_event, beginning, drawn_on, unless_past, drawn}
use Rattle.lt_sim.specs.Standing.{IsNotBefore, DrawKeeps}
use Rattle.lt_sim.specs.Laws.{ScheduleIsSound}
use Rattle.lt_sim.proofs.Dues.{which, least}
use Rattle.lt_sim.proofs.Measure.{room, less, rest, rest-is, drawn-is}
use Rattle.lt_sim.proofs.Keeping.{next_free, end_free, keeps_first, keeps_on}

-- what holds of events from a state on, which end at a horizon
record AreSound (s : Shape) (t : Timing) (rows horizon : ℕ) (st : State) (es : List Event) : Type 0 where
  free : HasNoOffence s t rows st es
  ends : (after_all s t rows st es).horizon ≡ Some horizon
  placed : All (IsEventOf s) es

end-horizon : (s : Shape) (t : Timing) (rows : ℕ) (st : State) (at : ℕ) → (after s t rows st (End at)).horizon ≡ Some at
unfolding after
end-horizon s t rows st at = refl

latest-act : (s : Shape) (t : Timing) (rows : ℕ) (st : State) (n at : ℕ) → (after s t rows st (Act n at)).latest ≡ Some at
unfolding after
latest-act s t rows st n at = refl

latest-del : (s : Shape) (t : Timing) (rows : ℕ) (st : State) (c at : ℕ) → (after s t rows st (Del c at)).latest ≡ Some at
unfolding after
latest-del s t rows st c at = refl

module _ (s : Shape) (t : Timing) (rows seed horizon : ℕ) (one_place : OnePlace s t rows) (near : horizon ≤ GREATEST_TIME) where
  module _ (d : Draw) (due : ℕ × ℕ) (is : next_due s d ≡ Some due) where
    state-on : (drawn_on s t rows seed d (due_event s due)).state ≡ after s t rows d.state (due_event s due)
    unfolding drawn_on
    state-on = elim (which s d due is) [ inl a ↦ rw a.1.event refl | inr a ↦ rw a.1.event refl ]

    latest-on : (after s t rows d.state (due_event s due)).latest ≡ Some due.0
    latest-on = elim (which s d due is) [ inl a ↦ rw a.1.event (latest-act s t rows d.state a.0 due.0) | inr a ↦ rw a.1.event (latest-del s t rows d.state a.0 due.0) ]

    pub placed-next : due.0 ≤ horizon → IsEventOf s (due_event s due)
    placed-next le = elim (which s d due is) [
      | inl a ↦ rw a.1.event (record { placed = a.1.within; timely = omega (arith, le, near) })
      | inr a ↦ rw a.1.event (record { placed = a.1.within; timely = omega (arith, le, near) })
    ]

  -- the end, where all that is pending is past the horizon
  sound-end : (front : List Event) (d : Draw) → DrawKeeps s t rows front d → IsNotBefore d.state.latest horizon → ((place at : ℕ) → place < node_count s + chan_count s → pending_at s d place ≡ Some at → horizon < at) → AreSound s t rows horizon d.state (End horizon ∷ [])
  sound-end front d k latest past = record {
    free = (end_free s t d k.pending horizon latest past, tt);
    ends = end-horizon s t rows d.state horizon;
    placed = All-cons (IsEventOf s) (End horizon) [] (record { placed = tt; timely = near }) (All-nil (IsEventOf s));
  }

  -- an event, and what comes behind it
  sound-more : (st next : State) (e : Event) (es : List Event) → next ≡ after s t rows st e → offence_of s t st e ≡ None → IsEventOf s e → AreSound s t rows horizon next es → AreSound s t rows horizon st (e ∷ es)
  sound-more st next e es is free placed h =
      let h' = subst (λ (st : State). AreSound s t rows horizon st es) is h in
      record { free = (free, h'.free); ends = h'.ends; placed = All-cons (IsEventOf s) e es placed h'.placed }

  module _ (front : List Event) (d : Draw) (k : DrawKeeps s t rows front d) (latest : IsNotBefore d.state.latest horizon) where
    nothing : next_due s d ≡ None → (place at : ℕ) → place < node_count s + chan_count s → pending_at s d place ≡ Some at → horizon < at
    nothing none place at lt pending =
        let first = subst (IsFirst (pending_at s d) (node_count s + chan_count s)) none (least_below-first (pending_at s d) (node_count s + chan_count s)) in
        let clash : None ≡ Some at = sym (first place lt) ∙ pending in absurd cc

    sound-step : ((later : List Event) (next : Draw) → room s horizon next + 1 ≤ room s horizon d → DrawKeeps s t rows later next → IsNotBefore next.state.latest horizon → AreSound s t rows horizon next.state (rest s t rows seed horizon next))
        → AreSound s t rows horizon d.state (rest s t rows seed horizon d)
    sound-step again = subst (AreSound s t rows horizon d.state) (sym (rest-is s t rows seed horizon d)) (by (next_due s d) refl)
      where
        at_due : (due : ℕ × ℕ) → next_due s d ≡ Some due → (b : Bool) → nat_lt horizon due.0 ≡ b
            → AreSound s t rows horizon d.state (if b then End horizon ∷ [] else due_event s due ∷ rest s t rows seed horizon (drawn_on s t rows seed d (due_event s due)))
        at_due due is true past =
            let lt = ltb-true horizon due.0 past in
            sound-end front d k latest (λ place at within pending. let first = least s d due is place at within pending in omega (arith, first, lt))
        at_due due is false past =
            let le = ltb-false horizon due.0 past in
            let state = state-on d due is in
            let time : (drawn_on s t rows seed d (due_event s due)).state.latest ≡ Some due.0 = ap (λ (st : State). st.latest) state ∙ latest-on d due is in
            sound-more d.state (drawn_on s t rows seed d (due_event s due)).state (due_event s due) (rest s t rows seed horizon (drawn_on s t rows seed d (due_event s due))) state
            (next_free s t d k.pending due is) (placed-next d due is le)
            (again (front ++ due_event s due ∷ []) (drawn_on s t rows seed d (due_event s due)) (less s t rows seed horizon d due is le)
            (keeps_on s t rows seed one_place front d k due is (omega (arith, le, near)))
            (subst (λ (o : Option ℕ). IsNotBefore o horizon) (sym time) le))

        by : (o : Option (ℕ × ℕ)) → next_due s d ≡ o → AreSound s t rows horizon d.state (unless_past horizon o (λ due. due_event s due ∷ rest s t rows seed horizon (drawn_on s t rows seed d (due_event s due))))
        by None is = sound-end front d k latest (nothing is)
        by (Some due) is = at_due due is (nat_lt horizon due.0) refl

  sound-by : (n : ℕ) (front : List Event) (d : Draw) → room s horizon d ≤ n → DrawKeeps s t rows front d → IsNotBefore d.state.latest horizon → AreSound s t rows horizon d.state (rest s t rows seed horizon d)
  sound-by zero front d le k latest = sound-step front d k latest (λ later next less _ _. absurd (omega (arith, less, le)))
  sound-by (suc n) front d le k latest = sound-step front d k latest (λ later next less keeps time. sound-by n later next (omega (arith, less, le)) keeps time)

  all_sound : AreSound s t rows horizon (start t.protocol) (drawn s t rows seed horizon)
  all_sound = subst (AreSound s t rows horizon (start t.protocol)) (sym (drawn-is s t rows seed horizon)) (sound-by (room s horizon (beginning s t seed)) [] (beginning s t seed) (omega arith) (keeps_first s t rows seed one_place) tt)

  -- a list without an offence that ends is admissible
  admissible-from : (st : State) (number : ℕ) (es : List Event) → HasNoOffence s t rows st es → is_some (after_all s t rows st es).horizon ≡ true → first_offence_from s t rows st number es ≡ None
  admissible-from st number [] free ends = ap (λ (b : Bool). if b then None else Some (number, NoEnd)) ends
  admissible-from st number (e ∷ es) free ends = ap (λ (o : Option Offence). numbered_or number o (first_offence_from s t rows (after s t rows st e) (number + 1) es)) free.0 ∙ admissible-from (after s t rows st e) (number + 1) es free.1 ends

  pub drawn-sound : ScheduleIsSound s t rows horizon (drawn s t rows seed horizon)
  drawn-sound = record {
    admissible = admissible-from (start t.protocol) 1 (drawn s t rows seed horizon) all_sound.free (ap is_some all_sound.ends);
    ends = all_sound.ends;
    placed = all_sound.placed;
  }
