-- The drawn list is admissible.
use Rattle.std.proofs.Common.{◌≡◌, ℕ, zero, suc, ◌+◌, ◌<◌, ◌≤◌, inl, inr, List, [], ◌∷◌, Option, Some, None, is_some, Bool, true, false, nat_lt, if◌then◌else◌, refl, sym, ◌∙◌, ap, subst, arith, ltb-true, ltb-false}
use Rattle.std.specs.List.{All}
use Rattle.std.proofs.lemmas.List.Elements.{All-cons, All-nil}
use Rattle.lt_arch.specs.declared.event.Event.{Event}
use Rattle.lt_arch.specs.declared.event.Event.TheVariants.{Act, Del, End}
use Rattle.lt_arch.specs.declared.event.Offence.TheVariants.{NoEnd}
use Rattle.lt_arch.specs.declared.limits.TheConstants.{GREATEST_TIME}
use Rattle.lt_arch.specs.declared.shape.Shape.{Shape}
use Rattle.lt_arch.specs.declared.timing.Timing.{Timing}
use Rattle.lt_arch.specs.Readers.{node_count, chan_count}
use Rattle.lt_arch.specs.Deadline.{IsFirst}
use Rattle.lt_arch.proofs.Winners.{least_below-first}
use Rattle.lt_lossy.specs.declared.event.LossyEvent.{LossyEvent}
use Rattle.lt_lossy.specs.declared.event.LossyEvent.TheVariants.{Plain, Lose}
use Rattle.lt_lossy.specs.declared.event.LossyOffence.{LossyOffence}
use Rattle.lt_lossy.specs.declared.event.LossyOffence.TheVariants.{Common}
use Rattle.lt_lossy.specs.State.{LossyState, lossy_start}
use Rattle.lt_lossy.specs.Step.{lossy_offence, lossy_after}
use Rattle.lt_lossy.specs.Schedule.{lossy_after_all, HasNoLossyOffence, first_lossy_offence_from, numbered_lossy_or}
use Rattle.lt_lossy.specs.Events.{IsLossyEventOf}
use Rattle.lt_sim.specs.Drawn.{pending_at, next_due}
use Rattle.lt_sim.proofs.Dues.{which, least}
use Rattle.lt_losing.specs.Losing.{LossyDraw, next_lossy_due, loses_next, lossy_or, due_lossy_event, lossy_beginning, lossy_drawn_on, unless_lossy_past, lossy_drawn}
use Rattle.lt_losing.specs.Laws.{LossyScheduleIsSound}
use Rattle.lt_losing.specs.Bounds.{time_or_0, IsUpcoming}
use Rattle.lt_losing.proofs.Upcoming.{oldest_draw, next-same, lossy_end_free, next_lossy_free, upcoming_on, upcoming_first}
use Rattle.lt_losing.proofs.Measure.{lossy_room, less, behind, rest, rest-is, drawn-is}

-- what holds of events from a state on, which end at a horizon
record AreSound (s : Shape) (t : Timing) (limit rows horizon : ℕ) (st : LossyState) (es : List LossyEvent) : Type 0 where
  free : HasNoLossyOffence s t limit rows st es
  ends : (lossy_after_all s t rows st es).horizon ≡ Some horizon
  placed : All (IsLossyEventOf s) es

end-horizon : (s : Shape) (t : Timing) (rows : ℕ) (st : LossyState) (at : ℕ) → (lossy_after s t rows st (Plain (End at))).horizon ≡ Some at
unfolding lossy_after
end-horizon s t rows st at = refl

-- what an event that is due comes to: it leads to the next state, at its time, and is one of the shape
record IsStep (s : Shape) (t : Timing) (rows seed horizon : ℕ) (d : LossyDraw) (at : ℕ) (e : LossyEvent) : Type 0 where
  state : (lossy_drawn_on s t rows seed d e).state ≡ lossy_after s t rows d.state e
  latest : (lossy_drawn_on s t rows seed d e).state.latest ≡ Some at
  placed : at ≤ horizon → IsLossyEventOf s e

module _ (s : Shape) (t : Timing) (limit rows rate seed horizon : ℕ) (near : horizon ≤ GREATEST_TIME) where
  module _ (d : LossyDraw) (due : ℕ × ℕ) where
    step-act : (n : ℕ) → n < node_count s → IsStep s t rows seed horizon d due.0 (Plain (Act n due.0))
    unfolding lossy_drawn_on lossy_after
    step-act n lt = record { state = refl; latest = refl; placed = λ le. record { placed = lt; timely = omega (arith, le, near) } }

    step-either : (c : ℕ) (b : Bool) → c < chan_count s → IsStep s t rows seed horizon d due.0 (if b then Lose c due.0 else Plain (Del c due.0))
    unfolding lossy_drawn_on lossy_after
    step-either c true lt = record { state = refl; latest = refl; placed = λ le. record { placed = lt; timely = omega (arith, le, near) } }
    step-either c false lt = record { state = refl; latest = refl; placed = λ le. record { placed = lt; timely = omega (arith, le, near) } }

    step-due : next_due s (oldest_draw d) ≡ Some due → IsStep s t rows seed horizon d due.0 (due_lossy_event s limit rate seed d due)
    step-due is = elim (which s (oldest_draw d) due is) [
      | inl a ↦ subst (λ (e : Event). IsStep s t rows seed horizon d due.0 (lossy_or limit rate seed d e)) (sym a.1.event) (step-act a.0 a.1.within)
      | inr a ↦ subst (λ (e : Event). IsStep s t rows seed horizon d due.0 (lossy_or limit rate seed d e)) (sym a.1.event) (step-either a.0 (loses_next limit rate seed d a.0) a.1.within)
    ]

  -- it is an event of the shape
  pub placed_due : (d : LossyDraw) (due : ℕ × ℕ) → next_lossy_due s d ≡ Some due → due.0 ≤ horizon → IsLossyEventOf s (due_lossy_event s limit rate seed d due)
  placed_due d due is le = (step-due d due (sym (next-same s d) ∙ is)).placed le

  -- the end, where all that is pending is past the horizon
  sound-end : (d : LossyDraw) → IsUpcoming s t d → time_or_0 d.state.latest ≤ horizon → ((place at : ℕ) → place < node_count s + chan_count s → pending_at s (oldest_draw d) place ≡ Some at → horizon < at)
      → AreSound s t limit rows horizon d.state (Plain (End horizon) ∷ [])
  sound-end d h latest past = record {
    free = (lossy_end_free s t d h limit horizon latest past, tt);
    ends = end-horizon s t rows d.state horizon;
    placed = All-cons (IsLossyEventOf s) (Plain (End horizon)) [] (record { placed = tt; timely = near }) (All-nil (IsLossyEventOf s));
  }

  -- an event, and what comes behind it
  sound-more : (st next : LossyState) (e : LossyEvent) (es : List LossyEvent) → next ≡ lossy_after s t rows st e → lossy_offence s t limit st e ≡ None → IsLossyEventOf s e
      → AreSound s t limit rows horizon next es → AreSound s t limit rows horizon st (e ∷ es)
  sound-more st next e es is free placed h =
      let h' = subst (λ (st : LossyState). AreSound s t limit rows horizon st es) is h in
      record { free = (free, h'.free); ends = h'.ends; placed = All-cons (IsLossyEventOf s) e es placed h'.placed }

  module _ (d : LossyDraw) (h : IsUpcoming s t d) (latest : time_or_0 d.state.latest ≤ horizon) where
    nothing : next_due s (oldest_draw d) ≡ None → (place at : ℕ) → place < node_count s + chan_count s → pending_at s (oldest_draw d) place ≡ Some at → horizon < at
    nothing none place at lt pending =
        let first = subst (IsFirst (pending_at s (oldest_draw d)) (node_count s + chan_count s)) none (least_below-first (pending_at s (oldest_draw d)) (node_count s + chan_count s)) in
        let clash : None ≡ Some at = sym (first place lt) ∙ pending in absurd cc

    sound-step : ((next : LossyDraw) → lossy_room s horizon next + 1 ≤ lossy_room s horizon d → IsUpcoming s t next → time_or_0 next.state.latest ≤ horizon → AreSound s t limit rows horizon next.state (rest s t limit rows rate seed horizon next))
        → AreSound s t limit rows horizon d.state (rest s t limit rows rate seed horizon d)
    sound-step again = subst (AreSound s t limit rows horizon d.state) (sym (rest-is s t limit rows rate seed horizon d)) (by (next_lossy_due s d) refl)
      where
        at_due : (due : ℕ × ℕ) → next_lossy_due s d ≡ Some due → (b : Bool) → nat_lt horizon due.0 ≡ b → AreSound s t limit rows horizon d.state (if b then Plain (End horizon) ∷ [] else behind s t limit rows rate seed horizon (rest s t limit rows rate seed horizon) d due)
        at_due due is true past =
            let lt = ltb-true horizon due.0 past in
            let is' : next_due s (oldest_draw d) ≡ Some due = sym (next-same s d) ∙ is in
            sound-end d h latest (λ place at within pending. let first = least s (oldest_draw d) due is' place at within pending in omega (arith, first, lt))
        at_due due is false past =
            let le = ltb-false horizon due.0 past in
            let is' : next_due s (oldest_draw d) ≡ Some due = sym (next-same s d) ∙ is in
            let step = step-due d due is' in
            let next : LossyDraw = lossy_drawn_on s t rows seed d (due_lossy_event s limit rate seed d due) in
            let time : time_or_0 next.state.latest ≡ due.0 = ap time_or_0 step.latest in
            sound-more d.state next.state (due_lossy_event s limit rate seed d due) (rest s t limit rows rate seed horizon next) step.state
            (next_lossy_free s t limit rows rate seed d h due is') (step.placed le)
            (again next (less s t rows seed horizon d limit rate due is le) (upcoming_on s t limit rows rate seed d h due is') (omega (arith, time, le)))

        by : (o : Option (ℕ × ℕ)) → next_lossy_due s d ≡ o → AreSound s t limit rows horizon d.state (unless_lossy_past horizon o (behind s t limit rows rate seed horizon (rest s t limit rows rate seed horizon) d))
        by None is = sound-end d h latest (nothing (sym (next-same s d) ∙ is))
        by (Some due) is = at_due due is (nat_lt horizon due.0) refl

  sound-by : (n : ℕ) (d : LossyDraw) → lossy_room s horizon d ≤ n → IsUpcoming s t d → time_or_0 d.state.latest ≤ horizon → AreSound s t limit rows horizon d.state (rest s t limit rows rate seed horizon d)
  sound-by zero d le h latest = sound-step d h latest (λ next less _ _. absurd (omega (arith, less, le)))
  sound-by (suc n) d le h latest = sound-step d h latest (λ next less upcoming time. sound-by n next (omega (arith, less, le)) upcoming time)

  all_sound : AreSound s t limit rows horizon lossy_start (lossy_drawn s t limit rows rate seed horizon)
  all_sound = subst (AreSound s t limit rows horizon lossy_start) (sym (drawn-is s t limit rows rate seed horizon)) (sound-by (lossy_room s horizon (lossy_beginning s t seed)) (lossy_beginning s t seed) (omega arith) (upcoming_first s t seed) (omega arith))

  -- a list without an offence that ends is admissible
  admissible-from : (st : LossyState) (number : ℕ) (es : List LossyEvent) → HasNoLossyOffence s t limit rows st es → is_some (lossy_after_all s t rows st es).horizon ≡ true → first_lossy_offence_from s t limit rows st number es ≡ None
  admissible-from st number [] free ends = ap (λ (b : Bool). if b then None else Some (number, Common NoEnd)) ends
  admissible-from st number (e ∷ es) free ends =
      ap (λ (o : Option LossyOffence). numbered_lossy_or number o (first_lossy_offence_from s t limit rows (lossy_after s t rows st e) (number + 1) es)) free.0
      ∙ admissible-from (lossy_after s t rows st e) (number + 1) es free.1 ends

  pub lossy_drawn-free : HasNoLossyOffence s t limit rows lossy_start (lossy_drawn s t limit rows rate seed horizon)
  lossy_drawn-free = all_sound.free

  pub lossy_drawn-sound : LossyScheduleIsSound s t limit rows horizon (lossy_drawn s t limit rows rate seed horizon)
  lossy_drawn-sound = record {
    admissible = admissible-from lossy_start 1 (lossy_drawn s t limit rows rate seed horizon) all_sound.free (ap is_some all_sound.ends);
    ends = all_sound.ends;
    placed = all_sound.placed;
  }
