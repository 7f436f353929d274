-- What keeps to narrower bounds keeps to the wider ones, also where links lose messages.
use Rattle.std.proofs.Common.{◌≡◌, ℕ, ◌+◌, ◌-◌, ◌<◌, ◌≤◌, inl, inr, List, [], ◌∷◌, Option, Some, None, is_some, Bool, true, false, nat_lt, if◌then◌else◌, refl, sym, ◌∙◌, ap, subst, arith, le-ltb, lt-ltb, ltb-false}
use Rattle.std.proofs.lemmas.Bool.{cases_lt}
use Rattle.lt_arch.specs.declared.event.Event.TheVariants.{Act, Del, End}
use Rattle.lt_arch.specs.declared.event.Offence.{Offence}
use Rattle.lt_arch.specs.declared.event.Offence.TheVariants.{AfterEnd, Backwards}
use Rattle.lt_arch.specs.declared.shape.Shape.{Shape}
use Rattle.lt_arch.specs.declared.timing.Timing.{Timing}
use Rattle.lt_arch.specs.State.{State, NodeState, executed_of}
use Rattle.lt_arch.specs.Readers.{node_count, chan_count, from_of, to_of, tmax_of, dmax_of}
use Rattle.lt_arch.specs.Deeds.{deed_at, phase_after}
use Rattle.lt_arch.specs.Deadline.{after_last, after_oldest, node_deadline, chan_deadline, deadline_of, first_due, IsFirst}
use Rattle.lt_arch.specs.Step.{offence_or_else, where_true, is_backwards, overdue_by, overdue_place, woken, is_execute, updated}
use Rattle.lt_arch.proofs.Winners.{least_below-first}
use Rattle.lt_lossy.specs.declared.event.LossyEvent.{LossyEvent}
use Rattle.lt_lossy.specs.declared.event.LossyEvent.TheVariants.{Plain, Lose}
use Rattle.lt_lossy.specs.declared.event.LossyOffence.{LossyOffence}
use Rattle.lt_lossy.specs.State.{LossyState, lossy_start, plain_of}
use Rattle.lt_lossy.specs.Step.{lossy_offence, lossy_after, link_woken, common_or, too_many_lost}
use Rattle.lt_lossy.specs.Laws.{nothing_sent, loss_offence}
use Rattle.lt_lossy.specs.Schedule.{lossy_after_all, lossy_reached, first_lossy_offence_from, numbered_lossy_or, IsLossyAdmissible}
use Rattle.lt_lossy.proofs.Changes.{none_common, plain_clear}
use Rattle.lt_lossy.proofs.Losses.{loss-judged_in_order}
use Rattle.lt_narrow.specs.Narrow.{HasBoundsWithin}
use Rattle.lt_narrow.proofs.Within.{within_free}

or_none : (a b : Option Offence) → offence_or_else a b ≡ None → (a ≡ None) × (b ≡ None)
or_none None b h = (refl, h)
or_none (Some o) b h = absurd cc

no_number : (number : ℕ) (o : Option LossyOffence) (later : Option (ℕ × LossyOffence)) → numbered_lossy_or number o later ≡ None → (o ≡ None) × (later ≡ None)
no_number number None later h = (refl, h)
no_number number (Some o) later h = absurd cc

-- a deadline that is no later than this
record IsDueBy (deadline : Option ℕ) (by : ℕ) : Type 0 where
  at : ℕ
  is : deadline ≡ Some at
  le : at ≤ by

last_later : (last : Option ℕ) (less gap : ℕ) → less ≤ gap → after_last last less ≤ after_last last gap
last_later None less gap le = le
last_later (Some last) less gap le = omega (arith, le)

oldest_later : (transit : List ℕ) (less delay d : ℕ) → less ≤ delay → after_oldest transit delay ≡ Some d → IsDueBy (after_oldest transit less) d
oldest_later [] less delay d le is = absurd cc
oldest_later (sent ∷ later) less delay d le is = let same : sent + delay ≡ d = cc in record { at = sent + less; is = refl; le = omega (arith, le, same) }

module _ (s : Shape) (t narrow : Timing) (w : HasBoundsWithin t narrow) where
  -- The same events lead to the same state.

  woken_same : (rows : ℕ) (st : State) (n at : ℕ) → woken s narrow rows st n at ≡ woken s t rows st n at
  woken_same rows st n at = λ i. record {
    phase = phase_after (w.send n i) (w.execute n i) (st.node n).phase (deed_at s rows st n);
    executed = if is_execute (deed_at s rows st n) then executed_of st n + 1 else executed_of st n;
    last = Some at;
  }

  after_same : (rows : ℕ) (st : LossyState) (e : LossyEvent) → lossy_after s narrow rows st e ≡ lossy_after s t rows st e
  unfolding lossy_after
  after_same rows st (Plain (Act n at)) =
      let node : woken s narrow rows (plain_of st) n at ≡ woken s t rows (plain_of st) n at = woken_same rows (plain_of st) n at in
      ap (λ (v : NodeState). record { node = updated st.node n v; link = λ c. link_woken s n at v c (st.link c); latest = Some at; horizon = st.horizon }) node
  after_same rows st (Plain (Del c at)) = refl
  after_same rows st (Plain (End at)) = refl
  after_same rows st (Lose c at) = refl

  after_all_same : (rows : ℕ) (st : LossyState) (es : List LossyEvent) → lossy_after_all s narrow rows st es ≡ lossy_after_all s t rows st es
  after_all_same rows st [] = refl
  after_all_same rows st (e ∷ es) = ap (λ (x : LossyState). lossy_after_all s narrow rows x es) (after_same rows st e) ∙ after_all_same rows (lossy_after s t rows st e) es

  pub lossy_reached_same : (rows : ℕ) (es : List LossyEvent) → lossy_reached s narrow rows es ≡ lossy_reached s t rows es
  lossy_reached_same rows es = after_all_same rows lossy_start es

  -- A loss that is in time stays so.

  narrow_due : (st : State) (place d : ℕ) → place < node_count s + chan_count s → deadline_of s t st place ≡ Some d → IsDueBy (deadline_of s narrow st place) d
  unfolding deadline_of
  narrow_due st place d lt is = elim (cases_lt place (node_count s)) [
    | inl node ↦
        let due : Some (node_deadline t st place) ≡ Some d = rw (lt-ltb place (node_count s) node) at is in
        let same : node_deadline t st place ≡ d = cc in
        let less = last_later (st.node place).last (tmax_of narrow place) (tmax_of t place) (w.greatest place) in
        record { at = node_deadline narrow st place; is = rw (lt-ltb place (node_count s) node) refl; le = omega (arith, less, same) }
    | inr past ↦
        let c = place - node_count s in
        let due : chan_deadline s t st c ≡ Some d = rw (le-ltb place (node_count s) past) at is in
        let less = oldest_later (st.chan c).transit (dmax_of narrow (from_of s c) (to_of s c)) (dmax_of t (from_of s c) (to_of s c)) d (w.longest (from_of s c) (to_of s c)) due in
        record { at = less.at; is = rw (le-ltb place (node_count s) past) less.is; le = less.le }
  ]

  module _ (st : State) (c at : ℕ) where
    late_not : (b : Bool) (due : ℕ × ℕ) → nat_lt due.0 at ≡ b → (if b then Some (overdue_place s due.1) else None) ≡ None → at ≤ due.0
    late_not true due is h = absurd cc
    late_not false due is h = ltb-false due.0 at is

    in_time : (best : Option (ℕ × ℕ)) → IsFirst (deadline_of s narrow st) (node_count s + chan_count s) best → overdue_by s (Del c at) best ≡ None → (place d : ℕ) → place < node_count s + chan_count s → deadline_of s narrow st place ≡ Some d → at ≤ d
    in_time None first h place d lt is = let clash : None ≡ Some d = sym (first place lt) ∙ is in absurd cc
    in_time (Some due) first h place d lt is =
        let le = late_not (nat_lt due.0 at) due refl h in
        elim (first.2 place d lt is) [ inl x ↦ omega (arith, le, x) | inr x ↦ omega (arith, le, x.0) ]

    punctual_by : (best : Option (ℕ × ℕ)) → IsFirst (deadline_of s t st) (node_count s + chan_count s) best → overdue_by s (Del c at) (first_due s narrow st) ≡ None → overdue_by s (Del c at) best ≡ None
    punctual_by None first h = refl
    punctual_by (Some due) first h =
        let near = narrow_due st due.1 due.0 first.0 first.1 in
        let early = in_time (first_due s narrow st) (least_below-first (deadline_of s narrow st) (node_count s + chan_count s)) h due.1 near.at first.0 near.is in
        let by = near.le in
        ap (λ (b : Bool). if b then Some (overdue_place s due.1) else None) (le-ltb due.0 at (omega (arith, early, by)))

    punctual : overdue_by s (Del c at) (first_due s narrow st) ≡ None → overdue_by s (Del c at) (first_due s t st) ≡ None
    punctual h = punctual_by (first_due s t st) (least_below-first (deadline_of s t st) (node_count s + chan_count s)) h

  module _ (limit : ℕ) (st : LossyState) where
    loss_within : (c at : ℕ) → loss_offence s narrow st c at ≡ None → loss_offence s t st c at ≡ None
    loss_within c at h =
        let own = nothing_sent c (st.link c).transit in
        let overdue = overdue_by s (Del c at) (first_due s narrow (plain_of st)) in
        let backwards = where_true (is_backwards at st.latest) Backwards in
        let ended = where_true (is_some st.horizon) AfterEnd in
        let first = or_none ended (offence_or_else backwards (offence_or_else overdue own)) h in
        let second = or_none backwards (offence_or_else overdue own) first.1 in
        let third = or_none overdue own second.1 in
        let late = punctual (plain_of st) c at third.0 in
        λ i. offence_or_else (first.0 i) (offence_or_else (second.0 i) (offence_or_else (late i) (third.1 i)))

    lossy_within_free : (e : LossyEvent) → lossy_offence s narrow limit st e ≡ None → lossy_offence s t limit st e ≡ None
    unfolding lossy_offence
    lossy_within_free (Plain e) h = ap (λ (o : Option Offence). common_or o None) (within_free s t narrow (plain_of st) e w (plain_clear s narrow limit st e h))
    lossy_within_free (Lose c at) h =
        let both = none_common (loss_offence s narrow st c at) (too_many_lost limit c (st.link c).losses) (sym (loss-judged_in_order s narrow st c at limit) ∙ h) in
        loss-judged_in_order s t st c at limit ∙ (λ i. common_or (loss_within c at both.0 i) (both.1 i))

  -- Lists of events.

  admissible_from : (limit rows : ℕ) (st : LossyState) (number : ℕ) (es : List LossyEvent) → first_lossy_offence_from s narrow limit rows st number es ≡ None → first_lossy_offence_from s t limit rows st number es ≡ None
  admissible_from limit rows st number [] h = h
  admissible_from limit rows st number (e ∷ es) h =
      let both = no_number number (lossy_offence s narrow limit st e) _ h in
      let later = subst (λ (x : LossyState). first_lossy_offence_from s narrow limit rows x (number + 1) es ≡ None) (after_same rows st e) both.1 in
      ap (λ (o : Option LossyOffence). numbered_lossy_or number o (first_lossy_offence_from s t limit rows (lossy_after s t rows st e) (number + 1) es)) (lossy_within_free limit st e both.0)
      ∙ admissible_from limit rows (lossy_after s t rows st e) (number + 1) es later

  pub lossy_admissible_within : (limit rows : ℕ) (es : List LossyEvent) → IsLossyAdmissible s narrow limit rows es → IsLossyAdmissible s t limit rows es
  lossy_admissible_within limit rows es h = admissible_from limit rows lossy_start 1 es h
