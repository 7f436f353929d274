-- Offences are those of a state of which only the oldest messages are known.
use Rattle.std.proofs.Common.{◌≡◌, ℕ, ◌+◌, ◌-◌, List, [], ◌∷◌, take, Option, Some, is_some, nat_lt, if◌then◌else◌, refl, ap}
use Rattle.lt_arch.specs.declared.event.Event.{Event}
use Rattle.lt_arch.specs.declared.event.Event.TheVariants.{Act, Del, End}
use Rattle.lt_arch.specs.declared.event.Offence.TheVariants.{AfterEnd, Backwards}
use Rattle.lt_arch.specs.declared.timing.Timing.{Timing}
use Rattle.lt_arch.specs.declared.shape.Shape.{Shape}
use Rattle.lt_arch.specs.State.{State}
use Rattle.lt_arch.specs.Readers.{node_count, chan_count, from_of, to_of, dmin_of, dmax_of}
use Rattle.lt_arch.specs.Times.{in_transit}
use Rattle.lt_arch.specs.Deadline.{after_oldest, node_deadline, deadline_of, least_below, first_due}
use Rattle.lt_arch.specs.Step.{too_early, own_offence, offence_of, offence_or_else, where_true, is_backwards, overdue_by, time_of}
use Rattle.lt_audit.specs.Audit.{oldest}
use Rattle.lt_audit.specs.Standing.{oldest_only}

pub first_is : (xs : List ℕ) → take 1 xs ≡ in_transit (oldest xs)
first_is [] = refl
first_is (x ∷ xs) = refl

due_same : (xs : List ℕ) (d : ℕ) → after_oldest (take 1 xs) d ≡ after_oldest xs d
due_same [] d = refl
due_same (x ∷ xs) d = refl

early_same : (c d at : ℕ) (xs : List ℕ) → too_early c d at (take 1 xs) ≡ too_early c d at xs
early_same c d at [] = refl
early_same c d at (x ∷ xs) = refl

module _ (s : Shape) (t : Timing) (st : State) where
  deadlines_same : deadline_of s t (oldest_only st) ≡ deadline_of s t st
  unfolding deadline_of
  deadlines_same = λ i place. if nat_lt place (node_count s) then Some (node_deadline t st place)
      else due_same (st.chan (place - node_count s)).transit (dmax_of t (from_of s (place - node_count s)) (to_of s (place - node_count s))) i

  first_same : first_due s t (oldest_only st) ≡ first_due s t st
  first_same = ap (λ (f : ℕ → Option ℕ). least_below f (node_count s + chan_count s)) deadlines_same

  own_same : (e : Event) → own_offence s t (oldest_only st) e ≡ own_offence s t st e
  own_same (Act n at) = refl
  own_same (Del c at) = early_same c (dmin_of t (from_of s c) (to_of s c)) at (st.chan c).transit
  own_same (End at) = refl

  pub offence_same : (e : Event) → offence_of s t (oldest_only st) e ≡ offence_of s t st e
  unfolding offence_of
  offence_same e = λ i.
      offence_or_else (where_true (is_some st.horizon) AfterEnd)
      (offence_or_else (where_true (is_backwards (time_of e) st.latest) Backwards)
      (offence_or_else (overdue_by s e (first_same i)) (own_same e i)))
