-- An offence is at a node or a channel of the shape.
use Rattle.std.proofs.Common.{◌≡◌, ℕ, ◌+◌, ◌-◌, ◌<◌, nat_lt, Bool, true, false, List, [], ◌∷◌, Option, Some, None, if◌then◌else◌, refl, subst, arith}
use Rattle.std.proofs.lemmas.Bool.Decides.{nat_tests}
use Rattle.lt_arch.specs.declared.event.Event.{Event}
use Rattle.lt_arch.specs.declared.event.Event.TheVariants.{Act, Del, End}
use Rattle.lt_arch.specs.declared.event.Offence.{Offence}
use Rattle.lt_arch.specs.declared.event.Offence.TheVariants.{AfterEnd, Backwards, NodeOverdue, ChannelOverdue, TooSoon, NothingSent, TooEarly}
use Rattle.lt_arch.specs.declared.shape.Shape.{Shape}
use Rattle.lt_arch.specs.declared.timing.Timing.{Timing}
use Rattle.lt_arch.specs.State.{State}
use Rattle.lt_arch.specs.Readers.{node_count, chan_count, from_of, to_of, tmin_of, dmin_of}
use Rattle.lt_arch.specs.Deadline.{IsFirst, deadline_of, first_due}
use Rattle.lt_arch.specs.Schedule.{IsPlacedIn}
use Rattle.lt_arch.specs.Step.{is_backwards, is_late, offence_of, offence_or_else, overdue_by, overdue_place, own_offence, time_of, too_early, too_soon, where_true}
use Rattle.lt_arch.proofs.Winners.{least_below-first}
use Rattle.lt_course.specs.Placed.{IsPlacedOffence}

same_offence : (a b : Offence) → Some a ≡ Some b → a ≡ b
same_offence a b is = cc

module _ (P : Offence → Type 0) where
  of_else : (a b : Option Offence) (o : Offence) → ((x : Offence) → a ≡ Some x → P x) → ((x : Offence) → b ≡ Some x → P x) → offence_or_else a b ≡ Some o → P o
  of_else None b o first second is = second o is
  of_else (Some x) b o first second is = subst P (same_offence x o is) (first x refl)

  of_where : (test : Bool) (q x : Offence) → P q → where_true test q ≡ Some x → P x
  of_where true q x holds is = subst P (same_offence q x is) holds
  of_where false q x holds is = cc

  of_if : (test : Bool) (q x : Offence) → P q → (if test then Some q else None) ≡ Some x → P x
  of_if true q x holds is = subst P (same_offence q x is) holds
  of_if false q x holds is = cc

module _ (s : Shape) (t : Timing) (st : State) where
  place_by : (place : ℕ) (test : Bool) → nat_lt place (node_count s) ≡ test → place < node_count s + chan_count s → IsPlacedOffence s (if test then NodeOverdue place else ChannelOverdue (place - node_count s))
  place_by place true is low = grind (arith, nat_tests)
  place_by place false is low = grind (arith, nat_tests)

  of_overdue : (e : Event) (first : Option (ℕ × ℕ)) (x : Offence) → IsFirst (deadline_of s t st) (node_count s + chan_count s) first → overdue_by s e first ≡ Some x → IsPlacedOffence s x
  of_overdue e None x is found = cc
  of_overdue e (Some due) x is found =
      of_if (IsPlacedOffence s) (is_late e due.0) (overdue_place s due.1) x (place_by due.1 (nat_lt due.1 (node_count s)) refl is.0) found

  of_soon : (n tmin at : ℕ) (last : Option ℕ) (x : Offence) → n < node_count s → too_soon n tmin at last ≡ Some x → IsPlacedOffence s x
  of_soon n tmin at None x ln found = cc
  of_soon n tmin at (Some last) x ln found = of_if (IsPlacedOffence s) (nat_lt at (last + tmin)) (TooSoon n) x ln found

  of_early : (c dmin at : ℕ) (transit : List ℕ) (x : Offence) → c < chan_count s → too_early c dmin at transit ≡ Some x → IsPlacedOffence s x
  of_early c dmin at [] x lc found = subst (IsPlacedOffence s) (same_offence (NothingSent c) x found) lc
  of_early c dmin at (sent ∷ later) x lc found = of_if (IsPlacedOffence s) (nat_lt at (sent + dmin)) (TooEarly c) x lc found

  of_own : (e : Event) (x : Offence) → IsPlacedIn s e → own_offence s t st e ≡ Some x → IsPlacedOffence s x
  of_own (Act n at) x placed found = of_soon n (tmin_of t n) at (st.node n).last x placed found
  of_own (Del c at) x placed found = of_early c (dmin_of t (from_of s c) (to_of s c)) at (st.chan c).transit x placed found
  of_own (End at) x placed found = cc

  pub offence_placed : (e : Event) (o : Offence) → IsPlacedIn s e → offence_of s t st e ≡ Some o → IsPlacedOffence s o
  unfolding offence_of
  offence_placed e o placed is =
      of_else (IsPlacedOffence s) (where_true _ AfterEnd) _ o (λ x found. of_where (IsPlacedOffence s) _ AfterEnd x tt found)
      (λ y rest. of_else (IsPlacedOffence s) (where_true (is_backwards (time_of e) st.latest) Backwards) _ y (λ x found. of_where (IsPlacedOffence s) _ Backwards x tt found)
      (λ z later. of_else (IsPlacedOffence s) (overdue_by s e (first_due s t st)) (own_offence s t st e) z
      (λ x found. of_overdue e (first_due s t st) x (least_below-first (deadline_of s t st) (node_count s + chan_count s)) found)
      (λ x found. of_own e x placed found) later) rest) is
