-- An offence is at a node or a channel of the shape.
use Rattle.std.proofs.Common.{◌≡◌, ℕ, ◌==◌, Bool, true, false, Option, Some, None, if◌then◌else◌, refl, subst}
use Rattle.lt_arch.specs.declared.event.Event.TheVariants.{Del}
use Rattle.lt_arch.specs.declared.event.Offence.{Offence}
use Rattle.lt_arch.specs.declared.event.Offence.TheVariants.{AfterEnd, Backwards, NodeOverdue, ChannelOverdue, TooSoon, NothingSent, TooEarly, NoEnd}
use Rattle.lt_arch.specs.declared.shape.Shape.{Shape}
use Rattle.lt_arch.specs.declared.timing.Timing.{Timing}
use Rattle.lt_arch.specs.Step.{offence_of}
use Rattle.lt_lossy.specs.declared.event.LossyEvent.{LossyEvent}
use Rattle.lt_lossy.specs.declared.event.LossyEvent.TheVariants.{Plain, Lose}
use Rattle.lt_lossy.specs.declared.event.LossyOffence.{LossyOffence}
use Rattle.lt_lossy.specs.declared.event.LossyOffence.TheVariants.{Common, TooManyLost}
use Rattle.lt_lossy.specs.Events.{IsLossyPlacedIn}
use Rattle.lt_lossy.specs.State.{LossyState, plain_of}
use Rattle.lt_lossy.specs.Step.{at_any_time, common_or, lossy_offence, too_many_lost}
use Rattle.lt_course.proofs.Placing.{offence_placed}
use Rattle.lt_lossy_course.specs.LossyLasts.{IsLossyPlacedOffence}

same_lossy : (a b : LossyOffence) → Some a ≡ Some b → a ≡ b
same_lossy a b is = cc

module _ (P : LossyOffence → Type 0) where
  of_common : (a : Option Offence) (b : Option LossyOffence) (o : LossyOffence) → ((x : Offence) → a ≡ Some x → P (Common x)) → ((x : LossyOffence) → b ≡ Some x → P x) → common_or a b ≡ Some o → P o
  of_common None b o first second is = second o is
  of_common (Some x) b o first second is = subst P (same_lossy (Common x) o is) (first x refl)

  of_lost : (test : Bool) (q x : LossyOffence) → P q → (if test then Some q else None) ≡ Some x → P x
  of_lost true q x holds is = subst P (same_lossy q x is) holds
  of_lost false q x holds is = cc

-- what a delivery would break
any_time : (o : Option Offence) (x : Offence) → at_any_time o ≡ Some x → o ≡ Some x
any_time None x is = cc
any_time (Some (TooEarly c)) x is = cc
any_time (Some AfterEnd) x is = is
any_time (Some Backwards) x is = is
any_time (Some (NodeOverdue n)) x is = is
any_time (Some (ChannelOverdue c)) x is = is
any_time (Some (TooSoon n)) x is = is
any_time (Some (NothingSent c)) x is = is
any_time (Some NoEnd) x is = is

pub lossy_placed : (s : Shape) (t : Timing) (limit : ℕ) (st : LossyState) (e : LossyEvent) (o : LossyOffence) → IsLossyPlacedIn s e → lossy_offence s t limit st e ≡ Some o → IsLossyPlacedOffence s o
unfolding lossy_offence
lossy_placed s t limit st (Plain e) o placed is =
    of_common (IsLossyPlacedOffence s) (offence_of s t (plain_of st) e) None o (λ x found. offence_placed s t (plain_of st) e x placed found) (λ x none. cc) is
lossy_placed s t limit st (Lose c at) o placed is =
    of_common (IsLossyPlacedOffence s) (at_any_time (offence_of s t (plain_of st) (Del c at))) (too_many_lost limit c (st.link c).losses) o
    (λ x found. offence_placed s t (plain_of st) (Del c at) x placed (any_time (offence_of s t (plain_of st) (Del c at)) x found))
    (λ x found. of_lost (IsLossyPlacedOffence s) ((st.link c).losses == limit) (TooManyLost c) x placed found) is
