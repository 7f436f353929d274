-- What a loss may break.
use Rattle.std.proofs.Common.{◌≡◌, ℕ, List, [], ◌∷◌, map, Option, Some, None, is_some, Bool, true, false, refl, ◌∙◌, ap, nat_lt, if◌then◌else◌}
use Rattle.lt_arch.specs.declared.event.Event.TheVariants.{Del}
use Rattle.lt_arch.specs.declared.event.Offence.{Offence}
use Rattle.lt_arch.specs.declared.event.Offence.TheVariants.{AfterEnd, Backwards, NodeOverdue, ChannelOverdue, TooEarly}
use Rattle.lt_arch.specs.declared.timing.Timing.{Timing}
use Rattle.lt_arch.specs.declared.shape.Shape.{Shape}
use Rattle.lt_arch.specs.Readers.{node_count, from_of, to_of, dmin_of}
use Rattle.lt_arch.specs.Deadline.{first_due}
use Rattle.lt_arch.specs.Step.{offence_of, offence_or_else, where_true, is_backwards, is_late, overdue_by, overdue_place, too_early}
use Rattle.lt_lossy.specs.State.{Message, LossyState, plain_of}
use Rattle.lt_lossy.specs.Step.{lossy_offence, common_or, at_any_time, too_many_lost}
use Rattle.lt_lossy.specs.Laws.{nothing_sent, loss_offence, IsLossJudged}

-- an offence that a loss has as a delivery has it
abbrev IsKept : Option Offence → Type 0
IsKept o = at_any_time o ≡ o

any_or : (a b : Option Offence) → IsKept a → at_any_time (offence_or_else a b) ≡ offence_or_else a (at_any_time b)
any_or None b h = refl
any_or (Some o) b h = h

kept_where : (b : Bool) (o : Offence) → IsKept (Some o) → IsKept (where_true b o)
kept_where true o h = h
kept_where false o h = refl

kept_place : (node : Bool) (n c : ℕ) → IsKept (Some (if node then NodeOverdue n else ChannelOverdue c))
kept_place true n c = refl
kept_place false n c = refl

kept_if : (late : Bool) (o : Offence) → IsKept (Some o) → IsKept (if late then Some o else None)
kept_if true o h = h
kept_if false o h = refl

kept_overdue : (s : Shape) (c at : ℕ) (first : Option (ℕ × ℕ)) → IsKept (overdue_by s (Del c at) first)
kept_overdue s c at None = refl
kept_overdue s c at (Some due) = kept_if (is_late (Del c at) due.0) (overdue_place s due.1) (kept_place (nat_lt due.1 (node_count s)) due.1 _)

any_early : (early : Bool) (c : ℕ) → at_any_time (if early then Some (TooEarly c) else None) ≡ None
any_early true c = refl
any_early false c = refl

any_own : (c dmin at : ℕ) (xs : List Message) → at_any_time (too_early c dmin at (map (λ (m : Message). m.sent_at) xs)) ≡ nothing_sent c xs
any_own c dmin at [] = refl
any_own c dmin at (m ∷ later) = any_early _ c

module _ (s : Shape) (t : Timing) (st : LossyState) (c at : ℕ) where
  -- of a delivery's offences a loss has all but the last
  pub loss_offence-is : at_any_time (offence_of s t (plain_of st) (Del c at)) ≡ loss_offence s t st c at
  unfolding offence_of
  loss_offence-is =
      let overdue = overdue_by s (Del c at) (first_due s t (plain_of st)) in
      let own = too_early c (dmin_of t (from_of s c) (to_of s c)) at (map (λ (m : Message). m.sent_at) (st.link c).transit) in
      any_or (where_true (is_some st.horizon) AfterEnd) _ (kept_where (is_some st.horizon) AfterEnd refl)
      ∙ ap (offence_or_else (where_true (is_some st.horizon) AfterEnd)) (any_or (where_true (is_backwards at st.latest) Backwards) _ (kept_where (is_backwards at st.latest) Backwards refl)
      ∙ ap (offence_or_else (where_true (is_backwards at st.latest) Backwards)) (any_or overdue own (kept_overdue s c at (first_due s t (plain_of st)))
      ∙ ap (offence_or_else overdue) (any_own c (dmin_of t (from_of s c) (to_of s c)) at (st.link c).transit)))

  pub loss-judged_in_order : (limit : ℕ) → IsLossJudged s t limit st c at
  unfolding lossy_offence
  loss-judged_in_order limit = ap (λ (o : Option Offence). common_or o (too_many_lost limit c (st.link c).losses)) loss_offence-is
