-- An admissible list ends with its only end.
use Rattle.std.proofs.Common.{◌≡◌, ℕ, List, [], ◌∷◌, Option, Some, None, is_some, Bool, true, false, not, refl, sym, ◌∙◌, ap, subst}
use Rattle.std.proofs.lemmas.List.Elements.{All-cons, All-nil}
use Rattle.lt_arch.specs.declared.event.Event.TheVariants.{Act, Del, End}
use Rattle.lt_arch.specs.declared.event.Offence.{Offence}
use Rattle.lt_arch.specs.declared.timing.Timing.{Timing}
use Rattle.lt_arch.specs.declared.shape.Shape.{Shape}
use Rattle.lt_arch.specs.Step.{offence_or_else, where_true}
use Rattle.lt_arch.proofs.Facts.{clear}
use Rattle.lt_lossy.specs.declared.event.LossyEvent.{LossyEvent}
use Rattle.lt_lossy.specs.declared.event.LossyEvent.TheVariants.{Plain, Lose}
use Rattle.lt_lossy.specs.State.{LossyState, lossy_start, plain_of}
use Rattle.lt_lossy.specs.Step.{lossy_offence, lossy_after, too_many_lost}
use Rattle.lt_lossy.specs.Schedule.{lossy_after_all, HasNoLossyOffence, IsLossyAdmissible, LossyEndsAt, LossyEndsOnce, IsFirstLossyOffence, is_lossy_end}
use Rattle.lt_lossy.specs.Laws.{loss_offence}
use Rattle.lt_lossy.proofs.Changes.{plain_clear, none_common}
use Rattle.lt_lossy.proofs.Losses.{loss-judged_in_order}
use Rattle.lt_lossy.proofs.Schedules.{first_lossy_offence-is}

none-first : (b : Bool) (o : Offence) (rest : Option Offence) → offence_or_else (where_true b o) rest ≡ None → b ≡ false
none-first true o rest h = absurd cc
none-first false o rest h = refl

-- an event without an offence comes before the end
unended : (s : Shape) (t : Timing) (limit : ℕ) (st : LossyState) (e : LossyEvent) → lossy_offence s t limit st e ≡ None → is_some st.horizon ≡ false
unended s t limit st (Plain e) h = (clear s t (plain_of st) e (plain_clear s t limit st e h)).unended
unended s t limit st (Lose c at) h = none-first (is_some st.horizon) _ _ (none_common (loss_offence s t st c at) (too_many_lost limit c (st.link c).losses) (sym (loss-judged_in_order s t st c at limit) ∙ h)).0

module _ (s : Shape) (t : Timing) (rows : ℕ) (st : LossyState) (at : ℕ) where
  horizon-act : (n : ℕ) → (lossy_after s t rows st (Plain (Act n at))).horizon ≡ st.horizon
  unfolding lossy_after
  horizon-act n = refl

  horizon-del : (c : ℕ) → (lossy_after s t rows st (Plain (Del c at))).horizon ≡ st.horizon
  unfolding lossy_after
  horizon-del c = refl

  horizon-lose : (c : ℕ) → (lossy_after s t rows st (Lose c at)).horizon ≡ st.horizon
  unfolding lossy_after
  horizon-lose c = refl

  horizon-end : (lossy_after s t rows st (Plain (End at))).horizon ≡ Some at
  unfolding lossy_after
  horizon-end = refl

before : (e : LossyEvent) (es : List LossyEvent) (h : ℕ) → is_lossy_end e ≡ false → LossyEndsOnce es h → LossyEndsOnce (e ∷ es) h
before e es h other once = record {
  front = e ∷ once.front;
  list_is = ap (λ l. e ∷ l) once.list_is;
  no_end_before = All-cons (λ x. not (is_lossy_end x) ≡ true) e once.front (rw other refl) once.no_end_before;
}

-- after an end nothing comes
ended : (s : Shape) (t : Timing) (limit rows : ℕ) (st : LossyState) (at h : ℕ) (es : List LossyEvent) → st.horizon ≡ Some at → HasNoLossyOffence s t limit rows st es → (lossy_after_all s t rows st es).horizon ≡ Some h → LossyEndsOnce (Plain (End at) ∷ es) h
ended s t limit rows st at h [] is free end =
    let same : Some at ≡ Some h = sym is ∙ end in
    let same' : at ≡ h = cc in
    record { front = []; list_is = ap (λ x. Plain (End x) ∷ []) same'; no_end_before = All-nil (λ x. not (is_lossy_end x) ≡ true) }
ended s t limit rows st at h (e ∷ es) is free end = let none = unended s t limit st e free.0 in let some : is_some st.horizon ≡ true = rw is refl in absurd cc

once-from : (s : Shape) (t : Timing) (limit rows : ℕ) (st : LossyState) (h : ℕ) (es : List LossyEvent) → st.horizon ≡ None → HasNoLossyOffence s t limit rows st es → (lossy_after_all s t rows st es).horizon ≡ Some h → LossyEndsOnce es h
once-from s t limit rows st h [] is free end = absurd cc
once-from s t limit rows st h (Plain (Act n at) ∷ es) is free end = before (Plain (Act n at)) es h refl (once-from s t limit rows (lossy_after s t rows st (Plain (Act n at))) h es (horizon-act s t rows st at n ∙ is) free.1 end)
once-from s t limit rows st h (Plain (Del c at) ∷ es) is free end = before (Plain (Del c at)) es h refl (once-from s t limit rows (lossy_after s t rows st (Plain (Del c at))) h es (horizon-del s t rows st at c ∙ is) free.1 end)
once-from s t limit rows st h (Lose c at ∷ es) is free end = before (Lose c at) es h refl (once-from s t limit rows (lossy_after s t rows st (Lose c at)) h es (horizon-lose s t rows st at c ∙ is) free.1 end)
once-from s t limit rows st h (Plain (End at) ∷ es) is free end = ended s t limit rows (lossy_after s t rows st (Plain (End at))) at h es (horizon-end s t rows st at) free.1 end

pub admissible-ends : (s : Shape) (t : Timing) (limit rows : ℕ) (es : List LossyEvent) → IsLossyAdmissible s t limit rows es → (h : ℕ) × LossyEndsAt s t rows es h × LossyEndsOnce es h
admissible-ends s t limit rows es ok =
    let found = subst (IsFirstLossyOffence s t limit rows es) ok (first_lossy_offence-is s t limit rows es) in
    (found.1, found.2, once-from s t limit rows lossy_start found.1 es refl found.0 found.2)
