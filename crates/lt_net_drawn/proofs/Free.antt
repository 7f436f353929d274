-- The events of a list without an offence, one by one.
use Rattle.std.proofs.Common.{◌≡◌, ◌∙◌, ℕ, List, [], ◌∷◌, ◌++◌, None, subst}
use Rattle.lt_arch.specs.declared.event.Event.{Event}
use Rattle.lt_arch.specs.declared.shape.Shape.{Shape}
use Rattle.lt_arch.specs.declared.timing.Timing.{Timing}
use Rattle.lt_arch.specs.State.{State, start}
use Rattle.lt_arch.specs.Step.{after, offence_of}
use Rattle.lt_arch.specs.Schedule.{HasNoOffence, IsAdmissible, after_all, reached}
use Rattle.lt_arch.proofs.Schedules.{offence_free}
use Rattle.lt_net.specs.Net.{TimedBenchState}
use Rattle.lt_net_drawn.specs.Listed.{IsNetOf, IsFree}

module _ (s : Shape) (t : Timing) (rows : ℕ) where
  behind : (st : State) (front : List Event) (e : Event) (later : List Event) → HasNoOffence s t rows st (front ++ e ∷ later) → offence_of s t (after_all s t rows st front) e ≡ None
  behind st [] e later free = free.0
  behind st (d ∷ front) e later free = behind (after s t rows st d) front e later free.1

  -- an event of an admissible list has no offence behind those before it
  pub next_free : {C M : Type 0} (net : TimedBenchState C M) → IsNetOf s t rows net → (es front : List Event) (e : Event) (later : List Event) → IsAdmissible s t rows es → es ≡ front ++ e ∷ later → IsFree net front e
  next_free net same es front e later ok is =
      (λ i. offence_of (same.shape i) (same.timing i) (reached (same.shape i) (same.timing i) (same.rows i) front) e)
      ∙ behind (start t.protocol) front e later (subst (HasNoOffence s t rows (start t.protocol)) is (offence_free s t rows es ok))
