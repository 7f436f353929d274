-- A list with one event more.
use Rattle.std.proofs.Common.{◌≡◌, ℕ, List, [], ◌∷◌, ◌++◌, refl}
use Rattle.lt_arch.specs.declared.event.Event.{Event}
use Rattle.lt_arch.specs.declared.shape.Shape.{Shape}
use Rattle.lt_arch.specs.declared.timing.Timing.{Timing}
use Rattle.lt_arch.specs.State.{State}
use Rattle.lt_arch.specs.Step.{after}
use Rattle.lt_arch.specs.Schedule.{after_all}

pub after_push : (s : Shape) (t : Timing) (rows : ℕ) (st : State) (es : List Event) (e : Event) → after_all s t rows st (es ++ e ∷ []) ≡ after s t rows (after_all s t rows st es) e
after_push s t rows st [] e = refl
after_push s t rows st (d ∷ es) e = after_push s t rows (after s t rows st d) es e
