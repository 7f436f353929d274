-- What holds of timings whose bounds are within those of another.
use Rattle.std.specs.Prelude.{◌≡◌, ℕ, List}
use Rattle.lt_arch.specs.declared.event.Event.{Event}
use Rattle.lt_arch.specs.declared.shape.Shape.{Shape}
use Rattle.lt_arch.specs.declared.timing.Timing.{Timing}
use Rattle.lt_arch.specs.Schedule.{IsAdmissible, OnePlace, reached}
use Rattle.lt_narrow.specs.Narrow.{IsNarrowed, HasBoundsWithin}

-- narrower periods are within the wider ones
abbrev pub NarrowsWithin : Type 0
NarrowsWithin = (jitter : ℕ) (t narrow : Timing) → IsNarrowed jitter t narrow → HasBoundsWithin t narrow

-- the same events lead to the same state
abbrev pub ReachesSame : Type 0
ReachesSame = (s : Shape) (t narrow : Timing) (rows : ℕ) (es : List Event) → HasBoundsWithin t narrow → reached s narrow rows es ≡ reached s t rows es

-- a list that is admissible within narrower bounds is so within the wider ones
abbrev pub StaysAdmissible : Type 0
StaysAdmissible = (s : Shape) (t narrow : Timing) (rows : ℕ) (es : List Event) → HasBoundsWithin t narrow → IsAdmissible s narrow rows es → IsAdmissible s t rows es

-- where one place in each channel is enough, it is so within narrower bounds
abbrev pub StaysOnePlace : Type 0
StaysOnePlace = (s : Shape) (t narrow : Timing) (rows : ℕ) → HasBoundsWithin t narrow → OnePlace s t rows → OnePlace s narrow rows
