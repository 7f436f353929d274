-- Lists of events over links that lose messages.
use Rattle.std.specs.Prelude.{◌≡◌, ◌⊎◌, ℕ, ◌+◌, List, [], ◌∷◌, ◌++◌, length, Option, Some, None, is_some, Bool, false, not, if◌then◌else◌}
use Rattle.std.specs.List.{AllPass}
use Rattle.lt_arch.specs.declared.event.Event.TheVariants.{End}
use Rattle.lt_arch.specs.declared.event.Offence.TheVariants.{NoEnd}
use Rattle.lt_arch.specs.declared.timing.Timing.{Timing}
use Rattle.lt_arch.specs.declared.shape.Shape.{Shape}
use Rattle.lt_arch.specs.Schedule.{is_end}
use Rattle.lt_lossy.specs.declared.event.LossyEvent.{LossyEvent}
use Rattle.lt_lossy.specs.declared.event.LossyEvent.TheVariants.{Plain, Lose}
use Rattle.lt_lossy.specs.declared.event.LossyOffence.{LossyOffence}
use Rattle.lt_lossy.specs.declared.event.LossyOffence.TheVariants.{Common}
use Rattle.lt_lossy.specs.State.{LossyState, lossy_start}
use Rattle.lt_lossy.specs.Step.{lossy_offence, lossy_after}

-- the state that these events lead to
abbrev pub lossy_after_all : Shape → Timing → (rows : ℕ) → LossyState → List LossyEvent → LossyState
lossy_after_all s t rows st [] = st
lossy_after_all s t rows st (e ∷ es) = lossy_after_all s t rows (lossy_after s t rows st e) es

-- none of these events has an offence
abbrev pub HasNoLossyOffence : Shape → Timing → (limit rows : ℕ) → LossyState → List LossyEvent → Type 0
HasNoLossyOffence s t limit rows st [] = Unit {0}
HasNoLossyOffence s t limit rows st (e ∷ es) = (lossy_offence s t limit st e ≡ None) × HasNoLossyOffence s t limit rows (lossy_after s t rows st e) es

-- where a list stops and no end was taken
abbrev pub missing_lossy_end : LossyState → (number : ℕ) → Option (ℕ × LossyOffence)
missing_lossy_end st number = if is_some st.horizon then None else Some (number, Common NoEnd)

-- the offence of an event with its number, or else what comes later
abbrev pub numbered_lossy_or : (number : ℕ) → Option LossyOffence → (later : Option (ℕ × LossyOffence)) → Option (ℕ × LossyOffence)
numbered_lossy_or number None later = later
numbered_lossy_or number (Some o) later = Some (number, o)

-- the first event with an offence, where the first event of the list has the given number
abbrev pub first_lossy_offence_from : Shape → Timing → (limit rows : ℕ) → LossyState → (number : ℕ) → List LossyEvent → Option (ℕ × LossyOffence)
first_lossy_offence_from s t limit rows st number [] = missing_lossy_end st number
first_lossy_offence_from s t limit rows st number (e ∷ es) =
    numbered_lossy_or number (lossy_offence s t limit st e) (first_lossy_offence_from s t limit rows (lossy_after s t rows st e) (number + 1) es)

-- from the start, counted from 1
abbrev pub first_lossy_offence : Shape → Timing → (limit rows : ℕ) → List LossyEvent → Option (ℕ × LossyOffence)
first_lossy_offence s t limit rows es = first_lossy_offence_from s t limit rows lossy_start 1 es

abbrev pub IsLossyAdmissible : Shape → Timing → (limit rows : ℕ) → List LossyEvent → Type 0
IsLossyAdmissible s t limit rows es = first_lossy_offence s t limit rows es ≡ None

-- the state after these events from the start
abbrev pub lossy_reached : Shape → Timing → (rows : ℕ) → List LossyEvent → LossyState
lossy_reached s t rows es = lossy_after_all s t rows lossy_start es

-- they end with an end at this horizon
abbrev pub LossyEndsAt : Shape → Timing → (rows : ℕ) → List LossyEvent → (horizon : ℕ) → Type 0
LossyEndsAt s t rows es horizon = (lossy_reached s t rows es).horizon ≡ Some horizon

-- these events from the start are so far without an offence
abbrev pub IsLossyOffenceFree : Shape → Timing → (limit rows : ℕ) → List LossyEvent → Type 0
IsLossyOffenceFree s t limit rows es = HasNoLossyOffence s t limit rows lossy_start es

-- What the first offence tells.

-- it is that of an event, and no event before has one
pub record IsLossyOffenceAt (s : Shape) (t : Timing) (limit rows : ℕ) (es : List LossyEvent) (found : ℕ × LossyOffence) : Type 0 where
  pub front : List LossyEvent
  pub event : LossyEvent
  pub later : List LossyEvent
  pub list_is : es ≡ front ++ event ∷ later
  pub number_is : found.0 ≡ length front + 1
  pub free : IsLossyOffenceFree s t limit rows front
  pub offence_is : lossy_offence s t limit (lossy_reached s t rows front) event ≡ Some found.1

-- or no event has one, and no end was taken
pub record LacksLossyEnd (s : Shape) (t : Timing) (limit rows : ℕ) (es : List LossyEvent) (found : ℕ × LossyOffence) : Type 0 where
  pub free : IsLossyOffenceFree s t limit rows es
  pub open_end : (lossy_reached s t rows es).horizon ≡ None
  pub number_is : found.0 ≡ length es + 1
  pub offence_is : found.1 ≡ Common NoEnd

abbrev pub IsFirstLossyOffence : Shape → Timing → (limit rows : ℕ) → List LossyEvent → Option (ℕ × LossyOffence) → Type 0
IsFirstLossyOffence s t limit rows es None = IsLossyOffenceFree s t limit rows es × (h : ℕ) × LossyEndsAt s t rows es h
IsFirstLossyOffence s t limit rows es (Some found) = IsLossyOffenceAt s t limit rows es found ⊎ LacksLossyEnd s t limit rows es found

abbrev pub is_lossy_end : LossyEvent → Bool
is_lossy_end (Plain e) = is_end e
is_lossy_end (Lose c at) = false

-- a list that ends with its only end
pub record LossyEndsOnce (es : List LossyEvent) (h : ℕ) : Type 0 where
  pub front : List LossyEvent
  pub list_is : es ≡ front ++ Plain (End h) ∷ []
  pub no_end_before : AllPass (λ e. not (is_lossy_end e)) front

-- a list that ends, with its only end
abbrev pub HasOnlyLossyEnd : Shape → Timing → (rows : ℕ) → List LossyEvent → Type 0
HasOnlyLossyEnd s t rows es = (h : ℕ) × LossyEndsAt s t rows es h × LossyEndsOnce es h
