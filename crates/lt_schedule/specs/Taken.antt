-- One line of a schedule that is taken, or not.
use Rattle.std.specs.Prelude.{◌≡◌, ◌<◌, ℕ, List, [], ◌∷◌, ◌++◌, Some, None, Result, Ok, Err, MatchResult}
use Rattle.lt_schedule.specs.declared.halt.Stop.{Stop}
use Rattle.lt_schedule.specs.declared.halt.Stop.TheVariants.{Row, Offence, Link, Memory}
use Rattle.lt_schedule.specs.Rules.{Rules}

-- the line reads as an event that has no offence behind these, and what is kept stands for the events with this one
pub record ScheduleTakesLine {E O : Type 0} (rules : Rules E O) (line : List ℕ) (stands : List E → Type 0) (before : List E) : Type 0 where
  pub event : E
  pub reads : rules.reads line ≡ Ok event
  pub free : rules.offence before event ≡ None
  pub stands_on : stands (before ++ event ∷ [])

-- the line reads as no event, or as one that has an offence behind these; a failed call and want of memory say nothing of it
abbrev pub StopsAt : {E O : Type 0} → Rules E O → (line : List ℕ) → (before : List E) → Stop O → Type 0
StopsAt rules line before (Row fault) = rules.reads line ≡ Err fault
StopsAt rules line before (Offence offence) = (e : _) × (rules.reads line ≡ Ok e) × (rules.offence before e ≡ Some offence)
StopsAt rules line before Link = Unit {0}
StopsAt rules line before Memory = Unit {0}

-- the verdict on the line behind these events: it is taken, or the replica stops at it
abbrev pub JudgesLine : {E O : Type 0} → Rules E O → (line : List ℕ) → (stands : List E → Type 0) → (before : List E) → Result (Unit {0}) (Stop O) → Type 0
JudgesLine rules line stands before result = MatchResult result (λ _. ScheduleTakesLine rules line stands before) (StopsAt rules line before)

abbrev pub StopCountedBy : {O : Type 0} → ℕ → ℕ → Stop O → Type 0
StopCountedBy before now (Row fault) = now ≡ before
StopCountedBy before now (Offence offence) = now ≡ before
StopCountedBy before now Link = before < now
StopCountedBy before now Memory = now ≡ before

-- the outside's count rose where a call on it failed, and else stayed
abbrev pub StopCounted : {T O : Type 0} → ℕ → ℕ → Result T (Stop O) → Type 0
StopCounted before now result = MatchResult result (λ _. now ≡ before) (StopCountedBy before now)

abbrev pub IsStopMemory : {O : Type 0} → Stop O → Type 0
IsStopMemory (Row fault) = ⊥
IsStopMemory (Offence offence) = ⊥
IsStopMemory Link = ⊥
IsStopMemory Memory = Unit {0}

-- no memory was found
abbrev pub IsMemoryStop : {T O : Type 0} → Result T (Stop O) → Type 0
IsMemoryStop (Ok x) = ⊥
IsMemoryStop (Err stop) = IsStopMemory stop
