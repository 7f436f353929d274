-- What a step answers against its verdict: a fact of the value that it gives, or of the fault by which it refuses.
use Rattle.std.specs.Prelude.{◌≡◌, ◌<◌, ◌⊎◌, ℕ, IsTrue, List, Option, Some, None, Result, Ok, Err, MatchResult, is_ok}
use Rattle.lt_base.specs.declared.memory.Or.{Or}
use Rattle.lt_base.specs.declared.memory.Or.TheVariants.{Fault, Memory}
use Rattle.lt_io.specs.Visits.{Errand, Visited}
use Rattle.lt_answer.specs.World.{World, KeepsWorld, IsCalm, Blame, Reading, Blames}

-- which outcomes are right
abbrev pub Verdict : Type 0 → Type 0 → Type 1
Verdict T E = Result T E → Type 0

-- the refusal is right; want of memory always may be
abbrev pub Refuses : {T E : Type 0} → Verdict T E → Or E → Type 0
Refuses V (Fault e) = V (Err e)
Refuses V Memory = Unit {0}

-- the answer is right; want of memory always may be
abbrev pub Settles : {T E : Type 0} → Verdict T E → Result T (Or E) → Type 0
Settles V result = MatchResult result (λ x. V (Ok x)) (Refuses V)

-- a refusal's counts
abbrev pub OrBlames : {E : Type 0} → (E → Blame) → World → World → Or E → Type 0
OrBlames blame old new (Fault e) = Blames old new (blame e)
OrBlames blame old new Memory = IsCalm old new

-- some fault of the files is right
abbrev pub RefusesReading : {T E : Type 0} → (E → Blame) → Verdict T E → Type 0
RefusesReading blame V = (e : _) × (blame e ≡ Reading) × V (Err e)

-- what a step answers, with the files that it was to visit
pub record Answered {T E : Type 0} (blame : E → Blame) (errands : List Errand) (V : Verdict T E) (old new : World) (result : Result T (Or E)) : Type 0 where
  pub keeps : KeepsWorld old new
  -- it visited these files in their order, each once and within its budget, and no others; where it was refused, maybe not all of them
  pub visits : Visited errands old.files.visits new.files.visits (is_ok result)
  -- a count rose where the refusal blames its object, and else all stayed
  pub cause : MatchResult result (λ _. IsCalm old new) (OrBlames blame old new)
  -- where the files tell their bytes and no count rose, the answer is right
  pub exact : IsTrue old.files.told → IsCalm old new → Settles V result
  -- over sound files the count rises where it is right to blame them
  pub sound : IsTrue old.files.told → IsTrue old.files.sound → old.files.faults < new.files.faults → RefusesReading blame V

-- the first of two steps refuses
abbrev pub RefusesFirst : {T U E : Type 0} → Verdict T E → Result U E → Type 0
RefusesFirst V (Ok u) = ⊥
RefusesFirst V (Err e) = V (Err e)

-- two steps: the first refusal, or the second step's outcome on the first one's value
abbrev pub AndThen : {T U E : Type 0} → Verdict T E → (T → Verdict U E) → Verdict U E
AndThen V next outcome = RefusesFirst V outcome ⊎ ((x : _) × V (Ok x) × next x outcome)

-- a value of this form, or a refusal where there is none
abbrev pub OfForm : {T E : Type 0} → (T → Type 0) → E → Verdict T E
OfForm Form refusal (Ok x) = Form x
OfForm Form refusal (Err e) = (e ≡ refusal) × ((x : _) → Form x → ⊥)

-- what is right of a file's bytes, or that it is missing
abbrev pub OfFile : {T E : Type 0} → E → Option (List ℕ) → (List ℕ → Verdict T E) → Verdict T E
OfFile missing None V outcome = outcome ≡ Err missing
OfFile missing (Some bytes) V outcome = V bytes outcome
