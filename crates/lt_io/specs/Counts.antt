-- When a count of faults rises.
use Rattle.std.specs.Prelude.{◌≡◌, ◌<◌, ◌-◌, ◌^◌, ℕ, Result, MatchResult}
use Rattle.lt_io.specs.declared.fault.Failed.{Failed}
use Rattle.lt_io.specs.declared.fault.SinkErr.{SinkErr}
use Rattle.lt_io.specs.declared.fault.SinkErr.TheVariants as sink
use Rattle.lt_io.specs.declared.fault.LinkErr.{LinkErr}
use Rattle.lt_io.specs.declared.fault.LinkErr.TheVariants as link
use Rattle.lt_base.specs.declared.memory.Or.{Or}
use Rattle.lt_base.specs.declared.memory.Or.TheVariants.{Fault, Memory}

-- one fault more can be counted
abbrev pub MayFail : (faults : ℕ) → Type 0
MayFail faults = faults < 2 ^ 64 - 1

-- the count rose where the call failed, and else stayed
abbrev pub Counted : {T E : Type 0} → ℕ → ℕ → Result T E → Type 0
Counted before now result = MatchResult result (λ _. now ≡ before) (λ _. before < now)

abbrev pub SinkCountedBy : ℕ → ℕ → SinkErr → Type 0
SinkCountedBy before now sink.Failed = before < now
SinkCountedBy before now sink.Memory = now ≡ before

-- the count rose where the sink failed, and else stayed
abbrev pub SinkCounted : {T : Type 0} → ℕ → ℕ → Result T SinkErr → Type 0
SinkCounted before now result = MatchResult result (λ _. now ≡ before) (SinkCountedBy before now)

abbrev pub LinkCountedBy : ℕ → ℕ → LinkErr → Type 0
LinkCountedBy before now link.Failed = before < now
LinkCountedBy before now link.Memory = now ≡ before

-- the count rose where the link failed, and else stayed
abbrev pub LinkCounted : {T : Type 0} → ℕ → ℕ → Result T LinkErr → Type 0
LinkCounted before now result = MatchResult result (λ _. now ≡ before) (LinkCountedBy before now)

abbrev pub OrCountedBy : ℕ → ℕ → Or Failed → Type 0
OrCountedBy before now (Fault failed) = before < now
OrCountedBy before now Memory = now ≡ before

-- the count rose where the call answers a failed call, and else stayed
abbrev pub OrCounted : {T : Type 0} → ℕ → ℕ → Result T (Or Failed) → Type 0
OrCounted before now result = MatchResult result (λ _. now ≡ before) (OrCountedBy before now)

abbrev pub IsMemory : {E : Type 0} → Or E → Type 0
IsMemory (Fault e) = ⊥
IsMemory Memory = Unit {0}

-- it is refused for want of memory alone
abbrev pub NoFault : {T E : Type 0} → Result T (Or E) → Type 0
NoFault result = MatchResult result (λ _. Unit {0}) IsMemory
