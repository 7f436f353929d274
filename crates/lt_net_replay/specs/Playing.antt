-- A net beside its inputs, as it takes the lines of a schedule.
use Rattle.std.specs.Prelude.{◌≡◌, ℕ, List, [], ◌∷◌, ◌++◌, Some, None, Result, MatchResult}
use Rattle.lt_base.specs.declared.memory.Or.{Or}
use Rattle.lt_arch.specs.declared.event.Event.{Event}
use Rattle.lt_arch.specs.declared.event.Offence.{Offence}
use Rattle.lt_io.specs.FilesState.{FilesState}
use Rattle.lt_io.specs.FabricState.{FabricState}
use Rattle.lt_schedule.specs.declared.halt.Stop.{Stop}
use Rattle.lt_schedule.specs.declared.halt.Stop.TheVariants as stop
use Rattle.lt_schedule.specs.Rules.{Rules}
use Rattle.lt_schedule.specs.Taken.{JudgesLine}
use Rattle.lt_schedule.specs.Verdict.{rules_of}
use Rattle.lt_schedule.specs.declared.halt.Halt.{Halt}
use Rattle.lt_net_replay.specs.declared.playback.Playback.{Playback}
use Rattle.lt_net_replay.specs.Plays.{IsPlaying, KeepsPlay}
use Rattle.lt_net_replay.specs.Played.{HasPlayed}
use Rattle.lt_machine.specs.declared.machine.Machine.{Ghosts as Machines}
use Rattle.lt_arch.specs.declared.controller.Controller.{Ghosts as Controls}

-- the rules by which it judges lines
abbrev pub rules_for : {C M : Type 0} → Playback C M → Rules Event Offence
rules_for p = rules_of p.net.bench.shape p.net.bench.timing p.net.bench.rows

-- with its fabric, and after so many steps, it stands for these events
abbrev pub PlaysFor : {C M : Type 0} (ctl : Controls C) (mch : Machines M) → Playback C M → (steps : ℕ) → FabricState → List Event → Type 0
PlaysFor ctl mch p steps fabric before = IsPlaying ctl mch p.inputs.now p.width p.row.items before steps p.net fabric

-- an event is stopped at for the offence that it has behind these others, and for nothing that is read; a failed call and want of memory say nothing
-- of it
abbrev pub StopsAtEvent : {E O : Type 0} → Rules E O → (before : List E) → E → Stop O → Type 0
StopsAtEvent rules before e (stop.Row fault) = ⊥
StopsAtEvent rules before e (stop.Offence offence) = rules.offence before e ≡ Some offence
StopsAtEvent rules before e stop.Link = Unit {0}
StopsAtEvent rules before e stop.Memory = Unit {0}

-- the verdict on an event behind these others: it has no offence, and what is kept stands for it besides, or it is stopped at
abbrev pub JudgesPlayed : {E O : Type 0} → Rules E O → (stands : List E → Type 0) → (before : List E) → E → Result (Unit {0}) (Stop O) → Type 0
JudgesPlayed rules stands before e result = MatchResult result (λ _. (rules.offence before e ≡ None) × stands (before ++ e ∷ [])) (StopsAtEvent rules before e)

-- behind all events for which it stands, the event is judged by its rules
abbrev pub PlaysEvent : {C M : Type 0} (ctl : Controls C) (mch : Machines M) → (old new : Playback C M) → Event → (steps steps' : ℕ) → (fabric fabric' : FabricState) → Result (Unit {0}) (Stop Offence) → Type 0
PlaysEvent ctl mch old new e steps steps' fabric fabric' result =
    (before : List Event) → PlaysFor ctl mch old steps fabric before → JudgesPlayed (rules_for old) (PlaysFor ctl mch new steps' fabric') before e result

-- behind all events for which it stands, the line is judged by its rules; where it is taken, it stands for the line's event besides
abbrev pub PlaysLine : {C M : Type 0} (ctl : Controls C) (mch : Machines M) → (old new : Playback C M) → (line : List ℕ) → (steps steps' : ℕ) → (fabric fabric' : FabricState) → Result (Unit {0}) (Stop Offence) → Type 0
PlaysLine ctl mch old new line steps steps' fabric fabric' result =
    (before : List Event) → PlaysFor ctl mch old steps fabric before → JudgesLine (rules_for old) line (PlaysFor ctl mch new steps' fabric') before result

-- no line changes its layout, shape, timing and inputs
abbrev pub KeepsPlayback : {C M : Type 0} → (size : M → ℕ) → (old new : Playback C M) → (fabric fabric' : FabricState) → Type 0
KeepsPlayback size old new fabric fabric' = KeepsPlay size old.net new.net old.inputs.now.rows new.inputs.now.rows fabric fabric'

-- it took the file of this name to its end, or a fault stands against the file
abbrev pub HasTakenFile : {C M : Type 0} (ctl : Controls C) (mch : Machines M) → (old new : Playback C M) → (name : List ℕ) →
    (files files' : FilesState) → (fabric fabric' : FabricState) → Result (Unit {0}) (Or (Halt Offence)) → Type 0
HasTakenFile ctl mch old new name files files' fabric fabric' result =
    HasPlayed ctl mch old.net new.net old.inputs.now.rows new.inputs.now.rows name files files' fabric fabric' result
