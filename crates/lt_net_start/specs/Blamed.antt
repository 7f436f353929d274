-- Whose fault it is that a schedule is not played to its end, and what is right of one that is.
use Rattle.std.specs.Prelude.{◌≡◌, ℕ, List, Option, IfSome, Result, Ok, Err}
use Rattle.lt_base.specs.declared.memory.Or.{Or}
use Rattle.lt_base.specs.declared.memory.Or.TheVariants as either
use Rattle.lt_io.specs.declared.fault.LinkErr.{LinkErr}
use Rattle.lt_io.specs.declared.fault.LinkErr.TheVariants as link
use Rattle.lt_rows.specs.Rows.{rows_of}
use Rattle.lt_answer.specs.World.{Blame, Content, Reading, Linking}
use Rattle.lt_answer.specs.Answered.{Verdict}
use Rattle.lt_schedule.specs.declared.halt.ScheduleRefusal.{ScheduleRefusal}
use Rattle.lt_schedule.specs.declared.halt.Halt.{Halt}
use Rattle.lt_schedule.specs.declared.halt.Halt.TheVariants.{Refused, Read, Link}
use Rattle.lt_schedule.specs.Near.{IsNearIn}

-- that of the schedule, of a call on the files, or of a call on the fabric
abbrev pub play_blame : {O : Type 0} → Halt O → Blame
play_blame (Refused refusal) = Content
play_blame Read = Reading
play_blame Link = Linking

-- a fabric's fault as one of the replay
abbrev pub link_fault : {O : Type 0} → LinkErr → Or (Halt O)
link_fault link.Failed = either.Fault Link
link_fault link.Memory = either.Memory

-- a refused file was read to at most a piece past the row that is refused
abbrev pub IsNearPlay : {O : Type 0} → Option (List ℕ) → (place : ℕ) → Or (Halt O) → Type 0
IsNearPlay file place (either.Fault (Refused refusal)) = IfSome file (λ bytes. IsNearIn (rows_of bytes) place refusal)
IsNearPlay file place (either.Fault Read) = Unit {0}
IsNearPlay file place (either.Fault Link) = Unit {0}
IsNearPlay file place either.Memory = Unit {0}

-- what is right of a schedule that reads as these events, or is refused: what they come to, or that refusal
abbrev pub ReplayEndsWith : {E O T : Type 0} → (end : List E → T → Type 0) → Result (List E) (ScheduleRefusal O) → Verdict T (Halt O)
ReplayEndsWith end (Ok events) (Ok x) = end events x
ReplayEndsWith end (Ok events) (Err fault) = ⊥
ReplayEndsWith end (Err refusal) outcome = outcome ≡ Err (Refused refusal)
