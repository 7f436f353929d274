-- What a line of a schedule leaves of a net, and what a whole schedule comes to.
use Rattle.std.specs.Prelude.{◌≡◌, Option, Some, None, Result, Ok, Err}
use Rattle.lt_base.specs.declared.memory.Or.{Or}
use Rattle.lt_base.specs.declared.memory.Or.TheVariants as either
use Rattle.lt_schedule.specs.declared.halt.Halt.{Halt}
use Rattle.lt_schedule.specs.declared.halt.Stop.{Stop}
use Rattle.lt_schedule.specs.declared.halt.Stop.TheVariants as stop
use Rattle.lt_net.specs.declared.fault.First.{First}
use Rattle.lt_net.specs.declared.fault.First.TheVariants as first
use Rattle.lt_net.specs.declared.replayed.Replayed.{Replayed}

-- a line that is taken leaves a net that runs; one that is refused leaves it as it was; a failed call or want of memory has stopped it. By
-- what it is stopped then, if it is, is `stopped`
abbrev pub LeavesNet : {N O : Type 0} → (old new : N) → (stopped : Option First) → Result (Unit {0}) (Stop O) → Type 0
LeavesNet old new stopped (Ok x) = stopped ≡ None
LeavesNet old new stopped (Err (stop.Row fault)) = new ≡ old
LeavesNet old new stopped (Err (stop.Offence offence)) = new ≡ old
LeavesNet old new stopped (Err stop.Link) = stopped ≡ Some first.Link
LeavesNet old new stopped (Err stop.Memory) = stopped ≡ Some first.Memory

-- after an answer to a whole schedule: what is taken from the net, or want of memory; else the fault of the answer
abbrev pub FinishesBy : {M O : Type 0} → (is_taken : Replayed M → Type 0) → Result (Unit {0}) (Or (Halt O)) → Result (Replayed M) (Or (Halt O)) → Type 0
FinishesBy is_taken (Ok x) (Ok taken) = is_taken taken
FinishesBy is_taken (Ok x) (Err fault) = fault ≡ either.Memory
FinishesBy is_taken (Err e) result = result ≡ Err e
