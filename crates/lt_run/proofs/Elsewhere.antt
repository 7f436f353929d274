-- How far the schedule of a refused run was read, as a command says it.
use Rattle.std.proofs.Common.{ℕ, List, Option, sym, subst}
use Rattle.lt_base.specs.declared.memory.Or.{Or}
use Rattle.lt_base.specs.declared.memory.Or.TheVariants.{Fault, Memory}
use Rattle.lt_arch.specs.declared.shape.Shape.{Shape}
use Rattle.lt_load_fit.specs.declared.fault.CommandFault.{CommandFault}
use Rattle.lt_load.specs.Near.{IsNearCommand, IsNearCommandFault}
use Rattle.lt_run.specs.declared.fault.RunFault.{RunFault}
use Rattle.lt_run.specs.declared.fault.RunFault.TheVariants as run
use Rattle.lt_run.specs.Fault.{IsNearRun}
use Rattle.lt_run.specs.Run.{AsCommand, run_command_fault}

near_fault : (s : Shape) (file : Option (List ℕ)) (place : ℕ) (f : RunFault) → IsNearRun file place (Fault f) → IsNearCommandFault file place (run_command_fault s f)
near_fault s file place (run.Row row f) near = near
near_fault s file place (run.Offence event offence) near = near
near_fault s file place (run.Lossy event offence) near = near
near_fault s file place run.Bytes near = near
near_fault s file place run.Read near = tt
near_fault s file place run.Link near = tt

pub near_as_command : (s : Shape) (file : Option (List ℕ)) (place : ℕ) (e : Or RunFault) (g : Or CommandFault) → AsCommand s e g → IsNearRun file place e → IsNearCommand file place g
near_as_command s file place (Fault f) (Fault g) is near = subst (IsNearCommandFault file place) (sym is) (near_fault s file place f near)
near_as_command s file place (Fault f) Memory is near = tt
near_as_command s file place Memory (Fault g) is near = absurd is
near_as_command s file place Memory Memory is near = tt
