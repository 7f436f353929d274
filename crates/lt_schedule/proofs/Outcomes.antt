-- Where a refused file was read to.
use Rattle.std.proofs.Common.{ℕ, List, Option, sym, subst}
use Rattle.lt_base.specs.declared.memory.Or.TheVariants.{Fault}
use Rattle.lt_arch.specs.declared.event.Offence as arch
use Rattle.lt_rows.specs.Rows.{FileRow, rows_of}
use Rattle.lt_schedule.specs.declared.halt.ScheduleRefusal.{ScheduleRefusal}
use Rattle.lt_schedule.specs.declared.halt.ScheduleRefusal.TheVariants as refusal
use Rattle.lt_schedule.specs.Rules.{Rules}
use Rattle.lt_schedule.specs.Verdict.{schedule_fault_of}
use Rattle.lt_schedule.specs.Near.{IsNearIn, IsNearScheduleFault, IsNearFile}
use Rattle.lt_schedule.specs.Replayed.{RefusesFile}

near_fault : (rows : List FileRow) (place : ℕ) (refused : ScheduleRefusal arch.Offence) → IsNearIn rows place refused → IsNearScheduleFault rows place (schedule_fault_of refused)
near_fault rows place (refusal.Row row fault) near = near
near_fault rows place (refusal.Offence event offence) near = near
near_fault rows place refusal.Bytes near = near

pub near_file : {E : Type 0} {rules : Rules E arch.Offence} (file : Option (List ℕ)) (place : ℕ) (refused : ScheduleRefusal arch.Offence) → RefusesFile rules file place refused → IsNearFile file place (Fault (schedule_fault_of refused))
near_file file place refused refuses =
    subst (λ (f : Option (List ℕ)). IsNearFile f place (Fault (schedule_fault_of refused))) (sym refuses.file_is) (near_fault (rows_of refuses.bytes) place refused refuses.near)
