-- What is told of an auditor.
use Rattle.std.specs.Prelude.{◌≡◌, ◌<◌, ◌≤◌, ℕ, List, Result, MatchResult}
use Rattle.lt_arch.specs.declared.event.Event.{Event}
use Rattle.lt_arch.specs.declared.shape.Shape.{Shape}
use Rattle.lt_arch.specs.declared.timing.Timing.{Timing}
use Rattle.lt_base.specs.declared.memory.Or.{Or}
use Rattle.lt_base.specs.declared.memory.Or.TheVariants.{Fault, Memory}
use Rattle.lt_rows.specs.declared.fault.RowFault.TheVariants as row
use Rattle.lt_load_fit.specs.declared.fault.CommandFault.{CommandFault}
use Rattle.lt_load_fit.specs.declared.fault.CommandFault.TheVariants as fault
use Rattle.lt_audit.specs.Audit.{AuditState}
use Rattle.lt_audit.specs.Misses.{FirstMiss}
use Rattle.lt_audit.specs.Standing.{AuditStands}
use Rattle.lt_inspect.specs.declared.audited.Audited.{Audited}

-- its count of events, its shape and its first miss
pub record AuditTells (a : AuditState) (told : Audited) : Type 0 where
  pub few : a.taken ≤ 5000000
  pub count : told.events ≡ a.taken
  pub shape : told.shape ≡ a.shape
  pub first : (s : Shape) (t : Timing) (rows : ℕ) (es : List Event) → AuditStands a s t rows es → FirstMiss s t rows es told.miss

-- only files that do not tell their bytes could give more events than a schedule may have; the refusal is that of the first row past the limit
abbrev pub TooMany : AuditState → Or CommandFault → Type 0
TooMany a (Fault e) = (5000000 < a.taken) × (e ≡ fault.Row 5000001 row.TooMany)
TooMany a Memory = Unit {0}

abbrev pub AuditIsTold : AuditState → Result Audited (Or CommandFault) → Type 0
AuditIsTold a result = MatchResult result (AuditTells a) (TooMany a)
