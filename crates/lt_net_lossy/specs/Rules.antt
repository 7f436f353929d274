-- What the rows of a schedule file read as where links lose messages, and why a line is not taken.
use Rattle.std.specs.Prelude.{◌≡◌, ℕ, is_some, Option, Some, None, if◌then◌else◌}
use Rattle.lt_arch.specs.declared.event.Offence.TheVariants.{NoEnd}
use Rattle.lt_arch.specs.declared.shape.Shape.{Shape}
use Rattle.lt_arch.specs.declared.timing.Timing.{Timing}
use Rattle.lt_lossy.specs.declared.event.LossyEvent.{LossyEvent}
use Rattle.lt_lossy.specs.declared.event.LossyOffence.{LossyOffence}
use Rattle.lt_lossy.specs.declared.event.LossyOffence.TheVariants.{Common}
use Rattle.lt_lossy.specs.Events.{lossy_event_of}
use Rattle.lt_lossy.specs.State.{LossyState}
use Rattle.lt_lossy.specs.Step.{lossy_offence}
use Rattle.lt_lossy.specs.Schedule.{lossy_reached}
use Rattle.lt_schedule.specs.declared.halt.Stop.{Stop}
use Rattle.lt_schedule.specs.declared.halt.Stop.TheVariants as stop
use Rattle.lt_net_lossy.specs.declared.fault.LossyFault.{LossyFault}
use Rattle.lt_net_lossy.specs.declared.fault.LossyFault.TheVariants as net
use Rattle.lt_schedule.specs.Rules.{Rules}

-- the offence of a list that stops in this state
abbrev pub lossy_unended : LossyState → Option LossyOffence
lossy_unended st = if is_some st.horizon then None else Some (Common NoEnd)

-- the rules of the architecture over a shape and a timing, where so many losses in a row are allowed, with so many rows of inputs
abbrev pub lossy_rules_of : Shape → Timing → (losses rows : ℕ) → Rules LossyEvent LossyOffence
lossy_rules_of s t losses rows = record {
  reads = lossy_event_of s;
  offence = λ before e. lossy_offence s t losses (lossy_reached s t rows before) e;
  missing = λ before. lossy_unended (lossy_reached s t rows before);
}

-- a running net's fault, as why a line is not taken
abbrev pub IsLossyStopOf : LossyFault → Stop LossyOffence → Type 0
IsLossyStopOf (net.Offence offence) why = why ≡ stop.Offence offence
IsLossyStopOf net.Link why = why ≡ stop.Link
IsLossyStopOf net.Memory why = why ≡ stop.Memory
IsLossyStopOf (net.Stopped first) why = ⊥
