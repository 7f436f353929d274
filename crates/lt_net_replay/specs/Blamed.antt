-- Why a line is not taken.
use Rattle.std.specs.Prelude.{◌≡◌}
use Rattle.lt_arch.specs.declared.event.Offence as arch
use Rattle.lt_schedule.specs.declared.halt.Stop.{Stop}
use Rattle.lt_schedule.specs.declared.halt.Stop.TheVariants as stop
use Rattle.lt_net.specs.declared.fault.NetFault.{NetFault}
use Rattle.lt_net.specs.declared.fault.NetFault.TheVariants as net

-- a running net's fault, as why a line is not taken
abbrev pub IsStopOf : NetFault → Stop arch.Offence → Type 0
IsStopOf (net.Offence offence) why = why ≡ stop.Offence offence
IsStopOf net.Link why = why ≡ stop.Link
IsStopOf net.Memory why = why ≡ stop.Memory
IsStopOf (net.Stopped first) why = ⊥
