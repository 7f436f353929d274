-- What the steps of a judgment answer.
use Rattle.std.specs.Prelude.{◌≡◌, Option, Some, None, Result, Ok, Err}
use Rattle.lt_base.specs.declared.memory.Or.{Or}
use Rattle.lt_base.specs.declared.memory.Or.TheVariants.{Fault, Memory}
use Rattle.lt_config.specs.declared.fault.ConfigFault.{ConfigFault}

-- this fault, unless memory was wanting
abbrev pub IsSetupFault : ConfigFault → Or ConfigFault → Type 0
IsSetupFault f (Fault g) = g ≡ f
IsSetupFault f Memory = Unit {0}

-- no fault, or the first one
abbrev pub Judged : Option ConfigFault → Result (Unit {0}) (Or ConfigFault) → Type 0
Judged o (Ok x) = o ≡ None
Judged o (Err (Fault g)) = o ≡ Some g
Judged o (Err Memory) = Unit {0}
