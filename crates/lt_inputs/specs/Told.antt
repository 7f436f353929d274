-- What the answer of a call tells.
use Rattle.std.specs.Prelude.{◌≡◌, ℕ, Result, Ok, Err}
use Rattle.lt_base.specs.declared.memory.Or.{Or}
use Rattle.lt_base.specs.declared.memory.Or.TheVariants.{Fault, Memory}
use Rattle.lt_inputs.specs.declared.fault.InputKind.{InputKind}
use Rattle.lt_inputs.specs.declared.fault.InputFault.{InputFault}

-- the value or the fault that was wanted, unless no memory was found
abbrev pub ToldWanted : {V E : Type 0} → Result V E → Result V (Or E) → Type 0
ToldWanted wanted (Ok v) = wanted ≡ Ok v
ToldWanted wanted (Err (Fault e)) = wanted ≡ Err e
ToldWanted wanted (Err Memory) = Unit {0}

-- the values were filled in, or the fault was found, unless no memory was found
abbrev pub Fills : {V E : Type 0} → Result V E → Result (Unit {0}) (Or E) → V → Type 0
Fills wanted (Ok done) values = wanted ≡ Ok values
Fills wanted (Err (Fault e)) values = wanted ≡ Err e
Fills wanted (Err Memory) values = Unit {0}

-- a fault of a row, unless no memory was found
abbrev pub at_row : ℕ → Or InputKind → Or InputFault
at_row n (Fault kind) = Fault (record { row = n; kind = kind })
at_row n Memory = Memory
