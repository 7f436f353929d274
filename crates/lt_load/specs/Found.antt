-- What a command has by what was found on its way.
use Rattle.std.specs.Prelude.{ℕ, List, Result, Ok, Err}
use Rattle.lt_base.specs.declared.memory.Or.{Or}
use Rattle.lt_base.specs.declared.memory.Or.TheVariants.{Fault, Memory}
use Rattle.lt_io.specs.declared.fault.Failed.{Failed}
use Rattle.lt_io.specs.declared.transfer.Whole.{Whole}
use Rattle.lt_config.specs.declared.config.Config.{Config}
use Rattle.lt_front.specs.Examined.{ExaminedText}
use Rattle.lt_load_fit.specs.declared.fault.What.{What}
use Rattle.lt_load_fit.specs.declared.fault.CommandFault.{CommandFault}
use Rattle.lt_load_fit.specs.declared.fault.CommandFault.TheVariants as fault
use Rattle.lt_load.specs.Loaded.{within_file_limit}

-- of a file its bytes, that they are too many, or that a call on the files failed
abbrev pub fetched : What → Result Whole (Or Failed) → Result (List ℕ) (Or CommandFault)
fetched what (Ok whole) = within_file_limit what whole
fetched what (Err (Fault failed)) = Err (Fault fault.Read)
fetched what (Err Memory) = Err Memory

-- the program, if a setup fits it
abbrev pub fitted : ExaminedText → Result Config (Or CommandFault) → Result ExaminedText (Or CommandFault)
fitted checked (Ok setup) = Ok checked
fitted checked (Err e) = Err e
