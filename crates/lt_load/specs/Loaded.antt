-- Files that a command reads before it runs.
use Rattle.std.specs.Prelude.{◌≡◌, ◌≤◌, ℕ, nat_le, if◌then◌else◌, List, length, Option, Result, Ok, Err}
use Rattle.lt_base.specs.declared.memory.Or.{Or}
use Rattle.lt_base.specs.Limits.{most_program_bytes, most_config_bytes, most_inputs_bytes, most_observer_bytes, most_schedule_bytes}
use Rattle.lt_base.specs.declared.memory.Or.TheVariants.{Fault}
use Rattle.lt_io.specs.declared.transfer.Whole.{Whole}
use Rattle.lt_io.specs.declared.transfer.Whole.TheVariants.{Bytes, TooLong}
use Rattle.lt_answer.specs.Answered.{Verdict, AndThen, OfForm, OfFile}
use Rattle.lt_answer.specs.Rules.{Raised, Exactly}
use Rattle.lt_front.specs.Examined.{ExaminedText}
use Rattle.lt_front.specs.Checked.{CheckedText, examined_part}
use Rattle.lt_front.specs.Front.{examine_verdict}
use Rattle.lt_base.specs.Program.{WholeProgram}
use Rattle.lt_base.specs.Inputs.{InputTable}
use Rattle.lt_inputs.specs.Inputs.{inputs_of}
use Rattle.lt_config.specs.declared.config.Config.{Config}
use Rattle.lt_config.specs.declared.fault.ConfigFault.{ConfigFault}
use Rattle.lt_config.specs.Reading.{config_of, setup_in}
use Rattle.lt_load_fit.specs.declared.fault.What.{What}
use Rattle.lt_load_fit.specs.declared.fault.What.TheVariants.{ProgramBytes, ConfigBytes, InputsBytes, ObserverBytes, ScheduleBytes}
use Rattle.lt_load_fit.specs.declared.fault.CommandFault.{CommandFault}
use Rattle.lt_load_fit.specs.declared.fault.CommandFault.TheVariants as fault
use Rattle.lt_load_fit.specs.Main.{main_in}

-- the most bytes of a file
abbrev pub limit_of : What → ℕ
limit_of ProgramBytes = most_program_bytes
limit_of ConfigBytes = most_config_bytes
limit_of InputsBytes = most_inputs_bytes
limit_of ObserverBytes = most_observer_bytes
limit_of ScheduleBytes = most_schedule_bytes

-- these are the bytes, and not too many
pub record BytesAreWithin (most : ℕ) (bytes whole : List ℕ) : Type 0 where
  pub same : whole ≡ bytes
  pub short : length bytes ≤ most

-- what was read of a file: its bytes, or that they are too many
abbrev pub within_file_limit : What → Whole → Result (List ℕ) (Or CommandFault)
within_file_limit what (Bytes bytes) = if nat_le (length bytes) (limit_of what) then Ok bytes else Err (Fault (fault.Limit what))
within_file_limit what TooLong = Err (Fault (fault.Limit what))

-- the bytes of a file, that they are too many, or that the file is missing
unfoldable pub whole_verdict : What → Option (List ℕ) → Verdict (List ℕ) CommandFault
whole_verdict what file = OfFile fault.Read file (λ bytes. OfForm (BytesAreWithin (limit_of what) bytes) (fault.Limit what))

-- the program of a file, through all checks
unfoldable pub program_verdict : Option (List ℕ) → Verdict ExaminedText CommandFault
program_verdict file = AndThen (whole_verdict ProgramBytes file) (λ bytes. Raised (λ e. fault.Program e) (examine_verdict bytes))

-- a program with its flat form, by a verdict on programs
abbrev pub Flattened : Verdict ExaminedText CommandFault → Verdict CheckedText CommandFault
Flattened V (Ok checked) = V (Ok (examined_part checked))
Flattened V (Err e) = V (Err e)

-- the setup of some bytes
abbrev pub setup_verdict : List ℕ → Verdict Config ConfigFault
setup_verdict bytes (Ok config) = config_of bytes ≡ Ok (setup_in config)
setup_verdict bytes (Err e) = config_of bytes ≡ Err e

-- the setup of a file
unfoldable pub config_verdict : Option (List ℕ) → Verdict Config CommandFault
config_verdict file = AndThen (whole_verdict ConfigBytes file) (λ bytes. Raised (λ e. fault.Config e) (setup_verdict bytes))

-- the inputs of a program's main function in a file
unfoldable pub inputs_verdict : WholeProgram → Option (List ℕ) → Verdict InputTable CommandFault
inputs_verdict p file = AndThen (whole_verdict InputsBytes file) (λ bytes. Raised (λ e. fault.Inputs e) (Exactly (inputs_of (main_in p) bytes)))
