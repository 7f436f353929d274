-- What the reading of the words tells.
use Rattle.std.specs.Prelude.{◌≡◌, ◌≢◌, true, List, [], Option, Some, None, Result, Ok, Err}
use Rattle.clap.specs.Words.{App, Text, takes, fault_of}
use Rattle.lt_base.specs.declared.memory.Memory.{Memory}
use Rattle.lt_words.specs.declared.command.Command.{Command}
use Rattle.lt_words.specs.declared.lttac.LttacCommand.{LttacCommand}
use Rattle.lt_words.specs.Commands.{program_app}
use Rattle.lt_words.specs.Lttac.{lttac_app, lttac_said, lttac_said_of, HasLttacRanges}
use Rattle.lt_words.specs.Reading.{said, said_of}
use Rattle.lt_words.specs.Ranges.{HasRanges}

-- a command of a program only as the words say, without a fault and with its numbers in their ranges; none only of words that are not taken
abbrev pub TellsCommand : {C S : Type 0} (app : App) (of : C → S) (saying : List Text → Option S) (Ranges : C → Type 0) → List Text → Result (Option C) Memory → Type 0
TellsCommand app of saying Ranges words (Ok (Some c)) = (saying words ≡ Some (of c)) × (fault_of app words ≡ []) × Ranges c
TellsCommand app of saying Ranges words (Ok None) = (takes app words ≢ true) × (fault_of app words ≢ [])
TellsCommand app of saying Ranges words (Err e) = Unit {0}

-- a command of `ltta`
abbrev pub ToldCommand : List Text → Result (Option Command) Memory → Type 0
ToldCommand words r = TellsCommand program_app said_of said HasRanges words r

-- a command of `lttac`
abbrev pub ToldLttac : List Text → Result (Option LttacCommand) Memory → Type 0
ToldLttac words r = TellsCommand lttac_app lttac_said_of lttac_said HasLttacRanges words r
