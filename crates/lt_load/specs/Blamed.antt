-- Whose fault a refusal is.
use Rattle.lt_load_fit.specs.declared.fault.CommandFault.{CommandFault}
use Rattle.lt_load_fit.specs.declared.fault.CommandFault.TheVariants.{Program, Config, Place, Timing, Window, Inputs, TooManyCells, Row, Offence, Lossy, Limit, Read, Link}
use Rattle.lt_answer.specs.World.{Blame, Content, Reading, Linking}

abbrev pub command_blame : CommandFault → Blame
command_blame (Program fault) = Content
command_blame (Config fault) = Content
command_blame (Place fault main) = Content
command_blame (Timing fault names mixed) = Content
command_blame (Window fault names) = Content
command_blame (Inputs fault) = Content
command_blame TooManyCells = Content
command_blame (Row row fault) = Content
command_blame (Offence event offence shape) = Content
command_blame (Lossy event offence shape) = Content
command_blame (Limit what) = Content
command_blame Read = Reading
command_blame Link = Linking
