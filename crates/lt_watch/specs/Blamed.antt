-- Whose fault a refusal is.
use Rattle.lt_answer.specs.World.{Blame, Content}
use Rattle.lt_load.specs.Blamed.{command_blame}
use Rattle.lt_watch.specs.declared.fault.WatchFault.{WatchFault}
use Rattle.lt_watch.specs.declared.fault.WatchFault.TheVariants.{Command, Observer}

abbrev pub watch_blame : WatchFault → Blame
watch_blame (Command fault) = command_blame fault
watch_blame (Observer fault) = Content
