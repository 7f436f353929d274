-- Whose fault a refused schedule is.
use Rattle.lt_answer.specs.World.{Blame, Content, Reading}
use Rattle.lt_schedule.specs.declared.fault.ScheduleFault.{ScheduleFault}
use Rattle.lt_schedule.specs.declared.fault.ScheduleFault.TheVariants.{Row, Offence, Bytes, Read}

abbrev pub schedule_blame : ScheduleFault → Blame
schedule_blame (Row row fault) = Content
schedule_blame (Offence event offence) = Content
schedule_blame Bytes = Content
schedule_blame Read = Reading
