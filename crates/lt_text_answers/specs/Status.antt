-- The numbers of statuses.
use Rattle.std.specs.Prelude.{ℕ}
use Rattle.lt_text_answers.specs.declared.status.Status.{Status}
use Rattle.lt_text_answers.specs.declared.status.Status.TheVariants as status

abbrev pub status_number : Status → ℕ
status_number status.Ok = 0
status_number status.Words = 1
status_number status.Program = 2
status_number status.Setup = 3
status_number status.Inputs = 4
status_number status.Schedule = 5
status_number status.Outside = 6
status_number status.Write = 7
status_number status.Limit = 8
status_number status.Memory = 9
status_number status.Observer = 10
