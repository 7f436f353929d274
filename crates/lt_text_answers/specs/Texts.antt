-- What is printed: the lines of refusals, and the texts of what is told of runs and schedules.
use Rattle.std.specs.Prelude.{ℕ, List, [], ◌++◌, ◌∷◌, codes, Option, Some, None, Result, Ok, Err, if◌then◌else◌}
use Rattle.std.specs.Fmt.{decimal}
use Rattle.lt_arch.specs.declared.shape.Shape.{Shape}
use Rattle.lt_inputs.specs.declared.fault.InputKind.{InputKind}
use Rattle.lt_inputs.specs.declared.fault.InputKind.TheVariants as inputs
use Rattle.lt_rows.specs.declared.fault.RowFault.{RowFault}
use Rattle.lt_rows.specs.declared.fault.RowFault.TheVariants as row
use Rattle.lt_front.specs.declared.fault.ProgramFault.{ProgramFault}
use Rattle.lt_front.specs.Limits.{is_limit}
use Rattle.lt_load_fit.specs.declared.fault.What.{What}
use Rattle.lt_load_fit.specs.declared.fault.What.TheVariants.{ProgramBytes, ConfigBytes, InputsBytes, ObserverBytes, ScheduleBytes}
use Rattle.lt_load_fit.specs.declared.fault.CommandFault.{CommandFault}
use Rattle.lt_load_fit.specs.declared.fault.CommandFault.TheVariants as fault
use Rattle.lt_text_lines.specs.Lines.{program_line}
use Rattle.lt_text_lines.specs.FileLines.{config_line, timing_line, window_line, inputs_line, observer_line}
use Rattle.lt_text_lines.specs.ScheduleLines.{row_line, offence_line, lossy_line, name_of_node, channel_text}
use Rattle.lt_text_answers.specs.Lines.{place_line}
use Rattle.lt_audit.specs.declared.miss.Miss.{Miss}
use Rattle.lt_inspect.specs.declared.audited.Audited.{Audited}
use Rattle.lt_sim.specs.File.{file_text}
use Rattle.lt_watch.specs.declared.watched.Watched.{Watched}
use Rattle.lt_watch.specs.declared.watched.Watched.TheVariants.{Holds, Fails}
use Rattle.lt_text_answers.specs.Draws.{Drawing}
use Rattle.lt_text_answers.specs.declared.refusal.Refusal.{Refusal}
use Rattle.lt_text_answers.specs.declared.refusal.Refusal.TheVariants.{Words, LttacWords, NoNode, Command, Observer}
use Rattle.lt_text_answers.specs.declared.status.Status.{Status}
use Rattle.lt_text_answers.specs.declared.status.Status.TheVariants as status

-- what is printed of a refusal, without its line feed

abbrev pub file_limit_line : What → List ℕ
file_limit_line ProgramBytes = codes "limit: program bytes 1048576"
file_limit_line ConfigBytes = codes "limit: config bytes 262144"
file_limit_line InputsBytes = codes "limit: inputs bytes 67108864"
file_limit_line ObserverBytes = codes "limit: observer bytes 65536"
file_limit_line ScheduleBytes = codes "limit: schedule bytes 1073741824"

abbrev pub fault_line : CommandFault → List ℕ
fault_line (fault.Program f) = program_line f
fault_line (fault.Config f) = config_line f
fault_line (fault.Place f main) = place_line main f
fault_line (fault.Timing f names mixed) = timing_line f names mixed
fault_line (fault.Window f names) = window_line f names
fault_line (fault.Inputs f) = inputs_line f
fault_line fault.TooManyCells = codes "limit: meaning cells 16000000"
fault_line (fault.Row n f) = row_line n f
fault_line (fault.Offence event offence shape) = offence_line shape event offence
fault_line (fault.Lossy event offence shape) = lossy_line shape event offence
fault_line (fault.Limit what) = file_limit_line what
fault_line fault.Read = codes "fault: read"
fault_line fault.Link = codes "fault: link"

-- no node of a setup has this name
abbrev pub no_node_line : (name : List ℕ) → List ℕ
no_node_line name = codes "words: no node " ++ name

abbrev pub refusal_line : Refusal → List ℕ
refusal_line Words =
    codes "words: usage: ltta check P [C] | meaning P I | run P I S [C] | plan C [--horizon H] | sim P I C --seed N --horizon H | big N | watch P I S O [C] | audit P I S C | trace P I S C [--node NAME] [--from T] [--to T]"
refusal_line LttacWords = codes "words: usage: lttac emit [--header] P C NODE | schedule P I C --seed N --horizon H [--jitter J] [--loss R] | draw P I S C [--node NAME] [--from T] [--to T] [--width W] | plot P I [S C] [--observer O] [--from K] [--to K] [--width W]"
refusal_line (NoNode name) = no_node_line name
refusal_line (Command f) = fault_line f
refusal_line (Observer f) = observer_line f

-- the status of a refusal

abbrev pub program_status : ProgramFault → Status
program_status f = if is_limit f then status.Limit else status.Program

abbrev pub inputs_status : InputKind → Status
inputs_status inputs.TooMany = status.Limit
inputs_status _ = status.Inputs

abbrev pub row_status : RowFault → Status
row_status row.TooMany = status.Limit
row_status _ = status.Schedule

abbrev pub fault_status : CommandFault → Status
fault_status (fault.Program f) = program_status f
fault_status (fault.Config f) = status.Setup
fault_status (fault.Place f main) = status.Setup
fault_status (fault.Timing f names mixed) = status.Setup
fault_status (fault.Window f names) = status.Setup
fault_status (fault.Inputs f) = inputs_status f.kind
fault_status fault.TooManyCells = status.Limit
fault_status (fault.Row n f) = row_status f
fault_status (fault.Offence event offence shape) = status.Schedule
fault_status (fault.Lossy event offence shape) = status.Schedule
fault_status (fault.Limit what) = status.Limit
fault_status fault.Read = status.Outside
fault_status fault.Link = status.Outside

abbrev pub refusal_status : Refusal → Status
refusal_status Words = status.Words
refusal_status LttacWords = status.Words
refusal_status (NoNode name) = status.Words
refusal_status (Command f) = fault_status f
refusal_status (Observer f) = status.Observer

-- the status of a text, or of a refusal
abbrev pub status_of : Result (List ℕ) Refusal → Status
status_of (Ok text) = status.Ok
status_of (Err refusal) = refusal_status refusal

-- what each sink is to take
abbrev pub out_text : Result (List ℕ) Refusal → List ℕ
out_text (Ok text) = text
out_text (Err refusal) = []

abbrev pub err_text : Result (List ℕ) Refusal → List ℕ
err_text (Ok text) = []
err_text (Err refusal) = refusal_line refusal ++ 10 ∷ []

-- what an observer makes of a run
abbrev pub watched_text : Watched → List ℕ
watched_text (Holds n) = codes "holds " ++ decimal n ++ 10 ∷ []
watched_text (Fails i) = codes "fails at " ++ decimal i ++ 10 ∷ []

-- what is executed, and with how many messages of which channel
abbrev pub executes_text : Shape → Miss → List ℕ
executes_text s m = codes " executes " ++ decimal m.instant ++ codes " with " ++ decimal m.delivered ++ codes " of" ++ channel_text s m.channel ++ 10 ∷ []

-- the event at which a node executes with a message too few or too many
abbrev pub miss_text : Shape → Miss → List ℕ
miss_text s m = codes "event " ++ decimal m.event ++ codes ": " ++ name_of_node s m.node ++ executes_text s m

-- that one, or that there is none among so many events
abbrev pub audit_text : Shape → (events : ℕ) → Option Miss → List ℕ
audit_text s events None = codes "clean " ++ decimal events ++ 10 ∷ []
audit_text s events (Some m) = miss_text s m

abbrev pub audited_text : Audited → List ℕ
audited_text a = audit_text a.shape a.events a.miss

-- the file of a drawn schedule
abbrev pub drawing_text : Drawing → List ℕ
drawing_text d = file_text d.shape d.events
