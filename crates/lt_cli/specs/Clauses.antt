-- What holds of a call of `ltta`, fact by fact.
use Rattle.std.specs.Prelude.{◌≡◌, ◌≢◌, ◌<◌, ◌+◌, ◌⊎◌, ◌↔◌, ℕ, IsTrue, List, [], length, Option, Some, None, Result, Ok, Err, IfOk, IfErr, String, Vec, codes, drop, map, string_bytes}
use Rattle.std.specs.declared.io.Error.{Error}
use Rattle.std.specs.declared.io.ErrorKind.TheVariants.{OutOfMemory}
use Rattle.std.specs.declared.alloc.Global.{Global}
use Rattle.std.specs.IoError.{error_kind}
use Rattle.lt_io.specs.FabricState.{FabricState}
use Rattle.lt_io.specs.FilesState.{FilesState}
use Rattle.lt_io.specs.SinkState.{SinkState}
use Rattle.lt_arch.specs.declared.event.Event.{Event}
use Rattle.lt_arch.specs.declared.event.Offence.{Offence}
use Rattle.lt_arch.specs.declared.shape.Shape.{Shape}
use Rattle.lt_timing.specs.Accepts.{Accepts}
use Rattle.lt_answer.specs.Answered.{Verdict}
use Rattle.lt_load_fit.specs.declared.fault.CommandFault.{CommandFault}
use Rattle.lt_load_fit.specs.declared.fault.CommandFault.TheVariants.{Read}
use Rattle.lt_text_answers.specs.declared.refusal.Refusal.{Refusal}
use Rattle.lt_text_answers.specs.declared.refusal.Refusal.TheVariants.{Words, Command}
use Rattle.lt_text_answers.specs.declared.status.Status.{Status}
use Rattle.lt_text_answers.specs.declared.status.Status.TheVariants as status
use Rattle.lt_text_answers.specs.Texts.{refusal_status, refusal_line, drawing_text, watched_text, audited_text}
use Rattle.lt_words.specs.Reading.{Said, command_of}
use Rattle.lt_words.specs.Reading as said
use Rattle.lt_text_lines.specs.PlanText.{plan_of}
use Rattle.lt_text_lines.specs.ScheduleLines.{offence_line}
use Rattle.lt_load.specs.Plan.{Plan}
use Rattle.lt_inspect.specs.declared.scene.Scene.{Scene}
use Rattle.lt_watch.specs.declared.fault.WatchFault.TheVariants as watched
use Rattle.lt_text_answers.specs.Replies.{checked_text, printed_text, summarized_text, watch_refusal}
use Rattle.lt_cli.specs.Commands.{command_verdict, words_verdict}
use Rattle.lt_cli.specs.Commands.Check.{check_verdict}
use Rattle.lt_cli.specs.Commands.Meaning.{meaning_verdict}
use Rattle.lt_cli.specs.Commands.Run.{run_verdict}
use Rattle.lt_cli.specs.Commands.Plan.{plan_verdict}
use Rattle.lt_cli.specs.Commands.Sim.{sim_verdict}
use Rattle.lt_cli.specs.Commands.Big.{big_verdict}
use Rattle.lt_cli.specs.Commands.Watch.{watch_verdict}
use Rattle.lt_cli.specs.Commands.Audit.{audit_verdict}
use Rattle.lt_cli.specs.Commands.Trace.{trace_verdict}
use Rattle.lt_cli.specs.Taken.{TookLine, TookText}
use Rattle.lt_cli.specs.Headline.{HoldEvents, IsFirstRefused, IsRunShown, IsBigShown}
use Rattle.lt_cli.specs.WatchShown.{IsWatchShown}
use Rattle.lt_cli.specs.AuditShown.{HoldSchedule, TookClean, IsAuditShown}
use Rattle.lt_cli.specs.DrawnShown.{IsDrawnShown}
use Rattle.lt_cli.specs.Objects.{Objects, AreSound, Between, IsQuiet, world_of}
use Rattle.lt_cli.specs.Ran.{Ran}
use Rattle.lt_cli.specs.Asked.{EndsBySaid, VisitsFiles}

-- the status says that the words are wrong exactly where they say no command, and then the usage line was printed
pub record IsWordsExact (words : List (List ℕ)) (old new : Objects) (ends : Status) : Type 0 where
  pub exact : (ends ≡ status.Words) ↔ (command_of words ≡ None)
  pub line : ends ≡ status.Words → TookLine (refusal_line Words) old new

-- a command with this verdict, whose values are shown so and whose faults are these refusals: each status comes exactly where it is
-- right, with its text or its line
pub record IsExactFor {T E : Type 0} (raise : E → Refusal) (shown : T → List ℕ) (V : Verdict T E) (old new : Objects) (ends : Status) : Type 0 where
  pub ok : (ends ≡ status.Ok) ↔ ((x : T) × V (Ok x))
  pub text : ends ≡ status.Ok → (x : T) × V (Ok x) × TookText (shown x) old new
  pub refused : (code : Status) → code ≢ status.Ok → (ends ≡ code) ↔ ((f : E) × V (Err f) × (refusal_status (raise f) ≡ code))
  pub line : ends ≢ status.Ok → (f : E) × V (Err f) × (refusal_status (raise f) ≡ ends) × TookLine (refusal_line (raise f)) old new

abbrev pub IsExact : {T : Type 0} (shown : T → List ℕ) (V : Verdict T CommandFault) (old new : Objects) (ends : Status) → Type 0
IsExact shown V old new ends = IsExactFor (λ fault. Command fault) shown V old new ends

-- a command on sound files, whose fault where one is missing is this: a call on them fails exactly where the first file in order that
-- is refused is missing
abbrev pub IsMissingFor : {T E : Type 0} → (missing : E) → Verdict T E → (old new : Objects) → Type 0
IsMissingFor missing V old new = (old.files.faults < new.files.faults) ↔ V (Err missing)

abbrev pub IsMissingExact : {T : Type 0} → Verdict T CommandFault → (old new : Objects) → Type 0
IsMissingExact V old new = IsMissingFor Read V old new

-- a failed call on an object: its count of faults rose, and this line was printed
pub record IsCallFailed (line_text : List ℕ) (before after : ℕ) (old new : Objects) : Type 0 where
  pub rose : before < after
  pub line : TookLine line_text old new

-- one on the files or on the fabric
abbrev pub IsOutsideCaused : Objects → Objects → Type 0
IsOutsideCaused old new =
    IsCallFailed (codes "fault: read") old.files.faults new.files.faults old new
    ⊎ IsCallFailed (codes "fault: link") old.fabric.faults new.fabric.faults old new

-- a call on the files or on the fabric failed
abbrev pub HasCallFailed : Objects → Objects → Type 0
HasCallFailed old new = (old.files.faults < new.files.faults) ⊎ (old.fabric.faults < new.fabric.faults)

-- the status says so, or that the line of it was not written, or that memory was wanting
abbrev pub IsOfFailure : Status → Type 0
IsOfFailure ends = (ends ≡ status.Outside) ⊎ (ends ≡ status.Write) ⊎ (ends ≡ status.Memory)

-- a failed write: the count of one sink rose, and the other took nothing
abbrev pub IsWriteCaused : Objects → Objects → Type 0
IsWriteCaused old new =
    ((old.out.faults < new.out.faults) × (IsTrue old.err.told → new.err.taken ≡ old.err.taken))
    ⊎ ((old.err.faults < new.err.faults) × (IsTrue old.out.told → new.out.taken ≡ old.out.taken))

-- where the words say this command, the files tell their bytes, no count of faults rises and memory is found, this is so
abbrev pub Asks : (asked : List (List ℕ)) → Said → (old new : Objects) → (ends : Status) → Type 0 → Type 0
Asks asked said old new ends F = command_of asked ≡ Some said → IsTrue old.files.told → IsQuiet old new → ends ≢ status.Memory → F

-- and where it ends well
abbrev pub EndsWell : (asked : List (List ℕ)) → Said → (old new : Objects) → (ends : Status) → Type 0 → Type 0
EndsWell asked said old new ends F = command_of asked ≡ Some said → IsTrue old.files.told → IsQuiet old new → ends ≡ status.Ok → F

-- where the words say this command, the files are sound and memory is found, this is so
abbrev pub AsksSound : (asked : List (List ℕ)) → Said → Objects → (ends : Status) → Type 0 → Type 0
AsksSound asked said old ends F = command_of asked ≡ Some said → IsTrue old.files.sound → ends ≢ status.Memory → F

-- no refusal is right; so no file is missing either
abbrev pub IsAccepted : Verdict (List ℕ) Refusal → Type 0
IsAccepted V = (refusal : Refusal) → V (Err refusal) → ⊥

-- the status says that all went well, or that memory was wanting
abbrev pub EndsWellOrShort : Status → Type 0
EndsWellOrShort ends = (ends ≡ status.Ok) ⊎ (ends ≡ status.Memory)

-- what holds of a call of `ltta` that is asked for this by its words
pub record Performs (asked : List (List ℕ)) (old new : Objects) (ends : Status) : Type 0 where
  -- the status says that the words are wrong only where they say no command, and then none but those of a failed write and of want
  -- of memory comes in its place; only a run touches the fabric, and that of the large input, once all that it is of is loaded
  pub by_said : EndsBySaid (command_of asked) old new ends
  -- whether or not the files tell their bytes: the command's files are opened in their order, each once, and no more of each is read than
  -- its limit and what shows that it is passed
  pub visits : VisitsFiles (command_of asked) old new ends
  -- where the files tell their bytes, no count rose and memory was found: each status exactly where it is right, with its text or its line
  pub words : IsTrue old.files.told → IsQuiet old new → ends ≢ status.Memory → IsWordsExact asked old new ends
  pub check : (program : List ℕ) (config : Option (List ℕ)) → Asks asked (said.check program config) old new ends
      (IsExact checked_text (check_verdict old.files.named program config) old new ends)
  pub meaning : (program inputs : List ℕ) → Asks asked (said.meaning program inputs) old new ends
      (IsExact printed_text (meaning_verdict old.files.named program inputs) old new ends)
  pub run : (program inputs schedule : List ℕ) (config : Option (List ℕ)) → Asks asked (said.run program inputs schedule config) old new ends
      (IsExact printed_text (run_verdict old.files.named program inputs schedule config (world_of new)) old new ends)
  pub plan : (config : List ℕ) (horizon : Option ℕ) → Asks asked (said.plan config horizon) old new ends
      (IsExact (λ setup. plan_of setup horizon) (plan_verdict old.files.named config) old new ends)
  pub sim : (program inputs config : List ℕ) (seed horizon : ℕ) → Asks asked (said.sim program inputs config seed horizon) old new ends
      (IsExact drawing_text (sim_verdict old.files.named program inputs config seed horizon) old new ends)
  pub big : (instants : ℕ) → Asks asked (said.big instants) old new ends
      (IsExact (summarized_text instants) (big_verdict instants new.fabric) old new ends)
  pub watch : (program inputs schedule observer : List ℕ) (config : Option (List ℕ)) → Asks asked (said.watch program inputs schedule observer config) old new ends
      (IsExactFor watch_refusal watched_text (watch_verdict old.files.named program inputs schedule observer config (world_of new)) old new ends)
  pub audit : (program inputs schedule config : List ℕ) → Asks asked (said.audit program inputs schedule config) old new ends
      (IsExact audited_text (audit_verdict old.files.named program inputs schedule config new.files) old new ends)
  pub trace : (program inputs schedule config : List ℕ) (node : Option (List ℕ)) (from to : ℕ) → Asks asked (said.trace program inputs schedule config node from to) old new ends
      (IsExact (λ text. text) (trace_verdict old.files.named program inputs schedule config node from to new.files) old new ends)
  -- a run is refused at the first event of its schedule that has an offence: the line has the event's number and the offence
  pub run_refused : (program inputs schedule : List ℕ) (config : Option (List ℕ)) → Asks asked (said.run program inputs schedule config) old new ends
      ((plan : Plan) (s : Shape) (events : List Event) → HoldEvents old.files.named program inputs schedule config plan s events
      → (i : ℕ) (offence : Offence) → IsFirstRefused s plan.setup.timing (length plan.inputs.rows) events i offence
      → (ends ≡ status.Schedule) × TookLine (offence_line s (i + 1) offence) old new)
  -- what a run shows that ended well, fact by fact
  pub run_shown : (program inputs schedule : List ℕ) (config : Option (List ℕ)) → EndsWell asked (said.run program inputs schedule config) old new ends
      (IsRunShown old.files.named program inputs schedule config old new)
  -- the same of a run of the large input
  pub big_shown : (instants : ℕ) → EndsWell asked (said.big instants) old new ends
      (IsBigShown instants old new)
  -- what a drawn schedule shows: it reads back as its list, and a run along it is not refused
  pub sim_shown : (program inputs config : List ℕ) (seed horizon : ℕ) → EndsWell asked (said.sim program inputs config seed horizon) old new ends
      (IsDrawnShown old.files.named program inputs config seed horizon old new)
  -- what a watched run and an audit show that ended well
  pub watch_shown : (program inputs schedule observer : List ℕ) (config : Option (List ℕ)) → EndsWell asked (said.watch program inputs schedule observer config) old new ends
      (IsWatchShown old.files.named program inputs schedule observer config old new)
  pub audit_shown : (program inputs schedule config : List ℕ) → EndsWell asked (said.audit program inputs schedule config) old new ends
      (IsAuditShown old.files.named program inputs schedule config old new)
  -- an audit of an admissible list over a setup whose timing is accepted ends well, and tells that no message is too few or too many
  pub audit_clean : (program inputs schedule config : List ℕ) → Asks asked (said.audit program inputs schedule config) old new ends
      ((plan : Plan) (scene : Scene) (events : List Event) → HoldSchedule old.files.named program inputs schedule config plan scene events → Accepts plan.setup.timing
      → (ends ≡ status.Ok) × TookClean scene events old new)
  -- what a status says of the outside
  pub outside : ends ≡ status.Outside → IsOutsideCaused old new
  pub failed : HasCallFailed old new → IsOfFailure ends
  pub write : ends ≡ status.Write → IsWriteCaused old new
  -- no call on a sound fabric fails, nor on a sound sink
  pub steady : IsTrue old.fabric.sound → new.fabric.faults ≡ old.fabric.faults
  pub out_steady : IsTrue old.out.sound → new.out.faults ≡ old.out.faults
  pub err_steady : IsTrue old.err.sound → new.err.faults ≡ old.err.faults
  -- where all of them are sound a command ends well that nothing refuses, unless memory is wanting
  pub accepted : (said : Said) → command_of asked ≡ Some said → AreSound old → IsAccepted (command_verdict old.files.named (world_of new) said) → EndsWellOrShort ends
  -- over sound files a call on them fails exactly where the first file in order that is refused is missing
  pub check_missing : (program : List ℕ) (config : Option (List ℕ)) → AsksSound asked (said.check program config) old ends
      (IsMissingExact (check_verdict old.files.named program config) old new)
  pub meaning_missing : (program inputs : List ℕ) → AsksSound asked (said.meaning program inputs) old ends
      (IsMissingExact (meaning_verdict old.files.named program inputs) old new)
  pub run_missing : (program inputs schedule : List ℕ) (config : Option (List ℕ)) → AsksSound asked (said.run program inputs schedule config) old ends
      -- no call on the fabric failed, which may come before the schedule's file is opened
      (new.fabric.faults ≡ old.fabric.faults → IsMissingExact (run_verdict old.files.named program inputs schedule config (world_of new)) old new)
  pub plan_missing : (config : List ℕ) (horizon : Option ℕ) → AsksSound asked (said.plan config horizon) old ends
      (IsMissingExact (plan_verdict old.files.named config) old new)
  pub sim_missing : (program inputs config : List ℕ) (seed horizon : ℕ) → AsksSound asked (said.sim program inputs config seed horizon) old ends
      (IsMissingExact (sim_verdict old.files.named program inputs config seed horizon) old new)
  pub watch_missing : (program inputs schedule observer : List ℕ) (config : Option (List ℕ)) → AsksSound asked (said.watch program inputs schedule observer config) old ends
      (new.fabric.faults ≡ old.fabric.faults
      → IsMissingFor (watched.Command Read) (watch_verdict old.files.named program inputs schedule observer config (world_of new)) old new)
  pub audit_missing : (program inputs schedule config : List ℕ) → AsksSound asked (said.audit program inputs schedule config) old ends
      (IsMissingExact (audit_verdict old.files.named program inputs schedule config new.files) old new)
  pub trace_missing : (program inputs schedule config : List ℕ) (node : Option (List ℕ)) (from to : ℕ) → AsksSound asked (said.trace program inputs schedule config node from to) old ends
      (IsMissingExact (trace_verdict old.files.named program inputs schedule config node from to new.files) old new)
  -- all of it: what was to be printed, how far it was, and whose count rose
  pub ran : Ran (words_verdict old.files.named (world_of new) asked) old new ends

-- the same of a call on objects of these types, whose states these functions read off them
abbrev pub PerformsOn : {F W O E : Type 0} (files : F → FilesState) (fabric : W → FabricState) (out : O → SinkState) (err : E → SinkState) → (words : List (String Global)) → (old new : F × W × O × E) → Status → Type 0
PerformsOn files fabric out err words old new ends = Between files fabric out err (Performs (map string_bytes words)) old new ends

-- what holds of a call on the words of a line
pub record PerformsLine {F W O E : Type 0} (files : F → FilesState) (fabric : W → FabricState) (out : O → SinkState) (err : E → SinkState) (line : Result (Vec (String Global) Global) Error) (old new : F × W × O × E) (ends : Status) : Type 0 where
  -- it is one on the words behind the first, which is the program's name
  pub read : IfOk line (λ words. PerformsOn files fabric out err (drop 1 words.items) old new ends)
  -- where the words are no text, it is one on no words
  pub unread : IfErr line (λ error. error_kind error ≢ OutOfMemory → PerformsOn files fabric out err [] old new ends)
  -- and where no memory was found for them, it ends so
  pub short : IfErr line (λ error. error_kind error ≡ OutOfMemory → ends ≡ status.Memory)
