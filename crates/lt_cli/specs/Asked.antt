-- What a command does, and a call of `ltta` that is asked for it.
use Rattle.std.specs.Prelude.{◌≡◌, ◌⊎◌, ℕ, List, [], ◌∷◌, ◌++◌, length, map, Option, Some, None, Result, Ok, Err, String, string_bytes}
use Rattle.std.specs.declared.alloc.Global.{Global}
use Rattle.lt_base.specs.declared.memory.Or.{Or}
use Rattle.lt_base.specs.declared.memory.Or.TheVariants.{Fault, Memory}
use Rattle.lt_io.specs.FabricState.{FabricState, OpensAtMostOnce}
use Rattle.lt_io.specs.FilesState.{FilesState}
use Rattle.lt_io.specs.SinkState.{SinkState}
use Rattle.lt_words.specs.declared.command.Command.{Command as Spoken}
use Rattle.lt_words.specs.Reading.{Said, said_of, check, meaning, run, plan, sim, big, watch, audit, trace, command_of}
use Rattle.lt_load_fit.specs.declared.fault.CommandFault.{CommandFault}
use Rattle.lt_load.specs.Plan.{LoadedPlan}
use Rattle.lt_run.specs.Run.{LeavesUnloaded}
use Rattle.lt_big.specs.Big.{LeavesRefused}
use Rattle.lt_watch.specs.Watch.{LeavesUnwatched}
use Rattle.lt_text_answers.specs.declared.refusal.Refusal.{Refusal}
use Rattle.lt_text_answers.specs.declared.refusal.Refusal.TheVariants.{Command}
use Rattle.lt_text_answers.specs.declared.status.Status.{Status}
use Rattle.lt_text_answers.specs.declared.status.Status.TheVariants as status
use Rattle.lt_text_answers.specs.Texts.{refusal_status, refusal_line, drawing_text}
use Rattle.lt_cli.specs.Commands.{command_verdict, said_errands, asked_errands, words_verdict}
use Rattle.lt_cli.specs.Drawing.{DrawsShown}
use Rattle.lt_cli.specs.Objects.{Objects, Between, KeepsSteady, world_of}
use Rattle.lt_cli.specs.Written.{Written}
use Rattle.lt_text_answers.specs.Draws.{Drawing, drawing}
use Rattle.lt_cli.specs.Obeys.{ObeysErrands, Visits}
use Rattle.lt_cli.specs.Ran.{Ran, Reported}

-- only a run touches the fabric, watched or not, or that of the large input; it opens it at most once, and touches it only once all that it is of
-- is loaded
abbrev pub LeavesFabric : Option Said → (files : FilesState) → (old new : FabricState) → Type 0
LeavesFabric None files old new = new ≡ old
LeavesFabric (Some (check program config)) files old new = new ≡ old
LeavesFabric (Some (meaning program inputs)) files old new = new ≡ old
LeavesFabric (Some (run program inputs schedule config)) files old new = OpensAtMostOnce old new × LeavesUnloaded files program inputs config old new
LeavesFabric (Some (plan config horizon)) files old new = new ≡ old
LeavesFabric (Some (sim program inputs config seed horizon)) files old new = new ≡ old
LeavesFabric (Some (big instants)) files old new = OpensAtMostOnce old new × LeavesRefused instants old new
LeavesFabric (Some (watch program inputs schedule observer config)) files old new = OpensAtMostOnce old new × LeavesUnwatched files program inputs observer config old new
LeavesFabric (Some (audit program inputs schedule config)) files old new = new ≡ old
LeavesFabric (Some (trace program inputs schedule config place from to)) files old new = new ≡ old

-- an answer ends a call: `out` takes its text, or `err` its refusal's line
abbrev pub Finishes : Result (List ℕ) (Or Refusal) → (out out' err err' : SinkState) → (ends : Status) → Type 0
Finishes (Ok text) out out' err err' ends = Written status.Ok text out out' ends × (err' ≡ err)
Finishes (Err (Fault refusal)) out out' err err' ends = Written (refusal_status refusal) (refusal_line refusal ++ 10 ∷ []) err err' ends × (out' ≡ out)
Finishes (Err Memory) out out' err err' ends = (ends ≡ status.Memory) × (out' ≡ out) × (err' ≡ err)

-- whence want of memory may come behind an answer: of `out`, which was to take the text; of `err` or the making of the refusal's line;
-- or of the answer itself
abbrev pub IsCutShort : Result (List ℕ) (Or Refusal) → (out err : Type 0) → Type 0
IsCutShort (Ok text) out err = out
IsCutShort (Err (Fault refusal)) out err = err
IsCutShort (Err Memory) out err = Unit {0}

-- the same behind what was loaded for a schedule that is drawn
abbrev pub IsDrawnShort : Result LoadedPlan (Or CommandFault) → (out err : Type 0) → Type 0
IsDrawnShort (Ok k) out err = out ⊎ err
IsDrawnShort (Err (Fault fault)) out err = err
IsDrawnShort (Err Memory) out err = Unit {0}

-- what is to be printed of a drawn schedule: its file, or its refusal
abbrev pub shown_drawing : Result Drawing CommandFault → Result (List ℕ) Refusal
shown_drawing (Ok d) = Ok (drawing_text d)
shown_drawing (Err fault) = Err (Command fault)

abbrev pub drawn_outcome : LoadedPlan → (seed horizon : ℕ) → Result (List ℕ) Refusal
drawn_outcome k seed horizon = shown_drawing (drawing k.shape k.timing (length k.inputs.rows) seed horizon)

-- an outcome reaches the sinks, whatever else there is
pub record IsReported (outcome : Result (List ℕ) Refusal) (out out' err err' : SinkState) (ends : Status) : Type 0 where
  pub out_keeps : KeepsSteady out out'
  pub err_keeps : KeepsSteady err err'
  pub reported : (files files' : FilesState) (fabric fabric' : FabricState) →
      Reported outcome (record { files = files; fabric = fabric; out = out; err = err }) (record { files = files'; fabric = fabric'; out = out'; err = err' }) ends

-- what was loaded ends a call that draws a schedule, which reads back: `out` takes it, or `err` the line of a refusal
abbrev pub FinishesDrawn : Result LoadedPlan (Or CommandFault) → (seed horizon : ℕ) → (out out' err err' : SinkState) → (ends : Status) → Type 0
FinishesDrawn (Ok k) seed horizon out out' err err' ends = IsReported (drawn_outcome k seed horizon) out out' err err' ends × DrawsShown k seed horizon
FinishesDrawn (Err (Fault fault)) seed horizon out out' err err' ends = Finishes (Err (Fault (Command fault))) out out' err err' ends
FinishesDrawn (Err Memory) seed horizon out out' err err' ends = Finishes (Err Memory) out out' err err' ends

-- a call that is asked for this visits its files
abbrev pub VisitsFiles : Option Said → (old new : Objects) → (ends : Status) → Type 0
VisitsFiles said old new ends = Visits (asked_errands said) old new ends

-- what it does for a command; the last whether or not the objects tell what they hold
pub record ObeysCommand (said : Said) (old new : Objects) (ends : Status) : Type 0 where
  pub obeys : ObeysErrands (said_errands said) (command_verdict old.files.named (world_of new) said) old new ends
  pub leaves : LeavesFabric (Some said) old.files old.fabric new.fabric

-- a call ends so where this is said, whether or not the objects tell what they hold
pub record EndsBySaid (said : Option Said) (old new : Objects) (ends : Status) : Type 0 where
  -- the words are at fault only where they say no command
  pub words_only : ends ≡ status.Words → said ≡ None
  -- and then no other status comes but those of a failed write and of want of memory
  pub none_only : said ≡ None → (ends ≡ status.Words) ⊎ (ends ≡ status.Write) ⊎ (ends ≡ status.Memory)
  pub leaves : LeavesFabric said old.files old.fabric new.fabric

-- what a call does that is asked for this by its words
pub record Asked (words : List (List ℕ)) (old new : Objects) (ends : Status) : Type 0 where
  pub ran : Ran (words_verdict old.files.named (world_of new) words) old new ends
  pub by_said : EndsBySaid (command_of words) old new ends
  pub visits : VisitsFiles (command_of words) old new ends

-- the same of a call on objects of these types, whose states these functions read off them
abbrev pub AskedOn : {F W O E : Type 0} (files : F → FilesState) (fabric : W → FabricState) (out : O → SinkState) (err : E → SinkState) → (words : List (String Global)) → (old new : F × W × O × E) → Status → Type 0
AskedOn files fabric out err words old new ends = Between files fabric out err (Asked (map string_bytes words)) old new ends

-- and of what it does for a command
abbrev pub ObeysOn : {F W O E : Type 0} (files : F → FilesState) (fabric : W → FabricState) (out : O → SinkState) (err : E → SinkState) → Spoken → (old new : F × W × O × E) → Status → Type 0
ObeysOn files fabric out err command old new ends = Between files fabric out err (ObeysCommand (said_of command)) old new ends
