-- What holds of a call of `lttac`, fact by fact.
use Rattle.std.specs.Prelude.{◌≡◌, ◌≢◌, ◌<◌, ◌↔◌, ℕ, Bool, IsTrue, List, [], Option, Some, None, Result, Err, IfOk, IfErr, String, Vec, codes, drop, map, string_bytes, unwrap_or}
use Rattle.std.specs.declared.io.Error.{Error}
use Rattle.std.specs.declared.io.ErrorKind.TheVariants.{OutOfMemory}
use Rattle.std.specs.declared.alloc.Global.{Global}
use Rattle.std.specs.IoError.{error_kind}
use Rattle.lt_io.specs.FilesState.{FilesState}
use Rattle.lt_io.specs.SinkState.{SinkState}
use Rattle.lt_load_fit.specs.declared.fault.CommandFault.TheVariants.{Read}
use Rattle.lt_emit.specs.declared.fault.EmitFault.TheVariants as fault
use Rattle.lt_watch.specs.declared.fault.WatchFault.TheVariants as watched
use Rattle.lt_words.specs.Lttac.{LttacSaid, emit, schedule, draw, plot, lttac_command_of}
use Rattle.lt_text_answers.specs.declared.refusal.Refusal.TheVariants.{LttacWords}
use Rattle.lt_text_answers.specs.declared.status.Status.{Status}
use Rattle.lt_text_answers.specs.declared.status.Status.TheVariants as status
use Rattle.lt_text_answers.specs.Texts.{refusal_line, no_node_line}
use Rattle.lt_text_answers.specs.Replies.{watch_refusal}
use Rattle.lt_cli.specs.Clauses.{IsExact, IsExactFor, IsMissingExact, IsMissingFor, IsCallFailed, IsOfFailure, IsWriteCaused, IsAccepted, EndsWellOrShort}
use Rattle.lt_cli.specs.Objects.{Objects, IsQuiet, AreSound}
use Rattle.lt_cli.specs.Obeys.{Visits}
use Rattle.lt_cli.specs.Ran.{Ran}
use Rattle.lt_cli.specs.Taken.{TookLine}
use Rattle.lt_cli_c.specs.Emit.{emit_refusal, emit_verdict}
use Rattle.lt_cli_c.specs.Schedule.{schedule_verdict}
use Rattle.lt_cli_c.specs.ScheduleShown.{IsScheduleShown}
use Rattle.lt_cli_c.specs.Draw.{draw_verdict, draw_view}
use Rattle.lt_cli_c.specs.Plot.{plot_verdict, plot_view}
use Rattle.lt_cli_c.specs.LttacAsked.{BetweenFiles, EndsUnsaid, lttac_errands, lttac_verdict, lttac_words_verdict}

-- where the words say this command, the files tell their bytes, no count of faults rises and memory is found, this is so
abbrev pub LttacAsks : (asked : List (List ℕ)) → LttacSaid → (old new : Objects) → (ends : Status) → Type 0 → Type 0
LttacAsks asked said old new ends F = lttac_command_of asked ≡ Some said → IsTrue old.files.told → IsQuiet old new → ends ≢ status.Memory → F

-- where the words say this command, the files are sound and memory is found, this is so
abbrev pub LttacAsksSound : (asked : List (List ℕ)) → LttacSaid → Objects → (ends : Status) → Type 0 → Type 0
LttacAsksSound asked said old ends F = lttac_command_of asked ≡ Some said → IsTrue old.files.sound → ends ≢ status.Memory → F

-- and where it ends well
abbrev pub LttacEndsWell : (asked : List (List ℕ)) → LttacSaid → (old new : Objects) → (ends : Status) → Type 0 → Type 0
LttacEndsWell asked said old new ends F = lttac_command_of asked ≡ Some said → IsTrue old.files.told → IsQuiet old new → ends ≡ status.Ok → F

-- the status says that the words are wrong exactly where their node is none of the setup's, and nothing else is refused; the line has
-- the node's name
pub record IsNodeExact (named : List ℕ → Option (List ℕ)) (header : Bool) (program config node : List ℕ) (old new : Objects) (ends : Status) : Type 0 where
  pub exact : (ends ≡ status.Words) ↔ emit_verdict named header program config node (Err (fault.NoNode node))
  pub line : ends ≡ status.Words → TookLine (no_node_line node) old new

-- what holds of a call of `lttac` that is asked for this by its words
pub record LttacPerforms (asked : List (List ℕ)) (old new : Objects) (ends : Status) : Type 0 where
  -- where the words say no command, no status but three comes; and where the files tell their bytes, no count rose and memory was found, it is that of wrong
  -- words, and the usage line was printed
  pub unsaid : EndsUnsaid (lttac_command_of asked) ends
  pub usage : lttac_command_of asked ≡ None → IsTrue old.files.told → IsQuiet old new → ends ≢ status.Memory → (ends ≡ status.Words) × TookLine (refusal_line LttacWords) old new
  -- whether or not the files tell their bytes: the command's files are opened in their order, each once, and no more of each is read than
  -- its limit and what shows that it is passed
  pub visits : Visits (lttac_errands (lttac_command_of asked)) old new ends
  -- where the files tell their bytes, no count rose and memory was found: each status exactly where it is right, with its text or its line
  pub emitted : (header : Bool) (program config node : List ℕ) → LttacAsks asked (emit header program config node) old new ends
      (IsExactFor emit_refusal (λ text. text) (emit_verdict old.files.named header program config node) old new ends)
  pub no_node : (header : Bool) (program config node : List ℕ) → LttacAsks asked (emit header program config node) old new ends
      (IsNodeExact old.files.named header program config node old new ends)
  pub scheduled : (program inputs config : List ℕ) (seed horizon : ℕ) (jitter loss : Option ℕ) → LttacAsks asked (schedule program inputs config seed horizon jitter loss) old new ends
      (IsExact (λ text. text) (schedule_verdict old.files.named program inputs config (unwrap_or loss 0) seed horizon jitter) old new ends)
  pub drawn : (program inputs events config : List ℕ) (node : Option (List ℕ)) (from to width : Option ℕ) → LttacAsks asked (draw program inputs events config node from to width) old new ends
      (IsExact (λ text. text) (draw_verdict old.files.named program inputs events config node (draw_view from to width)) old new ends)
  pub plotted : (program inputs : List ℕ) (along : Option (List ℕ × List ℕ)) (observer : Option (List ℕ)) (from to width : Option ℕ) → LttacAsks asked (plot program inputs along observer from to width) old new ends
      (IsExactFor watch_refusal (λ text. text) (plot_verdict old.files.named program inputs along observer (plot_view from to width)) old new ends)
  -- a schedule keeps to the setup's bounds, and the text that was printed reads as its events, so a run along it is not refused
  pub schedule_shown : (program inputs config : List ℕ) (seed horizon : ℕ) (jitter loss : Option ℕ) → LttacEndsWell asked (schedule program inputs config seed horizon jitter loss) old new ends
      (IsScheduleShown old.files.named program inputs config (unwrap_or loss 0) seed horizon jitter old new)
  -- what a status says of the outside
  pub outside : ends ≡ status.Outside → IsCallFailed (codes "fault: read") old.files.faults new.files.faults old new
  pub failed : old.files.faults < new.files.faults → IsOfFailure ends
  pub write : ends ≡ status.Write → IsWriteCaused old new
  -- no call on a sound sink fails
  pub out_steady : IsTrue old.out.sound → new.out.faults ≡ old.out.faults
  pub err_steady : IsTrue old.err.sound → new.err.faults ≡ old.err.faults
  -- where all of them are sound a command ends well that nothing refuses, unless memory is wanting
  pub accepted : (said : LttacSaid) → lttac_command_of asked ≡ Some said → AreSound old → IsAccepted (lttac_verdict old.files.named said) → EndsWellOrShort ends
  -- over sound files a call on them fails exactly where the first file in order that is refused is missing
  pub emit_missing : (header : Bool) (program config node : List ℕ) → LttacAsksSound asked (emit header program config node) old ends
      (IsMissingFor (fault.Command Read) (emit_verdict old.files.named header program config node) old new)
  pub schedule_missing : (program inputs config : List ℕ) (seed horizon : ℕ) (jitter loss : Option ℕ) → LttacAsksSound asked (schedule program inputs config seed horizon jitter loss) old ends
      (IsMissingExact (schedule_verdict old.files.named program inputs config (unwrap_or loss 0) seed horizon jitter) old new)
  pub draw_missing : (program inputs events config : List ℕ) (node : Option (List ℕ)) (from to width : Option ℕ) → LttacAsksSound asked (draw program inputs events config node from to width) old ends
      (IsMissingExact (draw_verdict old.files.named program inputs events config node (draw_view from to width)) old new)
  pub plot_missing : (program inputs : List ℕ) (along : Option (List ℕ × List ℕ)) (observer : Option (List ℕ)) (from to width : Option ℕ) → LttacAsksSound asked (plot program inputs along observer from to width) old ends
      (IsMissingFor (watched.Command Read) (plot_verdict old.files.named program inputs along observer (plot_view from to width)) old new)
  -- all of it: what was to be printed, how far it was, and whose count rose
  pub ran : Ran (lttac_words_verdict old.files.named asked) old new ends

-- the same of a call on objects of these types, whose states these functions read off them
abbrev pub LttacPerformsOn : {F O E : Type 0} (files : F → FilesState) (out : O → SinkState) (err : E → SinkState) → (words : List (String Global)) → (old new : F × O × E) → Status → Type 0
LttacPerformsOn files out err words old new ends = BetweenFiles files out err (LttacPerforms (map string_bytes words)) old new ends

-- what holds of a call on the words of a line
pub record LttacPerformsLine {F O E : Type 0} (files : F → FilesState) (out : O → SinkState) (err : E → SinkState) (line : Result (Vec (String Global) Global) Error) (old new : F × O × E) (ends : Status) : Type 0 where
  -- it is one on the words behind the first, which is the program's name
  pub read : IfOk line (λ words. LttacPerformsOn files out err (drop 1 words.items) old new ends)
  -- where the words are no text, it is one on no words
  pub unread : IfErr line (λ error. error_kind error ≢ OutOfMemory → LttacPerformsOn files out err [] old new ends)
  -- and where no memory was found for them, it ends so
  pub short : IfErr line (λ error. error_kind error ≡ OutOfMemory → ends ≡ status.Memory)
