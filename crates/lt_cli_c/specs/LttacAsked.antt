-- What a call of `lttac` does for its words.
use Rattle.std.specs.Prelude.{◌≡◌, ◌⊎◌, ℕ, List, [], Option, Some, None, Result, Err, String, map, string_bytes, unwrap_or}
use Rattle.std.specs.declared.alloc.Global.{Global}
use Rattle.lt_base.specs.declared.memory.Or.{Or}
use Rattle.lt_io.specs.FilesState.{FilesState}
use Rattle.lt_io.specs.SinkState.{SinkState}
use Rattle.lt_io.specs.Visits.{Errand}
use Rattle.lt_words.specs.declared.lttac.LttacCommand.{LttacCommand}
use Rattle.lt_words.specs.Lttac.{LttacSaid, emit, schedule, draw, plot, lttac_said_of, lttac_command_of}
use Rattle.lt_answer.specs.Answered.{Verdict}
use Rattle.lt_answer.specs.World.{alone}
use Rattle.lt_answer.specs.Alone.{AnsweredOnFiles}
use Rattle.lt_load.specs.Errands.{check_errands, load_errands}
use Rattle.lt_text_answers.specs.declared.refusal.Refusal.{Refusal}
use Rattle.lt_text_answers.specs.declared.refusal.Refusal.TheVariants.{LttacWords}
use Rattle.lt_text_answers.specs.declared.status.Status.{Status}
use Rattle.lt_text_answers.specs.declared.status.Status.TheVariants as status
use Rattle.lt_text_answers.specs.Blamed.{blame_of}
use Rattle.lt_text_answers.specs.Replies.{watch_refusal}
use Rattle.lt_cli.specs.Answers.{answer_verdict, text_verdict}
use Rattle.lt_cli.specs.Objects.{Objects}
use Rattle.lt_cli.specs.Obeys.{Visits}
use Rattle.lt_cli.specs.Ran.{Ran}
use Rattle.lt_cli_c.specs.Emit.{emit_refusal, emit_verdict}
use Rattle.lt_cli_c.specs.Schedule.{schedule_verdict}
use Rattle.lt_cli_c.specs.Draw.{draw_errands, draw_verdict, draw_view}
use Rattle.lt_cli_c.specs.Plot.{plot_errands, plot_verdict, plot_view}

-- ---- objects

-- those that a call of `lttac` is handed: files and sinks, and no fabric
abbrev pub without_fabric : (files : FilesState) (out err : SinkState) → Objects
without_fabric files out err = record { files = files; fabric = (alone files).fabric; out = out; err = err }

-- this is so of what such objects hold before and after a call, which ends so
abbrev pub BetweenFiles : {F O E S : Type 0} (files : F → FilesState) (out : O → SinkState) (err : E → SinkState) → (Objects → Objects → S → Type 0) → (old new : F × O × E) → S → Type 0
BetweenFiles files out err does old new ends = does (without_fabric (files old.0) (out old.1) (err old.2)) (without_fabric (files new.0) (out new.1) (err new.2)) ends

-- ---- commands

-- a command on these files; without a loss nothing is lost
abbrev pub lttac_verdict : (named : List ℕ → Option (List ℕ)) → LttacSaid → Verdict (List ℕ) Refusal
lttac_verdict named (emit header program config node) = answer_verdict emit_refusal (λ text. text) (emit_verdict named header program config node)
lttac_verdict named (schedule program inputs config seed horizon jitter loss) = text_verdict (λ text. text) (schedule_verdict named program inputs config (unwrap_or loss 0) seed horizon jitter)
lttac_verdict named (draw program inputs events config node from to width) = text_verdict (λ text. text) (draw_verdict named program inputs events config node (draw_view from to width))
lttac_verdict named (plot program inputs along observer from to width) = answer_verdict watch_refusal (λ text. text) (plot_verdict named program inputs along observer (plot_view from to width))

-- the files of a command, in their order, and how far each may be read
abbrev pub lttac_said_errands : LttacSaid → List Errand
lttac_said_errands (emit header program config node) = check_errands program (Some config)
lttac_said_errands (schedule program inputs config seed horizon jitter loss) = load_errands program inputs (Some config)
lttac_said_errands (draw program inputs events config place from to width) = draw_errands program inputs events config
lttac_said_errands (plot program inputs along observer from to width) = plot_errands program inputs along observer

-- words that say no command have none
abbrev pub lttac_errands : Option LttacSaid → List Errand
lttac_errands None = []
lttac_errands (Some said) = lttac_said_errands said

-- of the words a command's text or refusal, or that they say none
abbrev pub lttac_asked_verdict : (named : List ℕ → Option (List ℕ)) → Option LttacSaid → Verdict (List ℕ) Refusal
lttac_asked_verdict named None outcome = outcome ≡ Err LttacWords
lttac_asked_verdict named (Some said) outcome = lttac_verdict named said outcome

unfoldable pub lttac_words_verdict : (named : List ℕ → Option (List ℕ)) → (words : List (List ℕ)) → Verdict (List ℕ) Refusal
lttac_words_verdict named words = lttac_asked_verdict named (lttac_command_of words)

-- what a command answers on files: its text, or its refusal
abbrev pub AnswersLttac : LttacSaid → (old new : FilesState) → Result (List ℕ) (Or Refusal) → Type 0
AnswersLttac said old new result = AnsweredOnFiles blame_of (lttac_said_errands said) (lttac_verdict old.named said) old new result

-- ---- calls

-- what a call does with these files and this verdict on its text
pub record DoesErrands (errands : List Errand) (V : Verdict (List ℕ) Refusal) (old new : Objects) (ends : Status) : Type 0 where
  pub ran : Ran V old new ends
  pub visits : Visits errands old new ends

-- the words say no command only where the status says that they are wrong, or a write failed or memory was wanting
abbrev pub EndsUnsaid : Option LttacSaid → Status → Type 0
EndsUnsaid said ends = said ≡ None → (ends ≡ status.Words) ⊎ (ends ≡ status.Write) ⊎ (ends ≡ status.Memory)

-- what a call does that is asked for this by its words
pub record LttacAsked (words : List (List ℕ)) (old new : Objects) (ends : Status) : Type 0 where
  pub does : DoesErrands (lttac_errands (lttac_command_of words)) (lttac_words_verdict old.files.named words) old new ends
  pub unsaid : EndsUnsaid (lttac_command_of words) ends

-- the same of a call on objects of these types, whose states these functions read off them
abbrev pub LttacAskedOn : {F O E : Type 0} (files : F → FilesState) (out : O → SinkState) (err : E → SinkState) → (words : List (String Global)) → (old new : F × O × E) → Status → Type 0
LttacAskedOn files out err words old new ends = BetweenFiles files out err (LttacAsked (map string_bytes words)) old new ends

-- and of what it does for a command
abbrev pub LttacObeysOn : {F O E : Type 0} (files : F → FilesState) (out : O → SinkState) (err : E → SinkState) → LttacCommand → (old new : F × O × E) → Status → Type 0
LttacObeysOn files out err command old new ends =
    BetweenFiles files out err (λ before after. DoesErrands (lttac_said_errands (lttac_said_of command)) (lttac_verdict before.files.named (lttac_said_of command)) before after) old new ends
