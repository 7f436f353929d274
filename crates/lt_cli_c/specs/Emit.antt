-- `emit`: the C of a node of a placed program.
use Rattle.std.specs.Prelude.{ℕ, Bool, List, Some, Result, Ok, Err}
use Rattle.lt_base.specs.declared.memory.Or.{Or}
use Rattle.lt_base.specs.declared.memory.Or.TheVariants.{Fault, Memory}
use Rattle.lt_io.specs.FilesState.{FilesState}
use Rattle.lt_answer.specs.Alone.{AnsweredOnFiles}
use Rattle.lt_load.specs.Errands.{check_errands}
use Rattle.lt_emit.specs.declared.fault.EmitFault.{EmitFault}
use Rattle.lt_emit.specs.declared.fault.EmitFault.TheVariants as fault
pub use Rattle.lt_emit.specs.Emitted.{emit_verdict}
use Rattle.lt_text_answers.specs.declared.refusal.Refusal.{Refusal}
use Rattle.lt_text_answers.specs.declared.refusal.Refusal.TheVariants.{NoNode, Command}
use Rattle.lt_text_answers.specs.Blamed.{blame_of}
use Rattle.lt_cli.specs.Answers.{answer_verdict}

-- why no C is emitted, as a refusal
abbrev pub emit_refusal : EmitFault → Refusal
emit_refusal (fault.Command f) = Command f
emit_refusal (fault.NoNode name) = NoNode name

-- what was emitted, or its fault as a refusal
abbrev pub emit_reply : Result (List ℕ) (Or EmitFault) → Result (List ℕ) (Or Refusal)
emit_reply (Ok text) = Ok text
emit_reply (Err (Fault f)) = Err (Fault (emit_refusal f))
emit_reply (Err Memory) = Err Memory

-- the program is read, and then the setup: the C of the node, or its header alone, or the first refusal
abbrev pub AnswersEmit : (header : Bool) (program config node : List ℕ) (old new : FilesState) → Result (List ℕ) (Or Refusal) → Type 0
AnswersEmit header program config node old new result = AnsweredOnFiles blame_of (check_errands program (Some config)) (answer_verdict emit_refusal (λ text. text) (emit_verdict old.named header program config node)) old new result
