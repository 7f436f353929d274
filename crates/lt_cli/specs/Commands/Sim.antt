-- `sim`: a schedule that a seed draws within the bounds of a setup.
use Rattle.std.specs.Prelude.{ℕ, List, Some}
use Rattle.lt_io.specs.FabricState.{FabricState}
use Rattle.lt_io.specs.FilesState.{FilesState}
use Rattle.lt_io.specs.SinkState.{SinkState}
use Rattle.lt_load.specs.Errands.{load_errands}
pub use Rattle.lt_text_answers.specs.Draws.{sim_verdict}
use Rattle.lt_text_answers.specs.declared.status.Status.{Status}
use Rattle.lt_text_answers.specs.Texts.{drawing_text}
use Rattle.lt_cli.specs.Answers.{text_verdict}
use Rattle.lt_cli.specs.Objects.{objects}
use Rattle.lt_cli.specs.Obeys.{ObeysErrands}

-- the program, the setup and the inputs are read: `out` takes the schedule as it is drawn, or `err` the line of the first refusal. This is so
-- whatever fabric there is, which is not touched. What the objects hold is read off them by these three functions
abbrev pub ObeysSim : {F O E : Type 0} (files : F → FilesState) (out : O → SinkState) (err : E → SinkState) (program inputs config : List ℕ) (seed horizon : ℕ) (f f' : F) (o o' : O) (e e' : E) → (ends : Status) → Type 0
ObeysSim files out err program inputs config seed horizon f f' o o' e e' ends =
    (fabric : FabricState) → ObeysErrands (load_errands program inputs (Some config)) (text_verdict drawing_text (sim_verdict (files f).named program inputs config seed horizon)) (objects (files f) fabric (out o) (err e)) (objects (files f') fabric (out o') (err e')) ends
