-- `plot`: a picture of a program's outputs.
use Rattle.std.specs.Prelude.{ℕ, List, Option, Result}
use Rattle.lt_base.specs.declared.memory.Or.{Or}
use Rattle.lt_io.specs.FilesState.{FilesState}
use Rattle.lt_answer.specs.Alone.{AnsweredOnFiles}
use Rattle.lt_plotting.specs.declared.view.PlotView.{PlotView}
pub use Rattle.lt_plotting.specs.Plotted.{plot_errands, plot_verdict}
pub use Rattle.lt_plotting.specs.Words.{given_words}
use Rattle.lt_text_answers.specs.declared.refusal.Refusal.{Refusal}
use Rattle.lt_text_answers.specs.Blamed.{blame_of}
use Rattle.lt_text_answers.specs.Replies.{watch_refusal}
use Rattle.lt_cli.specs.Answers.{answer_verdict}

-- from one instant to another, and so wide, where the words say so
abbrev pub plot_view : (from to width : Option ℕ) → PlotView
plot_view from to width = record { from = from; to = to; width = width }

-- the program, the setup if there is one, the inputs, the observer and the schedule, if there are these, are read: the text of the picture, or the
-- first refusal
abbrev pub AnswersPlot : (program inputs : List ℕ) (along : Option (List ℕ × List ℕ)) (observer : Option (List ℕ)) → PlotView → (old new : FilesState) → Result (List ℕ) (Or Refusal) → Type 0
AnswersPlot program inputs along observer view old new result =
    AnsweredOnFiles blame_of (plot_errands program inputs along observer) (answer_verdict watch_refusal (λ text. text) (plot_verdict old.named program inputs along observer view)) old new result
