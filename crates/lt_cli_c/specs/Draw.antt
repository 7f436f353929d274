-- `draw`: a picture of a schedule.
use Rattle.std.specs.Prelude.{ℕ, List, Option, Result}
use Rattle.lt_base.specs.declared.memory.Or.{Or}
use Rattle.lt_io.specs.FilesState.{FilesState}
use Rattle.lt_answer.specs.Alone.{AnsweredOnFiles}
use Rattle.lt_drawing.specs.declared.view.DrawView.{DrawView}
pub use Rattle.lt_drawing.specs.Drawn.{draw_errands, draw_verdict}
use Rattle.lt_text_answers.specs.declared.refusal.Refusal.{Refusal}
use Rattle.lt_text_answers.specs.Blamed.{blame_of}
use Rattle.lt_cli.specs.Answers.{text_verdict}

-- from one tick to another, and so wide, where the words say so
abbrev pub draw_view : (from to width : Option ℕ) → DrawView
draw_view from to width = record { from = from; to = to; width = width }

-- the program, the setup, the inputs and the schedule are read: the text of the picture, or the first refusal
abbrev pub AnswersDraw : (program inputs schedule config : List ℕ) (node : Option (List ℕ)) → DrawView → (old new : FilesState) → Result (List ℕ) (Or Refusal) → Type 0
AnswersDraw program inputs schedule config node view old new result =
    AnsweredOnFiles blame_of (draw_errands program inputs schedule config) (text_verdict (λ text. text) (draw_verdict old.named program inputs schedule config node view)) old new result
