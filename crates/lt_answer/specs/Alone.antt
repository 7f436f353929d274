-- What a step answers over files alone, and words that need not be there.
use Rattle.std.specs.Prelude.{ℕ, List, Option, option_map, Result}
use Rattle.std.specs.Borrow.{Bor}
use Rattle.lt_base.specs.declared.memory.Or.{Or}
use Rattle.lt_io.specs.Visits.{Errand}
use Rattle.lt_io.specs.FilesState.{FilesState}
use Rattle.lt_answer.specs.World.{Blame, alone}
use Rattle.lt_answer.specs.Answered.{Answered, Verdict}

-- what a step answers that is handed files and no fabric
abbrev pub AnsweredOnFiles : {T E : Type 0} (blame : E → Blame) (errands : List Errand) (V : Verdict T E) (old new : FilesState) (result : Result T (Or E)) → Type 0
AnsweredOnFiles blame errands V old new result = Answered blame errands V (alone old) (alone new) result

-- a word that need not be there
abbrev pub given_word : Option (Bor (List ℕ)) → Option (List ℕ)
given_word word = option_map (λ s. s.now) word
