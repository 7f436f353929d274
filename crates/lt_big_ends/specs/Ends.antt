-- How a call of `big` ends.
use Rattle.std.specs.Prelude.{◌≡◌, ◌≤◌, ℕ, List}
use Rattle.lt_base.specs.Limits.{most_rows}
use Rattle.lt_words.specs.Reading as said
use Rattle.lt_text_answers.specs.declared.status.Status.{Status}
use Rattle.lt_text_answers.specs.declared.status.Status.TheVariants as status
use Rattle.lt_cli.specs.Objects.{Objects}
use Rattle.lt_cli.specs.Clauses.{Asks, Performs}

-- whatever `ltta` does for words that ask for as many instants as the command takes: where no count of faults rises and memory is found,
-- the status says that all went well
abbrev pub BigEndsWell : Type 0
BigEndsWell =
    (asked : List (List ℕ)) (old new : Objects) (ends : Status) (instants : ℕ) → instants ≤ most_rows → Performs asked old new ends → Asks asked (said.big instants) old new ends (ends ≡ status.Ok)
