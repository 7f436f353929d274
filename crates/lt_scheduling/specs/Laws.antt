-- What a schedule that is drawn by pace has to do with one that `sim` draws.
use Rattle.std.specs.Prelude.{ℕ, List, Option, None, Ok}
use Rattle.lt_answer.specs.Rules.{Shown}
use Rattle.lt_text_answers.specs.Draws.{sim_verdict}
use Rattle.lt_text_answers.specs.Texts.{drawing_text}
use Rattle.lt_scheduling.specs.Scheduled.{schedule_verdict}

-- where a text is right of `sim`, it is right with no loss and no jitter given
abbrev pub DrawsAsSim : Type 0
DrawsAsSim =
    (named : List ℕ → Option (List ℕ)) (program inputs config : List ℕ) (seed horizon : ℕ) (text : List ℕ) →
    Shown drawing_text (sim_verdict named program inputs config seed horizon) (Ok text) → schedule_verdict named program inputs config 0 seed horizon None (Ok text)
