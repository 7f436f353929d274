use Rattle.clap.specs.Words.{with_rule}
use Rattle.lt_words.proofs.Steps.{taken}
use Rattle.lt_words.proofs.commands.with_window.Goals as goal

pub returns : goal.returns
returns c = λ said made.
    taken _ with_rule _ _ _ _ c.with_argument.ensures c.ranged_number.ensures.rule
    (taken _ with_rule _ _ _ _ c.with_argument-command-2.ensures c.number-2.ensures.rule
    (taken _ with_rule _ _ _ _ c.with_argument-command.ensures c.number.ensures.rule
    made))
