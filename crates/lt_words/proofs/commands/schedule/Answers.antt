use Rattle.clap.specs.Words.{with_rule}
use Rattle.lt_words.proofs.Steps.{taken}
use Rattle.lt_words.proofs.commands.schedule.Goals as goal

pub returns : goal.returns
returns c =
    taken _ with_rule _ _ _ _ c.with_argument.ensures c.number-2.ensures.rule
    (taken _ with_rule _ _ _ _ c.with_argument-command-3.ensures c.number.ensures.rule
    (taken _ with_rule _ _ _ _ c.with_argument-command-2.ensures c.needed_number-2.ensures.rule
    (taken _ with_rule _ _ _ _ c.with_argument-command.ensures c.needed_number.ensures.rule
    c.command_on_setup.ensures)))
