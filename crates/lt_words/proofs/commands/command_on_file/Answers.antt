use Rattle.clap.specs.Words.{with_rule}
use Rattle.lt_words.proofs.Steps.{taken}
use Rattle.lt_words.proofs.commands.command_on_file.Goals as goal

pub returns : goal.returns
returns c =
    taken _ with_rule _ _ _ _ c.with_argument.ensures c.text.ensures.rule c.command_on_schedule.ensures
