use Rattle.clap.specs.Words.{with_rule}
use Rattle.lt_words.proofs.Steps.{taken}
use Rattle.lt_words.proofs.commands.plot.Goals as goal

pub returns : goal.returns
returns c =
    c.with_window.ensures _
    (taken _ with_rule _ _ _ _ c.with_argument-command-2.ensures c.name.ensures.rule
    (taken _ with_rule _ _ _ _ c.with_argument-command.ensures c.both_texts.ensures.rule
    c.command_on_inputs.ensures))
