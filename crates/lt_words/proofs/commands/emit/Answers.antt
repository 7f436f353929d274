use Rattle.clap.specs.Words.{with_rule}
use Rattle.lt_words.proofs.Steps.{taken}
use Rattle.lt_words.proofs.commands.emit.Goals as goal

pub returns : goal.returns
returns c =
    taken _ with_rule _ _ _ _ c.with_argument.ensures c.flag.ensures.rule
    (taken _ with_rule _ _ _ _ c.with_argument-command-3.ensures c.text-3.ensures.rule
    (taken _ with_rule _ _ _ _ c.with_argument-command-2.ensures c.text-2.ensures.rule
    (taken _ with_rule _ _ _ _ c.with_argument-command.ensures c.text.ensures.rule
    c.plain.ensures)))
