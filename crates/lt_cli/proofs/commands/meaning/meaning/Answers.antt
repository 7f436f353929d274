use Rattle.lt_text_answers.specs.Replies.{printed_text}
use Rattle.lt_cli.proofs.Texts.{is_text_of}
use Rattle.lt_cli.proofs.commands.meaning.meaning.Goals as goal

pub returns : goal.returns
returns g c = is_text_of printed_text _ _ _ c.meaning-found.result c.outputs_text.result c.outputs_text.ensures c.meaning-found.ensures
