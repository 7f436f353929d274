use Rattle.lt_text_answers.specs.Replies.{printed_text}
use Rattle.lt_cli.proofs.Texts.{is_text_of}
use Rattle.lt_cli.proofs.commands.run.run.Goals as goal

pub returns-clause-answers : goal.returns-clause-answers
returns-clause-answers g c = is_text_of printed_text _ _ _ c.run-found.result c.outputs_text.result c.outputs_text.ensures c.run-found.ensures.answered
