use Rattle.lt_cli.proofs.Texts.{is_text_of}
use Rattle.lt_cli_c.proofs.commands.schedule.schedule.Goals as goal

pub returns : goal.returns
returns g c = (is_text_of (λ text. text) _ _ _ c.schedule-drawn.result c.command_text.result c.command_text.ensures c.schedule-drawn.ensures).answered
