use Rattle.lt_cli.proofs.Texts.{is_text_of}
use Rattle.lt_cli.proofs.commands.trace.trace.Goals as goal

pub returns : goal.returns
returns g c = is_text_of (λ text. text) _ _ _ c.trace-text.result c.trace_text.result c.trace_text.ensures c.trace-text.ensures
