use Rattle.lt_text_answers.specs.Texts.{audited_text}
use Rattle.lt_cli.proofs.Texts.{is_text_of}
use Rattle.lt_cli.proofs.commands.audit.audit.Goals as goal

pub returns : goal.returns
returns g c = is_text_of audited_text _ _ _ c.audit-audited.result c.audit_text.result c.audit_text.ensures c.audit-audited.ensures
