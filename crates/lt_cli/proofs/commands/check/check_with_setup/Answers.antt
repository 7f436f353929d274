use Rattle.lt_load.specs.Setups.{with_setup_verdict}
use Rattle.lt_text_answers.specs.Replies.{checked_text}
use Rattle.lt_cli.proofs.Texts.{is_text_of}
use Rattle.lt_cli.proofs.commands.check.check_with_setup.Goals as goal

pub returns : goal.returns
returns g c =
    is_text_of checked_text (with_setup_verdict (g.F.Files.state c.args.files.now).named c.args.program.now c.args.config.now) _ _ c.check_with-checked.result c.setup_check_text.result c.setup_check_text.ensures c.check_with-checked.ensures
