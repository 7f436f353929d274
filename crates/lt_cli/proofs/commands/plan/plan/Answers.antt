use Rattle.lt_text_lines.specs.PlanText.{plan_of}
use Rattle.lt_cli.specs.Commands.Plan.{plan_verdict}
use Rattle.lt_cli.proofs.Texts.{is_text_of}
use Rattle.lt_cli.proofs.commands.plan.plan.Goals as goal

pub returns : goal.returns
returns g c =
    is_text_of (λ setup. plan_of setup c.args.horizon) (plan_verdict (g.F.Files.state c.args.files.now).named c.args.config.now) _ _ c.load_config-setup.result c.plan_text.result c.plan_text.ensures c.load_config-setup.ensures
