use Rattle.std.proofs.Common.{[]}
use Rattle.lt_front.specs.Checked.{examined_part}
use Rattle.lt_load_fit.specs.Fits.{fitting_verdict}
use Rattle.lt_load.specs.Blamed.{command_blame}
use Rattle.lt_load.specs.Loaded.{config_verdict}
use Rattle.lt_load.specs.Setups.{fitted_verdict}
use Rattle.lt_load.proofs.Contents.{fitting_content}
use Rattle.lt_load.proofs.Steps.{refused_step, last_step}
use Rattle.lt_load.proofs.setups.check_setup.Goals as goal

pub returns-in_err-setup : goal.returns-in_err-setup
unfolding fitted_verdict
returns-in_err-setup g c =
    refused_step command_blame (config_verdict ((g.F.Files.state c.args.files.now).named c.args.config.now)) (λ names setup. fitting_verdict (examined_part c.args.checked.now) setup) _ _ [] _ _
    c.from_residual.ensures.1 c.in_err-setup.ensures

pub returns : goal.returns
unfolding fitted_verdict
returns g c =
    last_step command_blame (config_verdict ((g.F.Files.state c.args.files.now).named c.args.config.now)) (λ names setup. fitting_verdict (examined_part c.args.checked.now) setup) _ _ c.in_ok-setup.setup _
    c.in_ok-setup.ensures (fitting_content (examined_part c.args.checked.now) c.in_ok-setup.setup) c.fitting.ensures
