use Rattle.lt_front.specs.Checked.{examined_part}
use Rattle.lt_load.specs.Errands.{inputs_errand}
use Rattle.lt_load.specs.Pacing.{plain_config_verdict, plain_setup_plan_verdict}
use Rattle.lt_load.specs.Plan.{fitting_plan_verdict}
use Rattle.lt_load.proofs.Planned.{refused_load, next_load}
use Rattle.lt_load.proofs.Steps.{counts_on}
use Rattle.lt_load.proofs.pacing.load_plain_setup.Goals as goal

pub returns-in_err-setup : goal.returns-in_err-setup
unfolding plain_setup_plan_verdict
returns-in_err-setup g c =
    refused_load (plain_config_verdict ((g.F.Files.state c.args.files.now).named c.args.config.now))
    (λ names setup. fitting_plan_verdict names c.args.inputs.now (examined_part c.args.checked) setup) _ _ (inputs_errand c.args.inputs.now) _ _ c.from_residual.ensures.1 c.in_err-setup.ensures

pub load_fitting-requires : goal.load_fitting-requires
load_fitting-requires g c = counts_on _ _ c.in_ok-setup.ensures.cause.files c.requires

pub returns : goal.returns
unfolding plain_setup_plan_verdict
returns g c =
    next_load (plain_config_verdict ((g.F.Files.state c.args.files.now).named c.args.config.now))
    (λ names setup. fitting_plan_verdict names c.args.inputs.now (examined_part c.args.checked) setup) _ _ c.in_ok-setup.setup _ c.in_ok-setup.ensures _ c.load_fitting.ensures
