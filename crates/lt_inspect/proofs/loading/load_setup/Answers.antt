use Rattle.std.specs.Prelude.{option_map}
use Rattle.lt_front.specs.Checked.{examined_part}
use Rattle.lt_load.specs.Errands.{inputs_errand}
use Rattle.lt_load.proofs.Steps.{counts_on}
use Rattle.lt_inspect.specs.Scenes.{placed_plan_verdict}
use Rattle.lt_inspect.specs.Stages.{setup_stage_verdict, taken_config_verdict}
use Rattle.lt_inspect.proofs.Staging.{refused_stage, next_stage}
use Rattle.lt_inspect.proofs.loading.load_setup.Goals as goal

pub returns-in_err-setup : goal.returns-in_err-setup
unfolding setup_stage_verdict
returns-in_err-setup g c =
    let node = option_map (λ s. s.now) c.args.node in
    refused_stage node (taken_config_verdict c.args.setups ((g.F.Files.state c.args.files.now).named c.args.config.now))
    (λ names setup. placed_plan_verdict names c.args.inputs.now node (examined_part c.args.checked.now) setup) _ _ (inputs_errand c.args.inputs.now) _ _ c.from_residual.ensures.1 c.in_err-setup.ensures.reads

pub load_placed-requires-clause-count : goal.load_placed-requires-clause-count
load_placed-requires-clause-count g c = counts_on _ _ c.in_ok-setup.ensures.reads.cause.files c.requires

pub returns : goal.returns
unfolding setup_stage_verdict
returns g c =
    let node = option_map (λ s. s.now) c.args.node in
    next_stage node (taken_config_verdict c.args.setups ((g.F.Files.state c.args.files.now).named c.args.config.now))
    (λ names setup. placed_plan_verdict names c.args.inputs.now node (examined_part c.args.checked.now) setup) _ _ c.in_ok-setup.setup _ c.in_ok-setup.ensures.reads _ c.load_placed.ensures
