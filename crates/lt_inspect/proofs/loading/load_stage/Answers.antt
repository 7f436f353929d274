use Rattle.std.specs.Prelude.{option_map}
use Rattle.lt_front.specs.Checked.{examined_part}
use Rattle.std.proofs.Common.{◌++◌}
use Rattle.lt_load.specs.Errands.{config_errand, inputs_errand}
use Rattle.lt_load.specs.Loaded.{program_verdict}
use Rattle.lt_load.proofs.Flats.{flat_value, flat_fault}
use Rattle.lt_load.proofs.Steps.{counts_on}
use Rattle.lt_inspect.specs.Stages.{stage_verdict, setup_stage_verdict}
use Rattle.lt_inspect.proofs.Staging.{refused_stage, next_stage}
use Rattle.lt_inspect.proofs.loading.load_stage.Goals as goal

pub returns-in_err-checked : goal.returns-in_err-checked
unfolding stage_verdict
returns-in_err-checked g c =
    let node = option_map (λ s. s.now) c.args.node in
    refused_stage node (program_verdict ((g.F.Files.state c.args.files.now).named c.args.program.now))
    (λ names checked. setup_stage_verdict c.args.setups names c.args.inputs.now c.args.config.now node checked) _ _ (config_errand c.args.config.now ++ inputs_errand c.args.inputs.now) _ _ c.from_residual.ensures.1 (flat_fault _ _ _ _ c.in_err-checked.ensures)

pub load_setup-stage-requires : goal.load_setup-stage-requires
load_setup-stage-requires g c = counts_on _ _ c.in_ok-checked.ensures.cause.files c.requires

pub returns : goal.returns
unfolding stage_verdict
returns g c =
    let node = option_map (λ s. s.now) c.args.node in
    next_stage node (program_verdict ((g.F.Files.state c.args.files.now).named c.args.program.now))
    (λ names checked. setup_stage_verdict c.args.setups names c.args.inputs.now c.args.config.now node checked) _ _ (examined_part c.in_ok-checked.checked) _
    (flat_value _ _ _ _ c.in_ok-checked.ensures) _ c.load_setup-stage.ensures
