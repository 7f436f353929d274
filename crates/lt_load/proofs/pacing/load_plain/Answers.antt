use Rattle.std.proofs.Common.{◌++◌}
use Rattle.lt_front.specs.Checked.{examined_part}
use Rattle.lt_load.specs.Errands.{config_errand, inputs_errand}
use Rattle.lt_load.specs.Loaded.{program_verdict}
use Rattle.lt_load.specs.Pacing.{plain_setup_plan_verdict, plain_load_verdict}
use Rattle.lt_load.proofs.Flats.{flat_value, flat_fault}
use Rattle.lt_load.proofs.Planned.{refused_load, next_load}
use Rattle.lt_load.proofs.Steps.{counts_on}
use Rattle.lt_load.proofs.pacing.load_plain.Goals as goal

pub returns-in_err-checked : goal.returns-in_err-checked
unfolding plain_load_verdict
returns-in_err-checked g c =
    refused_load (program_verdict ((g.F.Files.state c.args.files.now).named c.args.program.now))
    (λ names checked. plain_setup_plan_verdict names c.args.inputs.now c.args.config.now checked) _ _ (config_errand c.args.config.now ++ inputs_errand c.args.inputs.now) _ _ c.from_residual.ensures.1 (flat_fault _ _ _ _ c.in_err-checked.ensures)

pub load_plain_setup-requires : goal.load_plain_setup-requires
load_plain_setup-requires g c = counts_on _ _ c.in_ok-checked.ensures.cause.files c.requires

pub returns : goal.returns
unfolding plain_load_verdict
returns g c =
    next_load (program_verdict ((g.F.Files.state c.args.files.now).named c.args.program.now))
    (λ names checked. plain_setup_plan_verdict names c.args.inputs.now c.args.config.now checked) _ _ (examined_part c.in_ok-checked.checked) _
    (flat_value _ _ _ _ c.in_ok-checked.ensures) _ c.load_plain_setup.ensures
