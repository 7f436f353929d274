use Rattle.std.proofs.Common.{◌++◌}
use Rattle.std.specs.Prelude.{option_map}
use Rattle.lt_front.specs.Checked.{examined_part}
use Rattle.lt_load.specs.Errands.{setup_errand, inputs_errand}
use Rattle.lt_load.specs.Loaded.{program_verdict}
use Rattle.lt_load.specs.Plan.{setup_plan_verdict, load_verdict}
use Rattle.lt_load.proofs.Flats.{flat_value, flat_fault}
use Rattle.lt_load.proofs.Planned.{refused_load, next_load}
use Rattle.lt_load.proofs.Steps.{counts_on}
use Rattle.lt_load.proofs.planning.load.Goals as goal

pub returns-in_err-checked : goal.returns-in_err-checked
unfolding load_verdict
returns-in_err-checked g c =
    refused_load (program_verdict ((g.F.Files.state c.args.files.now).named c.args.program.now))
    (λ names checked. setup_plan_verdict names c.args.inputs.now (option_map (λ s. s.now) c.args.config) checked) _ _ (setup_errand (option_map (λ s. s.now) c.args.config) ++ inputs_errand c.args.inputs.now) _ _ c.from_residual.ensures.1 (flat_fault _ _ _ _ c.in_err-checked.ensures)

pub load_setup-requires : goal.load_setup-requires
load_setup-requires g c = counts_on _ _ c.in_ok-checked.ensures.cause.files c.requires

pub returns : goal.returns
unfolding load_verdict
returns g c =
    next_load (program_verdict ((g.F.Files.state c.args.files.now).named c.args.program.now))
    (λ names checked. setup_plan_verdict names c.args.inputs.now (option_map (λ s. s.now) c.args.config) checked) _ _ (examined_part c.in_ok-checked.checked) _
    (flat_value _ _ _ _ c.in_ok-checked.ensures) _ c.load_setup.ensures
