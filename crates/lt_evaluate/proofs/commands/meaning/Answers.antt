use Rattle.lt_load.specs.Blamed.{command_blame}
use Rattle.lt_load.specs.Errands.{inputs_errand}
use Rattle.lt_load.specs.Loaded.{program_verdict}
use Rattle.lt_evaluate.specs.Meaning.{inputs_streams_verdict, meaning_verdict}
use Rattle.lt_load.proofs.Steps.{counts_on, refused_step, next_step}
use Rattle.lt_evaluate.proofs.commands.meaning.Goals as goal

pub returns-in_err-checked : goal.returns-in_err-checked
unfolding meaning_verdict
returns-in_err-checked g c =
    refused_step command_blame (program_verdict ((g.F.Files.state c.args.files.now).named c.args.program.now)) (λ names checked. inputs_streams_verdict names c.args.inputs.now checked) _ _ (inputs_errand c.args.inputs.now) _ _
    c.from_residual.ensures.1 c.in_err-checked.ensures

pub mean-requires : goal.mean-requires
mean-requires g c = counts_on _ _ c.in_ok-checked.ensures.cause.files c.requires

pub returns : goal.returns
unfolding meaning_verdict
returns g c =
    next_step command_blame (program_verdict ((g.F.Files.state c.args.files.now).named c.args.program.now)) (λ names checked. inputs_streams_verdict names c.args.inputs.now checked) _ _ c.in_ok-checked.checked _
    c.in_ok-checked.ensures _ c.mean.ensures
