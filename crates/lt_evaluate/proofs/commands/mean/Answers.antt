use Rattle.std.proofs.Common.{[], ap}
use Rattle.lt_front.specs.Examined.{ExaminedText}
use Rattle.lt_load.specs.Blamed.{command_blame}
use Rattle.lt_load.specs.Loaded.{inputs_verdict}
use Rattle.lt_evaluate.specs.Meaning.{streams_verdict, inputs_streams_verdict}
use Rattle.lt_evaluate.proofs.Contents.{streams_content}
use Rattle.lt_load.proofs.Equals.{inputs_at}
use Rattle.lt_load.proofs.Steps.{refused_step, last_step}
use Rattle.lt_evaluate.proofs.commands.mean.Goals as goal

pub returns-in_err-table : goal.returns-in_err-table
unfolding inputs_streams_verdict
returns-in_err-table g c =
    let k : ExaminedText = c.args.checked in
    refused_step command_blame (inputs_verdict k.program ((g.F.Files.state c.args.files.now).named c.args.inputs.now)) (λ names table. streams_verdict k table) _ _ [] _ _ c.from_residual.ensures.1
    (inputs_at _ _ (ap (λ (t : ExaminedText). t.program) c.checked.view_is) _ _ _ _ c.in_err-table.ensures.answered)

pub returns : goal.returns
unfolding inputs_streams_verdict
returns g c =
    let k : ExaminedText = c.args.checked in
    last_step command_blame (inputs_verdict k.program ((g.F.Files.state c.args.files.now).named c.args.inputs.now)) (λ names table. streams_verdict k table) _ _ c.in_ok-table.table _
    (inputs_at _ _ (ap (λ (t : ExaminedText). t.program) c.checked.view_is) _ _ _ _ c.in_ok-table.ensures.answered) (streams_content k c.in_ok-table.table) c.streams.ensures
