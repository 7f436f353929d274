use Rattle.std.proofs.Common.{[], Ok, refl, sym, ap}
use Rattle.lt_answer.specs.Rules.{Exactly}
use Rattle.lt_front.specs.Checked.{CheckedText}
use Rattle.lt_load.specs.Blamed.{command_blame}
use Rattle.lt_load.specs.Loaded.{inputs_verdict}
use Rattle.lt_load.specs.Plan.{LoadedPlan}
use Rattle.lt_load.specs.Sites.{loaded_of, sited_verdict}
use Rattle.lt_load.proofs.Equals.{inputs_at, fit_at}
use Rattle.lt_load.proofs.Steps.{refused_step, last_step}
use Rattle.lt_load.proofs.planning.load_rows.Goals as goal

pub returns-in-Err : goal.returns-in-Err
unfolding sited_verdict
returns-in-Err g c =
    let k = c.args.checked in
    refused_step command_blame (inputs_verdict k.program ((g.F.Files.state c.args.files.now).named c.args.inputs.now)) (λ names table. Exactly (Ok (loaded_of k c.args.site table))) _ _ [] _ _ refl
    (inputs_at _ _ (ap (λ (t : CheckedText). t.program) c.checked.view_is) _ _ _ _ c.in-Err.ensures.answered)

pub with_inputs-requires-clause-fit : goal.with_inputs-requires-clause-fit
with_inputs-requires-clause-fit g c = fit_at _ _ (ap (λ (t : CheckedText). t.program) c.checked.view_is) c.in-Ok.table c.in-Ok.ensures.fit

pub returns-in-Ok : goal.returns-in-Ok
unfolding sited_verdict
returns-in-Ok g c =
    let k = c.args.checked in
    last_step command_blame (inputs_verdict k.program ((g.F.Files.state c.args.files.now).named c.args.inputs.now)) (λ names table. Exactly (Ok (loaded_of k c.args.site table))) _ _ c.in-Ok.table (Ok c.with_inputs.result)
    (inputs_at _ _ (ap (λ (t : CheckedText). t.program) c.checked.view_is) _ _ _ _ c.in-Ok.ensures.answered) (λ e wrong. cc) (ap (λ (t : LoadedPlan). Ok t) (sym c.with_inputs.ensures))
