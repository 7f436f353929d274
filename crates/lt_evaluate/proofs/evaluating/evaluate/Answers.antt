use Rattle.std.proofs.Common.{sym, ap, subst}
use Rattle.lt_base.specs.Program.{WholeProgram}
use Rattle.lt_front.specs.Checked.{CheckedText}
use Rattle.lt_front.specs.Flattened.{KeepsMain}
use Rattle.lt_base.specs.Main.{HasOutputStreams}
use Rattle.lt_load.proofs.Equals.{fit_at}
use Rattle.lt_load.proofs.Flattens.{code_room, wide_rows, width_is}
use Rattle.lt_evaluate.proofs.Streams.{main_streams}
use Rattle.lt_evaluate.proofs.evaluating.evaluate.Goals as goal

pub evaluate_flat-requires-clause-compilable : goal.evaluate_flat-requires-clause-compilable
evaluate_flat-requires-clause-compilable c =
    let keeps : KeepsMain c.checked.inside.program c.checked.inside.flat = c.checked.invariant.keeps in
    record { typed = keeps.typed; clocked = keeps.clocked; causal = keeps.causal; room = code_room c.checked.inside.program c.checked.inside.flat keeps }

pub evaluate_flat-requires-clause-width : goal.evaluate_flat-requires-clause-width
evaluate_flat-requires-clause-width c =
    let fit = fit_at _ _ (sym (ap (λ (t : CheckedText). t.program) c.checked.view_is)) c.args.inputs.now c.requires in
    width_is c.checked.inside.program c.invariant_holds-2.ensures c.checked.inside.flat c.checked.invariant.keeps c.args.inputs.now fit

pub evaluate_flat-requires-clause-rows : goal.evaluate_flat-requires-clause-rows
evaluate_flat-requires-clause-rows c =
    let fit = fit_at _ _ (sym (ap (λ (t : CheckedText). t.program) c.checked.view_is)) c.args.inputs.now c.requires in
    wide_rows c.checked.inside.program c.invariant_holds-2.ensures c.checked.inside.flat c.checked.invariant.keeps c.args.inputs.now fit

pub returns : goal.returns
returns c =
    let rows = c.args.inputs.now.rows in
    let columns = c.in_ok-evaluated.evaluated.columns in
    subst (λ (p : WholeProgram). HasOutputStreams p rows columns) (ap (λ (t : CheckedText). t.program) c.checked.view_is)
    (main_streams c.checked.inside.program c.invariant_holds-2.ensures c.checked.inside.flat c.checked.invariant.keeps rows columns c.in_ok-evaluated.ensures.columns)
