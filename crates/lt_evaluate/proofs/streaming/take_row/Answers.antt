use Rattle.std.proofs.Common.{◌≡◌, ◌∙◌, length, sym, ap, subst, arith}
use Rattle.std.proofs.lemmas.List.{take_at}
use Rattle.lt_machine.specs.Follows.{Follows}
use Rattle.lt_evaluate.proofs.Longer.{pushed_streams}
use Rattle.lt_evaluate.proofs.streaming.take_row.Goals as goal

pub returns-clause-columns : goal.returns-clause-columns
returns-clause-columns g c = λ f rows stands before.
    let numbers = g.met.M.Machine.numbers c.args.machine.now f rows stands in
    let kept = c.step.auto.outs in
    let size = c.deref_mut.ensures.len in
    let cells : c.deref.result.now ≡ c.step.new.outs = c.deref.ensures.value ∙ take_at c.step.new.outs _ _ (omega (arith, kept, size)) in
    let front = ap length c.deref_mut.ensures.value in
    let room = c.requires.outs in
    let outputs = numbers.1 in
    let wide : length c.step.new.outs ≡ length f.outs = omega (arith, kept, front, room, outputs) in
    let follows = subst (λ cs. Follows f rows c.args.values.now cs) (sym cells) (c.step.ensures.outs f rows stands) in
    pushed_streams f rows c.args.values.now c.deref.result.now c.args.columns.now.items c.push_cells.new.columns.items follows (ap length cells ∙ wide) before c.in_ok-push_cells.ensures.size c.in_ok-push_cells.ensures.pushed
