use Rattle.std.proofs.Common.{◌≡◌, ◌++◌, ap, ◌∙◌}
use Rattle.lt_text_lines.specs.PlanText.{bound_lines}
use Rattle.lt_text_lines.proofs.PlanLines.{one_block}
use Rattle.lt_text_lines.proofs.plan.text.append_bounds.Goals as goal

pub loop-node-preserved : goal.loop-node-preserved
loop-node-preserved c =
    let block = bound_lines c.args.timing.now c.args.horizon in let text = c.loop-node.text in let n = c.loop-node.node in
    one_block block c.args.titles.now c.args.text.now text c.append_bound.new.text n c.index-titles-node.result c.loop-node-test.true c.loop-node.invariant
    (c.in_ok-append_bound.ensures ∙ ap (λ title. text ++ block title n) c.index-titles-node.is)
