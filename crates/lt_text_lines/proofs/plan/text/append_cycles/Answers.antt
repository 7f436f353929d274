use Rattle.std.proofs.Common.{◌≡◌, ◌++◌, codes, ap, ◌∙◌}
use Rattle.lt_timing.specs.Bounds.{back_pressure_cycle}
use Rattle.lt_text_lines.specs.PlanNumbers.{node_least_cycle}
use Rattle.lt_text_lines.specs.PlanText.{plan_line}
use Rattle.lt_text_lines.proofs.PlanLines.{on_ok, two_lines}
use Rattle.lt_text_lines.proofs.plan.text.append_cycles.Goals as goal

pub returns : goal.returns
returns c =
    let t = c.args.timing.now in let n = c.args.node in let title = c.args.title.now in let start = c.args.text.now in
    let one = c.append_line.new.text in
    let first = ap (λ k. start ++ plan_line title (codes "timebased cycle ") k) c.least_cycle-time_based.ensures.value in
    let second = ap (λ k. one ++ plan_line title (codes "backpressure cycle ") k) c.back_pressure_cycle-back_pressure.ensures in
    on_ok c.append_line-2.result
    (λ e. two_lines start one c.append_line-2.new.text (plan_line title (codes "timebased cycle ") (node_least_cycle t n)) (plan_line title (codes "backpressure cycle ") (back_pressure_cycle t)) (c.in_ok-append_line.ensures ∙ first) (e ∙ second))
    c.append_line-2.ensures
