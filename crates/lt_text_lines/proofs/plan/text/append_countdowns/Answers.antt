use Rattle.std.proofs.Common.{◌≡◌, ◌++◌, codes, ap, ◌∙◌}
use Rattle.lt_timing.specs.Least.{least_send, least_execute}
use Rattle.lt_text_lines.specs.PlanText.{plan_line}
use Rattle.lt_text_lines.proofs.PlanLines.{on_ok, two_lines}
use Rattle.lt_text_lines.proofs.plan.text.append_countdowns.Goals as goal

pub returns : goal.returns
returns c =
    let t = c.args.timing.now in let n = c.args.node in let title = c.args.title.now in let start = c.args.text.now in
    let one = c.append_line.new.text in
    let first = ap (λ k. start ++ plan_line title (codes "least execute ") k) c.least-send.ensures.execute in
    let second = ap (λ k. one ++ plan_line title (codes "least send ") k) c.least-send.ensures.send in
    on_ok c.append_line-2.result
    (λ e. two_lines start one c.append_line-2.new.text (plan_line title (codes "least execute ") (least_execute t n)) (plan_line title (codes "least send ") (least_send t n)) (c.in_ok-append_line.ensures ∙ first) (e ∙ second))
    c.append_line-2.ensures
