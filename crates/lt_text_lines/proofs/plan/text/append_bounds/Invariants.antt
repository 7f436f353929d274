use Rattle.std.proofs.Common.{◌≡◌, ◌++◌}
use Rattle.lt_text_lines.specs.PlanText.{titled, bound_lines}
use Rattle.lt_text_lines.proofs.plan.text.append_bounds.Given as goal

abbrev pub invariant-loop-node : goal.invariant-loop-node
invariant-loop-node l = l.text ≡ l.initial.text ++ titled (bound_lines l.timing l.horizon) l.titles l.node
