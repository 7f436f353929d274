use Rattle.std.proofs.Common.{◌≡◌, ◌++◌}
use Rattle.lt_text_lines.specs.PlanText.{titled, node_lines}
use Rattle.lt_text_lines.proofs.plan.text.append_numbers.Given as goal

abbrev pub invariant-loop-node : goal.invariant-loop-node
invariant-loop-node l = l.text ≡ l.initial.text ++ titled (node_lines l.timing) l.titles l.node
