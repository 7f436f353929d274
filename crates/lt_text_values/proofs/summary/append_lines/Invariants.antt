use Rattle.std.proofs.Common.{◌≡◌, ◌++◌, take}
use Rattle.lt_text_values.specs.OutputLines.{summary_lines}
use Rattle.lt_text_values.proofs.summary.append_lines.Given as goal

abbrev pub invariant-loop-output : goal.invariant-loop-output
invariant-loop-output l = l.text ≡ l.initial.text ++ summary_lines (take l.output l.names) l.cells
