use Rattle.std.proofs.Common.{◌≡◌, ◌≤◌, ◌++◌, ℕ, [], take, length, get_or}
use Rattle.lt_text_values.specs.OutputLines.{outputs_text}
use Rattle.lt_text_values.proofs.outputs.append_outputs.Given as goal

-- the lines so far, and the columns that are still there
abbrev pub invariant-loop-output : goal.invariant-loop-output
invariant-loop-output l = record {
  text : l.text ≡ l.initial.text ++ outputs_text (take l.output l.names) l.fn.columns.items;
  size : length l.columns.items ≡ length l.fn.columns.items;
  rest : (i : ℕ) → l.output ≤ i → get_or l.columns.items i [] ≡ get_or l.fn.columns.items i [];
}
