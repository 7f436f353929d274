use Rattle.std.proofs.Common.{◌≡◌, ◌++◌, take}
use Rattle.lt_text_values.specs.OutputLines.{cells_text}
use Rattle.lt_text_values.proofs.outputs.append_cells.Given as goal

abbrev pub invariant-loop-cell : goal.invariant-loop-cell
invariant-loop-cell l = l.text ≡ l.initial.text ++ cells_text (take l.cell-index l.cells)
