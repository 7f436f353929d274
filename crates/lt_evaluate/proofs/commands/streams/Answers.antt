use Rattle.std.proofs.Common.{◌≡◌, ◌≤◌, Ok, ap, subst}
use Rattle.lt_base.specs.Program.{WholeProgram}
use Rattle.lt_front.specs.Examined.{ExaminedText}
use Rattle.lt_base.specs.Limits.{most_cells}
use Rattle.lt_base.specs.Main.{cell_count}
use Rattle.lt_evaluate.specs.Main.{output_streams}
use Rattle.lt_evaluate.specs.Meaning.{PrintsOutputs}
use Rattle.lt_evaluate.proofs.Showing.{cells_stop, cells_shown, streams_at}
use Rattle.lt_evaluate.proofs.commands.streams.Goals as goal

pub returns-in_err-limit_cells : goal.returns-in_err-limit_cells
returns-in_err-limit_cells c =
    let k : ExaminedText = record { tree = c.checked.inside.tree; program = c.checked.inside.program } in
    streams_at k _ c.checked.view_is c.args.table.now _ (cells_stop k c.args.table.now _ _ c.from_residual.ensures.1 c.in_err-limit_cells.ensures.refused)

pub returns : goal.returns
returns c =
    let k : ExaminedText = c.args.checked in
    let rows = c.args.table.now.rows in
    let few : cell_count k.program rows ≤ most_cells = subst (λ (t : ExaminedText). cell_count t.program rows ≤ most_cells) c.checked.view_is c.in_ok-limit_cells.ensures.few in
    cells_shown k c.args.table.now few (Ok c.in_ok-flat_streams.field-0) c.in_ok-flat_streams.ensures
