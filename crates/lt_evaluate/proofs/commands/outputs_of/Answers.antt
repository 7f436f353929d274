use Rattle.std.proofs.Common.{◌∙◌, ap}
use Rattle.lt_front.specs.Checked.{CheckedText}
use Rattle.lt_load_fit.specs.Main.{main_in}
use Rattle.lt_evaluate.specs.Main.{output_streams}
use Rattle.lt_evaluate.proofs.Streams.{prints_if, streams_are, whole_width}
use Rattle.lt_evaluate.proofs.commands.outputs_of.Goals as goal

pub print-requires : goal.print-requires
print-requires c =
    let p = c.args.checked.now.program in
    let main = c.main_of.ensures ∙ ap (λ (t : CheckedText). main_in t.program) c.checked.view_is in
    record { width = whole_width p c.args.table.now.rows c.main_of.result.now main c.in_ok-streams.streams c.in_ok-streams.ensures }

pub returns : goal.returns
returns c =
    let p = c.args.checked.now.program in
    let rows = c.args.table.now.rows in
    let main = c.main_of.ensures ∙ ap (λ (t : CheckedText). main_in t.program) c.checked.view_is in
    prints_if p rows c.main_of.result.now main (output_streams p rows) c.in_ok-streams.streams (streams_are p rows c.in_ok-streams.streams c.in_ok-streams.ensures) c.print.result c.print.ensures.names c.print.ensures.cells
