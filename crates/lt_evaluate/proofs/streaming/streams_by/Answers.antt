use Rattle.std.proofs.Common.{◌∙◌, length, ap}
use Rattle.lt_base.specs.Program.{Function}
use Rattle.lt_evaluate.proofs.Longer.{no_cells}
use Rattle.lt_evaluate.proofs.streaming.streams_by.Goals as goal

pub fill_columns-requires-clause-columns : goal.fill_columns-requires-clause-columns
fill_columns-requires-clause-columns g c =
    let f = c.args.function.now in
    no_cells f c.len-number.result (c.len-number.ensures ∙ ap (λ (h : Function). length h.outs) c.function.view_is) c.in_ok-columns.columns.items c.in_ok-columns.ensures
