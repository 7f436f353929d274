use Rattle.std.proofs.Common.{Err, sym, ap, ◌∙◌}
use Rattle.csv.specs.Records.{fields_of}
use Rattle.lt_inputs.proofs.RowSteps.{row-read, row-fault}
use Rattle.lt_inputs.proofs.rows.read_row.Goals as goal

pub returns-in-None : goal.returns-in-None
returns-in-None c =
    let read = rw c.in-None.is at c.in_ok-read_values.ensures in
    row-read c.args.ins.now c.args.n (fields_of c.args.row.now) c.read_values.new.values.items c.requires.rows c.requires.width read

pub returns-in-Some : goal.returns-in-Some
returns-in-Some c =
    let faulted = rw c.in-Some.is at c.in_ok-read_values.ensures in
    row-fault c.args.ins.now c.args.n (fields_of c.args.row.now) c.in-Some.kind c.requires.rows c.requires.width faulted ∙ ap Err (sym c.kind_of.ensures)
