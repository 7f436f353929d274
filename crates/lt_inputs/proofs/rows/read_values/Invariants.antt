use Rattle.std.proofs.Common.{◌≡◌, ◌+◌, drop}
use Rattle.csv.specs.Records.{fields_of}
use Rattle.lt_inputs.specs.Inputs.{field_values}
use Rattle.lt_inputs.proofs.RowSteps.{front}
use Rattle.lt_inputs.proofs.rows.read_values.Given as goal

abbrev pub invariant-loop-i : goal.invariant-loop-i
invariant-loop-i l =
    field_values l.ins (drop 1 (fields_of l.row)) ≡ front l.values.items (field_values (drop l.i l.ins) (drop (l.i + 1) (fields_of l.row)))
