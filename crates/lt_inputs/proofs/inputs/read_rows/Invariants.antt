use Rattle.std.proofs.Common.{◌≡◌, ◌+◌, length, Some}
use Rattle.lt_inputs.specs.Inputs.{input_rows_from}
use Rattle.lt_inputs.specs.Records.{rest_of, ReaderStands}
use Rattle.lt_inputs.proofs.TableSteps.{after}
use Rattle.lt_inputs.proofs.inputs.read_rows.Given as goal

abbrev pub invariant-loop-n : goal.invariant-loop-n
invariant-loop-n l = record {
  stands : ReaderStands l.reader (Some (length l.ins + 1));
  width : l.table.width ≡ length l.ins;
  count : length l.table.rows ≡ l.n;
  rest : input_rows_from l.ins 1 (rest_of l.fn.reader) ≡ after l.table.rows (input_rows_from l.ins (l.n + 1) (rest_of l.reader));
}
