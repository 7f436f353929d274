use Rattle.std.proofs.Common.{◌≡◌, true, take}
use Rattle.csv.specs.Records.{fields_of}
use Rattle.lt_inputs.specs.Inputs.{is_text}
use Rattle.lt_inputs.proofs.records.is_text.Given as goal

abbrev pub invariant-loop-place : goal.invariant-loop-place
invariant-loop-place l = is_text (take l.place (fields_of l.row)) ≡ true
