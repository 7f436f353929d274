use Rattle.std.proofs.Common.{◌≡◌, ◌+◌, map, drop}
use Rattle.csv.specs.Records.{fields_of}
use Rattle.lt_inputs.specs.Inputs.{same_fields, header_of}
use Rattle.lt_base.specs.declared.function.Decl.{Decl}
use Rattle.lt_inputs.proofs.rows.is_header.Given as goal

abbrev pub invariant-loop-i : goal.invariant-loop-i
invariant-loop-i l =
    same_fields (fields_of l.row) (header_of l.ins) ≡ same_fields (drop (l.i + 1) (fields_of l.row)) (drop l.i (map (λ (d : Decl). d.name) l.ins))
