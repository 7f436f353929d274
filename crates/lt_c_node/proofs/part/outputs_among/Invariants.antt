use Rattle.std.proofs.Common.{◌≡◌, map, take}
use Rattle.std.specs.List.{filter}
use Rattle.lt_c_node.specs.NodeOf.{is_output, output_for}
use Rattle.lt_c_node.proofs.part.outputs_among.Given as goal

abbrev pub invariant-outs : goal.invariant-outs
invariant-outs l = l.all ≡ map (output_for l.part) (filter (is_output l.layout l.part) (take l.x-index l.outs))
