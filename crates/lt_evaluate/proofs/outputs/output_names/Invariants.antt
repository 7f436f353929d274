use Rattle.std.proofs.Common.{◌≡◌, map, take}
use Rattle.lt_evaluate.specs.Main.{written_name}
use Rattle.lt_evaluate.proofs.outputs.output_names.Given as goal

abbrev pub invariant-loop-y : goal.invariant-loop-y
invariant-loop-y l = l.names ≡ map (written_name l.main) (take l.y-index l.main.outs)
