use Rattle.std.proofs.Common.{◌∙◌, ap, arith, take_all}
use Rattle.std.specs.List.{flat_map}
use Rattle.lt_tape.specs.Kept.{line_within}
use Rattle.lt_tape.proofs.keeping.lines_in.Goals as goal

pub returns : goal.returns
returns c = c.strokes.invariant ∙ ap (λ xs. flat_map (line_within c.args.window) xs) (take_all c.strokes.stroke-index c.args.strokes.now (omega arith))
