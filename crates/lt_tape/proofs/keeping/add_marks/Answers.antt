use Rattle.std.proofs.Common.{◌++◌, ◌∙◌, ap, arith, take_all}
use Rattle.std.specs.List.{flat_map}
use Rattle.lt_tape.specs.Kept.{mark_in}
use Rattle.lt_tape.proofs.keeping.add_marks.Goals as goal

pub returns : goal.returns
returns c = c.strokes.invariant ∙ ap (λ xs. c.args.marks.now ++ flat_map (mark_in c.args.window) xs) (take_all c.strokes.stroke-index c.args.strokes.now (omega arith))
