use Rattle.std.proofs.Common.{◌++◌, ◌∙◌, ap, arith, take_all}
use Rattle.std.specs.List.{flat_map}
use Rattle.lt_drawing.specs.Kept.{arrow_if}
use Rattle.lt_drawing.proofs.keeping.add_arrows.Goals as goal

pub returns : goal.returns
returns c =
    c.arrows.invariant ∙ ap (λ xs. c.args.arrows.now ++ flat_map (arrow_if c.args.window c.args.node c.args.refused.now) xs) (take_all c.arrows.arrow-index c.args.from.now (omega arith))
