use Rattle.lt_base.specs.Expression.{shape}
use Rattle.lt_norm.proofs.Loop.{side_lifted}
use Rattle.lt_norm.proofs.right.lift_side.Goals as goal

pub returns : goal.returns
returns c =
    side_lifted c.args.known.now c.deref.result.now c.args.variable c.index-deref-variable.result (shape c.args.side.now) (shape c.make_plain.new.e) _ _ _ _ _ c.deref.ensures c.requires.left c.index-deref-variable.is c.in_ok-make_plain.ensures c.lift_right.result c.lift_right.ensures
