use Rattle.std.proofs.Common.{◌≡◌, arith, length}
use Rattle.lt_base.specs.Expression.{shape}
use Rattle.lt_norm.proofs.Loop.{turned}
use Rattle.lt_norm.proofs.equations.lift_equation.Goals as goal

pub returns : goal.returns
returns c = λ before lifted.
    let origins = c.args.parts.now.origins in
    let n : c.len.result ≡ length c.lift_out.new.into.decls.items = omega (arith, c.len.ensures, c.lift_out.new.into.decls.ok.0) in
    let m : origins.len ≡ length origins.items = origins.ok.0 in
    turned c.args.known.now c.args.origin.now before c.args.equation _ _ _ _ lifted
    _ _ _ _ (shape c.in_ok-right.right) c.requires.origins c.in_ok-right.ensures c.left-left.result c.left-left.ensures
    c.new.result c.new.ensures c.in_ok-push.ensures.items
    c.len.result origins.len n m c.owner_of-owner.result c.owner_of-owner.ensures c.in_ok-resize.ensures.items
