use Rattle.std.proofs.Common.{◌∙◌, ap}
use Rattle.lt_place.proofs.Turns.{left_pushed, left_passed}
use Rattle.lt_place.proofs.judge.push_lefts.Goals as goal
use Rattle.lt_place.proofs.judge.push_lefts.Goals.{then-origin-left+in_ok-push, else-origin-left}

pub loop-equation-preserved : goal.loop-equation-preserved
loop-equation-preserved c = elim c.if-origin-left.branch [
  | then-origin-left+in_ok-push w ↦ left_pushed c.args.origin.now c.args.equations.now c.loop-equation.equation-index c.equation-item.result c.loop-equation-test.true c.equation-item.is c.left-left.result c.left-left.ensures c.args.order.now.items c.loop-equation.order.items c.loop-equation.invariant w.if-origin-left.true c.if-origin-left.order.items (ap (λ v. v.items) w.order-is ∙ w.in_ok-push.ensures.items)
  | else-origin-left w ↦ left_passed c.args.origin.now c.args.equations.now c.loop-equation.equation-index c.equation-item.result c.loop-equation-test.true c.equation-item.is c.left-left.result c.left-left.ensures c.args.order.now.items c.loop-equation.order.items c.loop-equation.invariant w.if-origin-left.false c.if-origin-left.order.items (ap (λ v. v.items) w.order-is)
]
