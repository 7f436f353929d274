use Rattle.std.proofs.Common.{◌+◌, ◌*◌, max}
use Rattle.lt_base.proofs.expression.Expr.TheLaws.{the_size}
use Rattle.lt_norm.proofs.lift.+lift.Given as goal

abbrev pub decreases-lift : goal.decreases-lift
decreases-lift l = 2 * the_size l.e.now

abbrev pub decreases-lift_two : goal.decreases-lift_two
decreases-lift_two l = 2 * max (the_size l.a.now) (the_size l.b.now) + 1

abbrev pub decreases-lift_outside : goal.decreases-lift_outside
decreases-lift_outside l = 2 * the_size l.e.now + 1

abbrev pub decreases-lift_branch : goal.decreases-lift_branch
decreases-lift_branch l = 2 * the_size l.e.now + 1
