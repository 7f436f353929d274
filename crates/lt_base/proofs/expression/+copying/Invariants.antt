use Rattle.std.proofs.Common.{◌≡◌, ◌+◌, ◌*◌, max, map, take}
use Rattle.lt_base.proofs.expression.Expr.TheLaws.{the_size}
use Rattle.lt_base.specs.Expression.{shape}
use Rattle.lt_base.proofs.expression.+copying.Given as goal

abbrev pub invariant-twins-loop-e : goal.invariant-twins-loop-e
invariant-twins-loop-e l = map shape l.copies.items ≡ map shape (take l.e-index l.e-items)

abbrev pub decreases-Expr::copy : goal.decreases-Expr::copy
decreases-Expr::copy l = 4 * the_size l.self.now

abbrev pub decreases-twin : goal.decreases-twin
decreases-twin l = 4 * the_size l.e.now.value + 1

abbrev pub decreases-both : goal.decreases-both
decreases-both l = 4 * max (the_size l.a.now.value) (the_size l.b.now.value) + 2

abbrev pub decreases-choice : goal.decreases-choice
decreases-choice l = 4 * max (the_size l.c.now.value) (max (the_size l.a.now.value) (the_size l.b.now.value)) + 3

abbrev pub decreases-twins : goal.decreases-twins
decreases-twins l = 4 * goal.size-twins l + 1
