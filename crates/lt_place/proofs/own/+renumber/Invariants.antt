use Rattle.std.proofs.Common.{◌+◌, ◌*◌, max}
use Rattle.lt_base.proofs.expression.Expr.TheLaws.{the_size}
use Rattle.lt_place.proofs.own.+renumber.Given as goal

abbrev pub decreases-renumber : goal.decreases-renumber
decreases-renumber l = 2 * the_size l.e.now

abbrev pub decreases-renumber_both : goal.decreases-renumber_both
decreases-renumber_both l = 2 * max (the_size l.a.now) (the_size l.b.now) + 1
