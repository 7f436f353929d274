use Rattle.std.proofs.Common.{◌+◌, ◌*◌, max}
use Rattle.lt_base.proofs.expression.Expr.TheLaws.{the_size}
use Rattle.lt_norm.proofs.plain.+plain.Given as goal

abbrev pub decreases-make_plain : goal.decreases-make_plain
decreases-make_plain l = 2 * the_size l.e.now

abbrev pub decreases-make_both_plain : goal.decreases-make_both_plain
decreases-make_both_plain l = 2 * max (the_size l.a.now) (the_size l.b.now) + 1
