use Rattle.std.proofs.Common.{◌≡◌, ◌+◌, ◌*◌, ◌++◌, max, map, take}
use Rattle.lt_base.proofs.expression.Expr.TheLaws.{the_size}
use Rattle.lt_base.specs.Expression.{shape, arguments_of}
use Rattle.lt_base.specs.Dependence.{arguments_reads}
use Rattle.lt_base.proofs.reads.+push_reads.Given as goal

abbrev pub decreases-push_reads : goal.decreases-push_reads
decreases-push_reads l = 2 * the_size l.e.now

abbrev pub decreases-push_both : goal.decreases-push_both
decreases-push_both l = 2 * max (the_size l.a.now) (the_size l.b.now) + 1

abbrev pub decreases-push_each : goal.decreases-push_each
decreases-push_each l = 2 * goal.size-push_each l + 1

abbrev pub invariant-push_each-loop-a : goal.invariant-push_each-loop-a
invariant-push_each-loop-a l = l.to ≡ l.fn.to ++ arguments_reads (arguments_of (map shape (take l.a-index l.args)))
