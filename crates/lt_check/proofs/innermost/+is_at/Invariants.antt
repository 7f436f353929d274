use Rattle.std.proofs.Common.{◌≡◌, map, drop}
use Rattle.lt_base.specs.Expression.{shape, arguments_of}
use Rattle.lt_check.specs.Innermost.{arguments_at}
use Rattle.lt_check.proofs.innermost.+is_at.Given as goal

abbrev pub decreases-is_at : goal.decreases-is_at
decreases-is_at l = goal.size-is_at l

abbrev pub invariant-loop-a : goal.invariant-loop-a
invariant-loop-a l =
    arguments_at l.funcs l.decls (arguments_of (map shape (drop l.a-index l.a-items))) l.pair ≡ arguments_at l.funcs l.decls (arguments_of (map shape l.a-items)) l.pair
