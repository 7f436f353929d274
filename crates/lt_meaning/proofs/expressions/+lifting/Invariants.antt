use Rattle.std.proofs.Common.{◌≡◌, ◌+◌, ◌*◌, max, map, take, length}
use Rattle.lt_base.proofs.expression.Expr.TheLaws.{the_size}
use Rattle.lt_base.specs.Expression.{shape, arguments_of}
use Rattle.lt_meaning.specs.Form.{node_form}
use Rattle.lt_meaning.specs.Lift.{forms_of}
use Rattle.lt_meaning.specs.Taken.{taken, after_arguments}
use Rattle.lt_meaning.proofs.expressions.+lifting.Given as goal

abbrev pub invariant-lift_all-loop-a : goal.invariant-lift_all-loop-a
invariant-lift_all-loop-a l = record {
  forms : map node_form l.nodes.items ≡ forms_of (length (taken l.fn.to).waits) (taken l.fn.to).cells (arguments_of (map shape (take l.a-index l.a-items)));
  grown : taken l.to ≡ after_arguments (taken l.fn.to) (arguments_of (map shape (take l.a-index l.a-items))) l.clock;
}

abbrev pub decreases-lift : goal.decreases-lift
decreases-lift l = 3 * the_size l.e.now

abbrev pub decreases-lift_all : goal.decreases-lift_all
decreases-lift_all l = 3 * goal.size-lift_all l + 1

abbrev pub decreases-lift_two : goal.decreases-lift_two
decreases-lift_two l = 3 * max (the_size l.a.now) (the_size l.b.now) + 1

abbrev pub decreases-lift_binary : goal.decreases-lift_binary
decreases-lift_binary l = 3 * max (the_size l.a.now) (the_size l.b.now) + 2

abbrev pub decreases-lift_imported : goal.decreases-lift_imported
decreases-lift_imported l = 3 * max (the_size l.a.now) (the_size l.b.now) + 2

abbrev pub decreases-lift_merge : goal.decreases-lift_merge
decreases-lift_merge l = 3 * max (the_size l.a.now) (the_size l.b.now) + 2

abbrev pub decreases-lift_follow : goal.decreases-lift_follow
decreases-lift_follow l = 3 * max (the_size l.a.now) (the_size l.b.now) + 1

abbrev pub decreases-lift_arrow : goal.decreases-lift_arrow
decreases-lift_arrow l = 3 * max (the_size l.a.now) (the_size l.b.now) + 2

abbrev pub decreases-lift_choice : goal.decreases-lift_choice
decreases-lift_choice l = 3 * max (the_size l.c.now) (max (the_size l.a.now) (the_size l.b.now)) + 2

abbrev pub decreases-lift_unary : goal.decreases-lift_unary
decreases-lift_unary l = 3 * the_size l.a.now + 1

abbrev pub decreases-lift_outside : goal.decreases-lift_outside
decreases-lift_outside l = 3 * the_size l.e.now + 1

abbrev pub decreases-lift_branch : goal.decreases-lift_branch
decreases-lift_branch l = 3 * the_size l.e.now + 1

abbrev pub decreases-lift_call : goal.decreases-lift_call
decreases-lift_call l = 3 * goal.size-lift_call l + 2
