use Rattle.std.proofs.Common.{◌+◌, ◌*◌, map}
use Rattle.lt_base.proofs.expression.Expr.TheLaws.{the_size}
use Rattle.lt_base.specs.declared.expression.Expr.{Call}
use Rattle.lt_base.specs.Expression.{shape}
use Rattle.lt_expand.specs.Walk.{library_of}
use Rattle.lt_expand.proofs.Steps.{ArgumentsTo}
use Rattle.lt_expand.proofs.inline.+inlining.Given as goal

abbrev pub invariant-inline_call-loop-a : goal.invariant-inline_call-loop-a
invariant-inline_call-loop-a l =
    ArgumentsTo (library_of l.versions) l.clock (map shape l.yielded) l.initial.into.decls.items l.initial.into.eqs.items l.into.decls.items l.into.eqs.items (map shape l.inputs.items)

abbrev pub decreases-inline : goal.decreases-inline
decreases-inline l = 2 * the_size l.e.now + 1

abbrev pub decreases-inline_outside : goal.decreases-inline_outside
decreases-inline_outside l = 2 * the_size l.e.now + 2

abbrev pub decreases-inline_branch : goal.decreases-inline_branch
decreases-inline_branch l = 2 * the_size l.e.now + 2

abbrev pub decreases-inline_call : goal.decreases-inline_call
decreases-inline_call l = 2 * the_size (Call l.g l.args.now)
