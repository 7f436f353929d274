use Rattle.std.proofs.Common.{◌≡◌, ◌+◌, ◌*◌, max, take, drop, vec_len}
use Rattle.lt_base.specs.Expression.{shape}
use Rattle.lt_syntax.proofs.term.Term.TheLaws.{the_size}
use Rattle.lt_syntax.specs.Views.{tm_of}
use Rattle.lt_resolve.specs.Names.{first_some}
use Rattle.lt_resolve.specs.Named.{Along}
use Rattle.lt_resolve.specs.Known.{IsTranslated}
use Rattle.lt_resolve.specs.Uses.{unknown}
use Rattle.lt_resolve.proofs.expression.+expression.Given as goal

abbrev pub invariant-arguments-arguments : goal.invariant-arguments-arguments
invariant-arguments-arguments l = record {
  rest : first_some (λ a. unknown l.variables l.functions (tm_of a)) (drop l.a-index l.args) ≡ first_some (λ a. unknown l.variables l.functions (tm_of a)) l.args;
  many : vec_len l.exprs ≡ l.a-index;
  along : Along (λ a e. IsTranslated l.variables l.functions (tm_of a) (shape e)) (take l.a-index l.args) l.exprs.items;
}

abbrev pub decreases-expression : goal.decreases-expression
decreases-expression l = 4 * the_size l.term.now

abbrev pub decreases-box_expression : goal.decreases-box_expression
decreases-box_expression l = 4 * the_size l.term.now + 1

abbrev pub decreases-operands : goal.decreases-operands
decreases-operands l = 4 * max (the_size l.a.now) (the_size l.b.now) + 2

abbrev pub decreases-arguments : goal.decreases-arguments
decreases-arguments l = 4 * goal.size-arguments l + 1

abbrev pub decreases-unary : goal.decreases-unary
decreases-unary l = 4 * the_size l.a.now + 3

abbrev pub decreases-sample_of : goal.decreases-sample_of
decreases-sample_of l = 4 * the_size l.a.now + 3

abbrev pub decreases-delay_of : goal.decreases-delay_of
decreases-delay_of l = 4 * the_size l.a.now + 3

abbrev pub decreases-binary : goal.decreases-binary
decreases-binary l = 4 * max (the_size l.a.now) (the_size l.b.now) + 3

abbrev pub decreases-merge_of : goal.decreases-merge_of
decreases-merge_of l = 4 * max (the_size l.a.now) (the_size l.b.now) + 3

abbrev pub decreases-follow_of : goal.decreases-follow_of
decreases-follow_of l = 4 * max (the_size l.a.now) (the_size l.b.now) + 3

abbrev pub decreases-arrow : goal.decreases-arrow
decreases-arrow l = 4 * max (the_size l.a.now) (the_size l.b.now) + 3

abbrev pub decreases-choice : goal.decreases-choice
decreases-choice l = 4 * max (the_size l.c.now) (max (the_size l.a.now) (the_size l.b.now)) + 3

abbrev pub decreases-call_of : goal.decreases-call_of
decreases-call_of l = 4 * goal.size-call_of l + 3
