use Rattle.std.proofs.Common.{◌≡◌, ◌∙◌, ◌++◌, sym, ap, subst, map}
use Rattle.std.specs.Prelude.{OnOk}
use Rattle.lt_base.specs.declared.expression.Expr.{Expr}
use Rattle.lt_base.specs.Expression.{shape, arguments_of}
use Rattle.lt_base.specs.Dependence.{reads, arguments_reads}
use Rattle.lt_base.proofs.Shape.{shape-Call}
use Rattle.lt_base.proofs.Pushing.{reads_more}
use Rattle.lt_base.proofs.reads.+push_reads.Goals as goal

pub push_each-loop-a-preserved : goal.push_each-loop-a-preserved
push_each-loop-a-preserved t c =
    let a : Expr = c.a-item.result in
    let pushed : c.push_reads.new.to ≡ c.loop-a.to ++ reads (shape a) = c.in_ok-push_reads.ensures in
    reads_more c.loop-a.to c.args.to.now c.push_reads.new.to c.args.args.now c.loop-a.a-index a c.loop-a-test.true c.a-item.is c.loop-a.invariant pushed

pub push_reads-returns-in-Call : goal.push_reads-returns-in-Call
push_reads-returns-in-Call t c =
    let read : arguments_reads (arguments_of (map shape c.deref-in-Call.result.now)) ≡ reads (shape c.args.e.now) =
    ap (λ l. arguments_reads (arguments_of (map shape l))) c.deref-in-Call.ensures.value ∙ ap reads (sym (ap shape c.in-Call.is ∙ shape-Call c.in-Call.field-0 c.in-Call.args)) in
    subst (λ r. OnOk c.push_each.result (c.push_each.new.to ≡ c.args.to.now ++ r)) read c.push_each.ensures
