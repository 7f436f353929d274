use Rattle.lt_base.specs.Expression.{shape}
use Rattle.lt_cause.proofs.Table.{depends_made}
use Rattle.lt_cause.proofs.dependence.depends_on.Goals as goal

pub returns : goal.returns
returns c =
    depends_made c.args.decls.now c.deref.result.now c.left.result c.index-deref-left.result c.args.equation.now (shape c.right.result.now) c.new-list.result c.push_reads.new.to c.push_clock.new.to c.deref.ensures c.left.ensures c.right.ensures
    c.requires c.new-list.ensures c.in_ok-push_reads.ensures c.in_ok-push_clock.ensures
