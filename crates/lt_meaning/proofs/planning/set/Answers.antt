use Rattle.std.proofs.Common.{get_or, refl}
use Rattle.lt_base.specs.Expression.{shape}
use Rattle.lt_meaning.specs.Form.{node_form}
use Rattle.lt_meaning.specs.Taken.{taken}
use Rattle.lt_meaning.proofs.Setting.{set_made}
use Rattle.lt_meaning.proofs.planning.set.Goals as goal

pub returns : goal.returns
returns c =
    set_made (taken c.args.to.now) (taken c.lift.new.to) (taken c.push_step.new.to) c.push_step.result c.args.decls.now c.deref.result.now c.left.result c.left-2.result c.index-deref-left.result c.args.equation.now (shape c.right.result.now) (node_form c.in_ok-node.node) (get_or c.deref.result.now c.left.result c.index-deref-left.result).clock refl
    c.requires c.deref.ensures c.left.ensures c.left-2.ensures c.right.ensures c.in_ok-node.ensures.form c.in_ok-node.ensures.grown c.push_step.ensures
