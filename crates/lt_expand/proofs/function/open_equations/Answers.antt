use Rattle.std.proofs.Common.{◌≡◌, arith, length}
use Rattle.lt_base.specs.Expression.{shape}
use Rattle.lt_base.specs.Checked.{EachUse}
use Rattle.lt_expand.specs.Walk.{library_of, Copyable}
use Rattle.lt_expand.proofs.Turns.{all_item}
use Rattle.lt_expand.proofs.Opening.{open_room, open_turn}
use Rattle.lt_expand.proofs.function.open_equations.Goals as goal

pub inline_side-requires-clause-ready : goal.inline_side-requires-clause-ready
inline_side-requires-clause-ready c =
    all_item (λ q. EachUse (λ h k. Copyable c.args.versions.now h k) q.1) c.args.equations.now c.deref-equation-items.result.now c.loop-equation.equation-index c.equation-item.result c.requires.ready c.deref-equation-items.ensures c.loop-equation-test.true c.equation-item.is

pub inline_side-requires-clause-room : goal.inline_side-requires-clause-room
inline_side-requires-clause-room c =
    open_room (library_of c.args.versions.now) c.args.known.now c.deref-equation-items.result.now c.loop-equation.equation-index c.equation-item.result c.equation-item.is c.loop-equation-test.true _ _ _ _ c.loop-equation.invariant c.args.equations.now c.deref-equation-items.ensures c.requires.room

pub loop-equation-preserved : goal.loop-equation-preserved
loop-equation-preserved c =
    let n : c.len-in-loop-equation.result ≡ length c.inline_side.new.into.decls.items = omega (arith, c.len-in-loop-equation.ensures, c.inline_side.new.into.decls.ok.0) in
    let m : c.loop-equation.origins.len ≡ length c.loop-equation.origins.items = c.loop-equation.origins.ok.0 in
    open_turn (library_of c.args.versions.now) c.args.known.now c.deref-equation-items.result.now c.loop-equation.equation-index c.equation-item.result c.equation-item.is c.loop-equation-test.true _ _ _ _ c.loop-equation.invariant
    _ _ _ _ (shape c.in_ok-right.right) c.in_ok-right.ensures c.left.result c.new-in-loop-equation.result c.left.ensures c.new-in-loop-equation.ensures c.in_ok-push.ensures.items
    c.len-in-loop-equation.result c.loop-equation.origins.len c.left-in-loop-equation.result n m c.left-in-loop-equation.ensures c.in_ok-resize.ensures.items
