use Rattle.std.proofs.Common.{◌+◌, ◌-◌, ◌^◌, ◌<◌, arith, ap, sym, subst, ◌∙◌}
use Rattle.lt_base.specs.Program.{VarsBelow}
use Rattle.lt_base.specs.Calls.{EachCall}
use Rattle.lt_base.specs.Placed.{renamed}
use Rattle.lt_expand.specs.Copies.{raise}
use Rattle.lt_expand.proofs.Turns.{all_item, equations_turn}
use Rattle.lt_expand.proofs.paste.append_equations.Goals as goal

pub raise_variables-requires-clause-callless : goal.raise_variables-requires-clause-callless
raise_variables-requires-clause-callless c =
    subst (EachCall (λ g. ⊥)) (sym c.right.ensures) (all_item (λ q. EachCall (λ g. ⊥) q.1) c.args.known.now c.deref-equation-items.result.now c.loop-equation.equation-index c.equation-item.result c.requires.callless c.deref-equation-items.ensures c.loop-equation-test.true c.equation-item.is)

pub raise_variables-requires-clause-room : goal.raise_variables-requires-clause-room
raise_variables-requires-clause-room c =
    subst (VarsBelow (2 ^ 32 - c.args.first)) (sym c.right.ensures) (all_item (λ q. VarsBelow (2 ^ 32 - c.args.first) q.1) c.args.known.now c.deref-equation-items.result.now c.loop-equation.equation-index c.equation-item.result c.requires.rights c.deref-equation-items.ensures c.loop-equation-test.true c.equation-item.is)

pub overflow_add-left : goal.overflow_add-left
overflow_add-left c =
    let h = all_item (λ q. q.0 + c.args.first < 2 ^ 32) c.args.known.now c.deref-equation-items.result.now c.loop-equation.equation-index c.equation-item.result c.requires.lefts c.deref-equation-items.ensures c.loop-equation-test.true c.equation-item.is in
    omega (arith, h, c.left.ensures)

pub loop-equation-preserved : goal.loop-equation-preserved
loop-equation-preserved c =
    equations_turn c.args.first c.deref-equation-items.result.now _ _ _ c.loop-equation.equation-index c.equation-item.result c.new.result c.loop-equation-test.true c.equation-item.is
    (c.new.ensures ∙ (λ j. (c.left.ensures j + c.args.first, (c.in_ok-right.ensures ∙ ap (renamed (raise c.args.first)) c.right.ensures) j)))
    c.loop-equation.invariant c.in_ok-push.ensures.items
