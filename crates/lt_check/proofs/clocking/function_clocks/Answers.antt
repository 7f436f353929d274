use Rattle.std.proofs.Common.{◌∙◌, ap, subst, All, take}
use Rattle.std.proofs.lemmas.List.{take_all}
use Rattle.std.proofs.lemmas.List.Elements.{All-more}
use Rattle.std.proofs.lemmas.Option.{MatchOption-at_some, MatchOption-at_none}
use Rattle.lt_base.specs.Expression.{shape}
use Rattle.lt_base.specs.Program.{Function, GoodFunction}
use Rattle.lt_check.specs.ClockFaults.{IsAtItsClock}
use Rattle.lt_check.proofs.Found.{item_read, left_inside}
use Rattle.lt_check.proofs.ClockedLemmas.{clocked_from, declaration_fault, passes_test, test_fault}
use Rattle.lt_check.proofs.clocking.function_clocks.Goals as goal

pub returns-in-Some : goal.returns-in-Some
returns-in-Some c =
    declaration_fault c.args.funcs.now c.args.f.now c.in_ok-fault_at.field-0 c.args.number c.in-Some.variable (MatchOption-at_some _ _ c.in-Some.variable c.in-Some.is c.in_ok-variable.ensures) c.in_ok-fault_at.ensures

pub fault_at-requires-then-not-is_at : goal.fault_at-requires-then-not-is_at
fault_at-requires-then-not-is_at c =
    let eqs = ap (λ (f : Function). f.eqs) c.f.view_is in
    rw c.left-left.ensures (left_inside c.args.f.now (subst GoodFunction c.f.view_is c.f.invariant) c.loop-k.k c.equation-item.result (item_read c.args.f.now.eqs c.f.inside.eqs c.deref-equation-items.result.now c.loop-k.k c.equation-item.result c.deref-equation-items.ensures eqs c.loop-k-test.true c.equation-item.is))

pub returns-then-not-is_at : goal.returns-then-not-is_at
returns-then-not-is_at c =
    let eqs = ap (λ (f : Function). f.eqs) c.f.view_is in
    let decls = ap (λ (f : Function). f.decls) c.f.view_is in
    let good : GoodFunction c.args.f.now = subst GoodFunction c.f.view_is c.f.invariant in
    let items = c.deref-equation-items.result.now in
    let here = item_read c.args.f.now.eqs c.f.inside.eqs items c.loop-k.k c.equation-item.result c.deref-equation-items.ensures eqs c.loop-k-test.true c.equation-item.is in
    test_fault c.args.funcs.now c.args.f.now c.f.inside.decls c.loop-k.k c.left-left.result c.equation-item.result (shape c.right.result.now) c.innermost_of.result c.requires.functions good
    (MatchOption-at_none _ _ c.in_default.is c.in_ok-variable.ensures) here decls c.left-left.ensures c.right.ensures c.innermost_of.ensures c.in_ok-fault_at-2.field-0 c.args.number
    (subst (λ l. All (IsAtItsClock c.args.funcs.now c.args.f.now.decls) (take c.loop-k.k l)) (c.deref-equation-items.ensures ∙ eqs) c.loop-k.invariant)
    c.if-not-is_at.ensures c.in_ok-fault_at-2.ensures

pub loop-k-preserved : goal.loop-k-preserved
loop-k-preserved c =
    let eqs = ap (λ (f : Function). f.eqs) c.f.view_is in
    let decls = ap (λ (f : Function). f.decls) c.f.view_is in
    let good : GoodFunction c.args.f.now = subst GoodFunction c.f.view_is c.f.invariant in
    let items = c.deref-equation-items.result.now in
    let here = item_read c.args.f.now.eqs c.f.inside.eqs items c.loop-k.k c.equation-item.result c.deref-equation-items.ensures eqs c.loop-k-test.true c.equation-item.is in
    All-more (IsAtItsClock c.args.funcs.now c.args.f.now.decls) items c.loop-k.k c.equation-item.result c.loop-k-test.true c.loop-k.invariant
    (subst (IsAtItsClock c.args.funcs.now c.args.f.now.decls) c.equation-item.is
    (passes_test c.args.funcs.now c.args.f.now c.f.inside.decls c.loop-k.k c.left-left.result c.equation-item.result (shape c.right.result.now) c.innermost_of.result c.requires.functions good
    (MatchOption-at_none _ _ c.in_default.is c.in_ok-variable.ensures) here decls c.left-left.ensures c.right.ensures c.innermost_of.ensures c.if-not-is_at.ensures))

pub returns : goal.returns
returns c =
    let eqs = ap (λ (f : Function). f.eqs) c.f.view_is in
    clocked_from c.args.funcs.now c.args.f.now (MatchOption-at_none _ _ c.in_default.is c.in_ok-variable.ensures)
    (subst (All (IsAtItsClock c.args.funcs.now c.args.f.now.decls)) (take_all c.loop-k.k c.deref-equation-items.result.now c.loop-k-test.false ∙ c.deref-equation-items.ensures ∙ eqs) c.loop-k.invariant)
