use Rattle.std.proofs.Common.{◌≡◌, ◌∙◌, length, get_or, ap, arith}
use Rattle.lt_base.specs.Program.{WholeProgram}
use Rattle.lt_base.specs.Dependence.{Causal}
use Rattle.lt_base.proofs.Lookups.{function_all}
use Rattle.lt_meaning.specs.Streams.{NumbersFit}
use Rattle.lt_meaning.proofs.Tables.{far_none, far_next, are_plans, function_at}
use Rattle.lt_meaning.proofs.program.plans_of.Goals as goal

pub plan_of-requires-clause-causal : goal.plan_of-requires-clause-causal
plan_of-requires-clause-causal c =
    let p = c.args.p.now in
    let same : c.deref-f-items.result.now ≡ p.funcs = c.deref-f-items.ensures ∙ ap (λ (q : WholeProgram). q.funcs) c.p.view_is in
    let size = ap length same in
    let l = c.loop-f-test.true in
    let is = function_at p.funcs c.loop-f.f-index c.f-item.result (omega (arith, size, l)) (c.f-item.is ∙ ap (λ l. get_or l c.loop-f.f-index c.f-item.result) same) in
    function_all Causal p.funcs c.requires.checked.causal c.loop-f.f-index c.f-item.result is

pub plan_of-requires-clause-numbers : goal.plan_of-requires-clause-numbers
plan_of-requires-clause-numbers c =
    let p = c.args.p.now in
    let same : c.deref-f-items.result.now ≡ p.funcs = c.deref-f-items.ensures ∙ ap (λ (q : WholeProgram). q.funcs) c.p.view_is in
    let size = ap length same in
    let l = c.loop-f-test.true in
    let is = function_at p.funcs c.loop-f.f-index c.f-item.result (omega (arith, size, l)) (c.f-item.is ∙ ap (λ l. get_or l c.loop-f.f-index c.f-item.result) same) in
    function_all NumbersFit p.funcs c.requires.room c.loop-f.f-index c.f-item.result is

pub loop-f-init : goal.loop-f-init
loop-f-init c = λ good checked. far_none c.args.p.now good checked c.in_ok-plans.plans.items c.in_ok-plans.ensures.items

pub loop-f-preserved : goal.loop-f-preserved
loop-f-preserved c = λ good checked.
    let p = c.args.p.now in
    let same : c.deref-f-items.result.now ≡ p.funcs = c.deref-f-items.ensures ∙ ap (λ (q : WholeProgram). q.funcs) c.p.view_is in
    let size = ap length same in
    let l = c.loop-f-test.true in
    let is = function_at p.funcs c.loop-f.f-index c.f-item.result (omega (arith, size, l)) (c.f-item.is ∙ ap (λ l. get_or l c.loop-f.f-index c.f-item.result) same) in
    far_next p good checked c.loop-f.plans.items c.push.new.self.items c.loop-f.f-index c.f-item.result c.in_ok-plan_of.field-0 (c.loop-f.invariant good checked) is c.in_ok-plan_of.ensures c.in_ok-push.ensures.items

pub returns : goal.returns
returns c =
    let p = c.args.p.now in
    let same : c.deref-f-items.result.now ≡ p.funcs = c.deref-f-items.ensures ∙ ap (λ (q : WholeProgram). q.funcs) c.p.view_is in
    let size = ap length same in
    let l = c.loop-f-test.false in
    let m = c.loop-f.auto.f-index-end in
    are_plans p c.invariant_holds.ensures c.requires.checked c.loop-f.plans.items c.loop-f.f-index (c.loop-f.invariant c.invariant_holds.ensures c.requires.checked) (omega (arith, size, l)) (omega (arith, size, m))
