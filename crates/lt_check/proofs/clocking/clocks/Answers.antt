use Rattle.std.proofs.Common.{◌∙◌, ap, subst, All, take}
use Rattle.std.proofs.lemmas.List.{take_all}
use Rattle.std.proofs.lemmas.List.Elements.{All-more}
use Rattle.lt_base.specs.Program.{WholeProgram}
use Rattle.lt_base.specs.Clocking.{ClockedFunction}
use Rattle.lt_check.proofs.Found.{item_read}
use Rattle.lt_check.proofs.ClockedLemmas.{first_fault, clocks_told, or_handed_on}
use Rattle.lt_check.proofs.clocking.clocks.Goals as goal

pub returns-in_err-function_clocks : goal.returns-in_err-function_clocks
returns-in_err-function_clocks c =
    let p = c.args.p.now in
    let funcs = ap (λ (p : WholeProgram). p.funcs) c.p.view_is in
    let items = c.deref-f-items.result.now in
    let error = c.in_err-function_clocks.field-0.0 in
    let first =
    first_fault p c.p.inside.funcs error c.loop-number.number c.f-item.result funcs (subst (λ l. All (ClockedFunction p.funcs) (take c.loop-number.number l)) (c.deref-f-items.ensures ∙ funcs) c.loop-number.invariant)
    (item_read p.funcs c.p.inside.funcs items c.loop-number.number c.f-item.result c.deref-f-items.ensures funcs c.loop-number-test.true c.f-item.is) c.in_err-function_clocks.ensures in
    let told = clocks_told p c.p.inside.funcs funcs c.p.invariant.functions c.from_residual.result (or_handed_on p error first c.from_residual.result c.from_residual.ensures.1) in
    record { ok = told.ok; clocked = told.clocked; fault = told.fault; first = told.first }

pub loop-number-preserved : goal.loop-number-preserved
loop-number-preserved c =
    let funcs = ap (λ (p : WholeProgram). p.funcs) c.p.view_is in
    All-more (ClockedFunction c.args.p.now.funcs) c.deref-f-items.result.now c.loop-number.number c.f-item.result c.loop-number-test.true c.loop-number.invariant
    (subst (ClockedFunction c.args.p.now.funcs) c.f-item.is (subst (λ fs. ClockedFunction fs c.f-item.result) funcs c.in_ok-function_clocks.ensures))

pub returns : goal.returns
returns c =
    let funcs = ap (λ (p : WholeProgram). p.funcs) c.p.view_is in
    let all = subst (All (ClockedFunction c.args.p.now.funcs)) (take_all c.loop-number.number c.deref-f-items.result.now c.loop-number-test.false ∙ c.deref-f-items.ensures ∙ funcs) c.loop-number.invariant in
    let told = clocks_told c.args.p.now c.p.inside.funcs funcs c.p.invariant.functions _ all in
    record { ok = told.ok; clocked = told.clocked; fault = told.fault; first = told.first }
