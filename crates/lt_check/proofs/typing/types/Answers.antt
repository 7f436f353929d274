use Rattle.std.proofs.Common.{◌∙◌, ap, subst, All, take}
use Rattle.std.proofs.lemmas.List.{take_all}
use Rattle.std.proofs.lemmas.List.Elements.{All-more}
use Rattle.lt_base.specs.Program.{WholeProgram}
use Rattle.lt_base.specs.Typing.{TypedFunction, TypedProgram}
use Rattle.lt_check.specs.TypeFaults.{IsTypeFaultIn, IsFirstTypeFault}
use Rattle.lt_check.proofs.Found.{item_read}
use Rattle.lt_check.proofs.Places.{handed_on}
use Rattle.lt_check.proofs.TypeLemmas.{program_fault, types_told}
use Rattle.lt_check.proofs.typing.types.Goals as goal

pub returns-in_err-function_types : goal.returns-in_err-function_types
returns-in_err-function_types c =
    let p = c.args.p.now in
    let funcs = ap (λ (p : WholeProgram). p.funcs) c.p.view_is in
    let items = c.deref-f-items.result.now in
    let fault = c.in_err-function_types.field-0.0 in
    let here = c.in_err-function_types.ensures in
    let first : IsFirstTypeFault p fault =
    program_fault p fault c.loop-number.number c.f-item.result (subst (λ l. All (TypedFunction p.funcs) (take c.loop-number.number l)) (c.deref-f-items.ensures ∙ funcs) c.loop-number.invariant)
    (item_read p.funcs c.p.inside.funcs items c.loop-number.number c.f-item.result c.deref-f-items.ensures funcs c.loop-number-test.true c.f-item.is) (here.0, subst (λ fs. IsTypeFaultIn fs c.f-item.result fault) funcs here.1) in
    let told = types_told p c.p.inside.funcs funcs c.p.invariant.functions c.from_residual.result (handed_on (TypedProgram p) (IsFirstTypeFault p) fault first c.from_residual.result c.from_residual.ensures.1) in
    record { typed = told.0; fault = told.1 }

pub loop-number-preserved : goal.loop-number-preserved
loop-number-preserved c =
    let funcs = ap (λ (p : WholeProgram). p.funcs) c.p.view_is in
    All-more (TypedFunction c.args.p.now.funcs) c.deref-f-items.result.now c.loop-number.number c.f-item.result c.loop-number-test.true c.loop-number.invariant
    (subst (TypedFunction c.args.p.now.funcs) c.f-item.is (subst (λ fs. TypedFunction fs c.f-item.result) funcs c.in_ok-function_types.ensures))

pub returns : goal.returns
returns c =
    let funcs = ap (λ (p : WholeProgram). p.funcs) c.p.view_is in
    let all = subst (All (TypedFunction c.args.p.now.funcs)) (take_all c.loop-number.number c.deref-f-items.result.now c.loop-number-test.false ∙ c.deref-f-items.ensures ∙ funcs) c.loop-number.invariant in
    let told = types_told c.args.p.now c.p.inside.funcs funcs c.p.invariant.functions _ all in
    record { typed = told.0; fault = told.1 }
