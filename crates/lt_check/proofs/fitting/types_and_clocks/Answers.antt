use Rattle.std.proofs.Common.{◌∙◌, ap, subst, All}
use Rattle.std.proofs.lemmas.List.{take_all}
use Rattle.std.proofs.lemmas.List.Elements.{All-more}
use Rattle.lt_base.specs.Program.{WholeProgram}
use Rattle.lt_check.specs.Fitting.{IsTypedAndClocked}
use Rattle.lt_check.proofs.fitting.types_and_clocks.Goals as goal

pub loop-f-preserved : goal.loop-f-preserved
loop-f-preserved c =
    let funcs = ap (λ (p : WholeProgram). p.funcs) c.p.view_is in
    let test = c.if-not-branch.false in
    let right = c.in_ok-function_fits.ensures.0 (cc) in
    All-more (IsTypedAndClocked c.args.p.now.funcs) c.deref-f-items.result.now c.loop-f.f-index c.f-item.result c.loop-f-test.true c.loop-f.invariant
    (subst (IsTypedAndClocked c.args.p.now.funcs) c.f-item.is (subst (λ fs. IsTypedAndClocked fs c.f-item.result) funcs right))

pub returns : goal.returns
returns c =
    let funcs = ap (λ (p : WholeProgram). p.funcs) c.p.view_is in
    let all = subst (All (IsTypedAndClocked c.args.p.now.funcs)) (take_all c.loop-f.f-index c.deref-f-items.result.now c.loop-f-test.false ∙ c.deref-f-items.ensures ∙ funcs) c.loop-f.invariant in
    (λ t. all, λ t. cc)
