use Rattle.std.proofs.Common.{◌∙◌, ap, sym, subst, All}
use Rattle.std.proofs.lemmas.List.{take_all}
use Rattle.std.proofs.lemmas.List.Elements.{All-more}
use Rattle.lt_base.specs.Program.{Function, GoodFunction}
use Rattle.lt_check.specs.Fitting.{FitsVariable}
use Rattle.lt_check.proofs.Found.{item_read, left_inside}
use Rattle.lt_check.proofs.Fits.{not_declared, all_fit, one_unfit}
use Rattle.lt_check.proofs.fitting.function_fits.Goals as goal

pub returns-then-not-branch : goal.returns-then-not-branch
returns-then-not-branch c =
    (λ t. absurd (cc), λ t. absurd (not_declared c.args.funcs.now c.args.f.now (λ d. let yes = c.in_ok-clocks_fit.ensures.1 d in let test = c.if-not-branch.true in cc) t))

pub equation_fits-requires : goal.equation_fits-requires
equation_fits-requires c =
    let good : GoodFunction c.args.f.now = subst GoodFunction c.f.view_is c.f.invariant in
    let eqs = ap (λ (f : Function). f.eqs) c.f.view_is in
    let decls = ap (λ (f : Function). f.decls) c.f.view_is in
    rw decls (left_inside c.args.f.now good c.loop-equation.equation-index c.equation-item.result (item_read c.args.f.now.eqs c.f.inside.eqs c.deref-equation-items.result.now c.loop-equation.equation-index c.equation-item.result c.deref-equation-items.ensures eqs c.loop-equation-test.true c.equation-item.is))

pub returns-then-not-equation_fits : goal.returns-then-not-equation_fits
returns-then-not-equation_fits c =
    let good : GoodFunction c.args.f.now = subst GoodFunction c.f.view_is c.f.invariant in
    let eqs = ap (λ (f : Function). f.eqs) c.f.view_is in
    let decls = ap (λ (f : Function). f.decls) c.f.view_is in
    let test = c.if-not-branch.false in
    let declared = c.in_ok-clocks_fit.ensures.0 (cc) in
    let here = item_read c.args.f.now.eqs c.f.inside.eqs c.deref-equation-items.result.now c.loop-equation.equation-index c.equation-item.result c.deref-equation-items.ensures eqs c.loop-equation-test.true c.equation-item.is in (
      λ t. absurd (cc),
      λ t. absurd (one_unfit c.args.funcs.now c.args.f.now c.requires.functions good declared c.loop-equation.equation-index c.equation-item.result here (λ fit. let yes = c.if-not-equation_fits.ensures.1 (subst (λ ds. FitsVariable c.args.funcs.now ds c.equation-item.result) (sym decls) fit) in cc) t),
    )

pub loop-equation-preserved : goal.loop-equation-preserved
loop-equation-preserved c =
    let decls = ap (λ (f : Function). f.decls) c.f.view_is in
    All-more (FitsVariable c.args.funcs.now c.args.f.now.decls) c.deref-equation-items.result.now c.loop-equation.equation-index c.equation-item.result c.loop-equation-test.true c.loop-equation.invariant
    (subst (FitsVariable c.args.funcs.now c.args.f.now.decls) c.equation-item.is (subst (λ ds. FitsVariable c.args.funcs.now ds c.equation-item.result) decls (c.if-not-equation_fits.ensures.0 (cc))))

pub returns : goal.returns
returns c =
    let good : GoodFunction c.args.f.now = subst GoodFunction c.f.view_is c.f.invariant in
    let eqs = ap (λ (f : Function). f.eqs) c.f.view_is in
    let test = c.if-not-branch.false in
    let declared = c.in_ok-clocks_fit.ensures.0 (cc) in
    let all = subst (All (FitsVariable c.args.funcs.now c.args.f.now.decls)) (take_all c.loop-equation.equation-index c.deref-equation-items.result.now c.loop-equation-test.false ∙ c.deref-equation-items.ensures ∙ eqs) c.loop-equation.invariant in
    (λ t. all_fit c.args.funcs.now c.args.f.now c.requires.functions good declared all, λ t. cc)
