use Rattle.std.proofs.Common.{◌∙◌, ap, refl, subst, All, take}
use Rattle.std.proofs.lemmas.List.{take_all}
use Rattle.std.proofs.lemmas.List.Elements.{All-more}
use Rattle.lt_base.specs.Program.{Function, GoodFunction}
use Rattle.lt_check.specs.Places.{declaration}
use Rattle.lt_check.specs.TypeFaults.{HasItsType}
use Rattle.lt_check.proofs.Found.{item_read, left_inside}
use Rattle.lt_check.proofs.TypeLemmas.{typed_from, equation_fault}
use Rattle.lt_check.proofs.typing.function_types.Goals as goal

pub returns-in-Some : goal.returns-in-Some
returns-in-Some c = (refl, record { place = declaration c.in-Some.variable; first = c.in-Some.ensures; says = (refl, refl, refl) })

pub misfit-requires : goal.misfit-requires
misfit-requires c =
    let good : GoodFunction c.args.f.now = subst GoodFunction c.f.view_is c.f.invariant in
    let eqs = ap (λ (f : Function). f.eqs) c.f.view_is in
    let decls = ap (λ (f : Function). f.decls) c.f.view_is in
    rw decls (left_inside c.args.f.now good c.loop-equation.equation-index c.equation-item.result (item_read c.args.f.now.eqs c.f.inside.eqs c.deref-equation-items.result.now c.loop-equation.equation-index c.equation-item.result c.deref-equation-items.ensures eqs c.loop-equation-test.true c.equation-item.is))

pub returns-in-Some-misfit : goal.returns-in-Some-misfit
returns-in-Some-misfit c =
    let eqs = ap (λ (f : Function). f.eqs) c.f.view_is in
    let decls = ap (λ (f : Function). f.decls) c.f.view_is in
    let items = c.deref-equation-items.result.now in
    let says = c.in-Some-misfit.ensures in (
      refl,
      equation_fault c.args.funcs.now c.args.f.now c.f.inside.decls _ c.loop-equation.equation-index c.equation-item.result decls c.in_default.ensures
          (subst (λ l. All (HasItsType c.args.funcs.now c.args.f.now.decls) (take c.loop-equation.equation-index l)) (c.deref-equation-items.ensures ∙ eqs) c.loop-equation.invariant)
          (item_read c.args.f.now.eqs c.f.inside.eqs items c.loop-equation.equation-index c.equation-item.result c.deref-equation-items.ensures eqs c.loop-equation-test.true c.equation-item.is)
          c.left.ensures says.0 says.1 says.2,
    )

pub loop-equation-preserved : goal.loop-equation-preserved
loop-equation-preserved c =
    let decls = ap (λ (f : Function). f.decls) c.f.view_is in
    All-more (HasItsType c.args.funcs.now c.args.f.now.decls) c.deref-equation-items.result.now c.loop-equation.equation-index c.equation-item.result c.loop-equation-test.true c.loop-equation.invariant
    (subst (HasItsType c.args.funcs.now c.args.f.now.decls) c.equation-item.is (subst (λ ds. HasItsType c.args.funcs.now ds c.equation-item.result) decls c.in_default-misfit.ensures))

pub returns : goal.returns
returns c =
    let eqs = ap (λ (f : Function). f.eqs) c.f.view_is in
    typed_from c.args.funcs.now c.args.f.now c.in_default.ensures
    (subst (All (HasItsType c.args.funcs.now c.args.f.now.decls)) (take_all c.loop-equation.equation-index c.deref-equation-items.result.now c.loop-equation-test.false ∙ c.deref-equation-items.ensures ∙ eqs) c.loop-equation.invariant)
