use Rattle.std.proofs.Common.{◌∙◌, ap, subst, arith, length, Some, ◌<◌}
use Rattle.std.proofs.lemmas.List.{length-set}
use Rattle.lt_base.specs.Program.{Function, GoodFunction}
use Rattle.lt_cause.proofs.Table.{equation_read, left_inside, numbers_more}
use Rattle.lt_cause.proofs.dependence.equation_numbers.Goals as goal

pub index_mut-requires : goal.index_mut-requires
index_mut-requires c =
    let f = c.args.f.now in
    let eqs = ap (λ (f : Function). f.eqs) c.f.view_is in
    let good : GoodFunction f = subst GoodFunction c.f.view_is c.f.invariant in
    let at = equation_read f c.f.inside.eqs c.deref-equation-items.result.now c.loop-number.number c.equation-item.result c.deref-equation-items.ensures eqs c.loop-number-test.true c.equation-item.is in
    let l = left_inside f good c.loop-number.number c.equation-item.result at in
    let v = c.left.ensures in
    let n = c.loop-number.invariant.size in
    let k = c.loop-number.table.ok.0 in
    omega (arith, l, v, n, k)

pub loop-number-preserved : goal.loop-number-preserved
loop-number-preserved c =
    let f = c.args.f.now in
    let eqs = ap (λ (f : Function). f.eqs) c.f.view_is in
    let good : GoodFunction f = subst GoodFunction c.f.view_is c.f.invariant in
    let at = equation_read f c.f.inside.eqs c.deref-equation-items.result.now c.loop-number.number c.equation-item.result c.deref-equation-items.ensures eqs c.loop-number-test.true c.equation-item.is in
    let l = left_inside f good c.loop-number.number c.equation-item.result at in
    let v = c.left.ensures in
    let n = c.loop-number.invariant.size in
    let inside : c.left.result < length c.loop-number.table.items = omega (arith, l, v, n) in
    record {
      size = length-set c.loop-number.table.items c.left.result (Some c.loop-number.number) ∙ n;
      told = numbers_more f good c.loop-number.number c.equation-item.result at c.loop-number.table.items c.left.result c.left.ensures inside c.loop-number.invariant.told;
    }
