use Rattle.std.proofs.Common.{◌≡◌, ◌∙◌, ◌++◌, ◌+◌, ◌<◌, ℕ, [], sym, ap, subst, arith, length, get_or, set, take}
use Rattle.std.proofs.lemmas.List.{length-set, take_all}
use Rattle.lt_base.specs.Program.{Function, GoodFunction}
use Rattle.lt_base.specs.Meaning.{clock_of, right_of}
use Rattle.lt_base.specs.Dependence.{reads, clock_vars, dependencies_of}
use Rattle.lt_graph.specs.Tables.{IsTable}
use Rattle.lt_cause.specs.Orders.{HasDependencies}
use Rattle.lt_cause.proofs.Table.{equation_read, left_inside, dependencies_more, table_inside}
use Rattle.lt_cause.proofs.dependence.dependencies.Goals as goal

pub depends_on-requires : goal.depends_on-requires
depends_on-requires c =
    let f = c.args.f.now in
    let eqs = ap (λ (f : Function). f.eqs) c.f.view_is in
    let decls = ap (λ (f : Function). length f.decls) c.f.view_is in
    let good : GoodFunction f = subst GoodFunction c.f.view_is c.f.invariant in
    let at = equation_read f c.f.inside.eqs c.deref-equation-items.result.now c.loop-equation.equation-index c.equation-item.result c.deref-equation-items.ensures eqs c.loop-equation-test.true c.equation-item.is in
    let l = left_inside f good c.loop-equation.equation-index c.equation-item.result at in
    omega (arith, l, decls)

pub index_mut-requires : goal.index_mut-requires
index_mut-requires c =
    let f = c.args.f.now in
    let eqs = ap (λ (f : Function). f.eqs) c.f.view_is in
    let good : GoodFunction f = subst GoodFunction c.f.view_is c.f.invariant in
    let at = equation_read f c.f.inside.eqs c.deref-equation-items.result.now c.loop-equation.equation-index c.equation-item.result c.deref-equation-items.ensures eqs c.loop-equation-test.true c.equation-item.is in
    let l = left_inside f good c.loop-equation.equation-index c.equation-item.result at in
    let v = c.left.ensures in
    let n = c.loop-equation.invariant.size in
    let k = c.loop-equation.table.ok.0 in
    omega (arith, l, v, n, k)

pub loop-equation-preserved : goal.loop-equation-preserved
loop-equation-preserved c =
    let f = c.args.f.now in
    let i = c.loop-equation.equation-index in
    let q = c.equation-item.result in
    let eqs = ap (λ (f : Function). f.eqs) c.f.view_is in
    let same = c.deref-equation-items.ensures ∙ eqs in
    let good : GoodFunction f = subst GoodFunction c.f.view_is c.f.invariant in
    let at = equation_read f c.f.inside.eqs c.deref-equation-items.result.now i q c.deref-equation-items.ensures eqs c.loop-equation-test.true c.equation-item.is in
    let l = left_inside f good i q at in
    let v = c.left.ensures in
    let n = c.loop-equation.invariant.size in
    let inside : c.left.result < length c.loop-equation.table.items = omega (arith, l, v, n) in
    let list = c.in_ok-list.ensures ∙ ap (λ (f : Function). reads q.1 ++ clock_vars (clock_of f.decls q.0)) c.f.view_is in
    record {
      size = length-set c.loop-equation.table.items c.left.result c.in_ok-list.list ∙ n;
      told = subst (λ items. (x : ℕ) → get_or (set c.loop-equation.table.items c.left.result c.in_ok-list.list) x [] ≡ dependencies_of (right_of (take (i + 1) items) x) (clock_of f.decls x)) (sym same)
          (dependencies_more f good i q at c.loop-equation.table.items c.left.result c.in_ok-list.list c.left.ensures inside list
          (subst (λ items. (x : ℕ) → get_or c.loop-equation.table.items x [] ≡ dependencies_of (right_of (take i items) x) (clock_of f.decls x)) same c.loop-equation.invariant.told));
    }

pub returns-clause-inside : goal.returns-clause-inside
returns-clause-inside c =
    let f = c.args.f.now in
    let eqs = ap (λ (f : Function). f.eqs) c.f.view_is in
    let items = c.deref-equation-items.result.now in
    let all = take_all c.loop-equation.equation-index items c.loop-equation-test.false ∙ c.deref-equation-items.ensures ∙ eqs in
    let told : HasDependencies f c.loop-equation.table.items = record { size = c.loop-equation.invariant.size; tells = λ x. c.loop-equation.invariant.told x ∙ ap (λ l. dependencies_of (right_of l x) (clock_of f.decls x)) all } in
    subst IsTable (sym c.of.ensures) (table_inside f (subst GoodFunction c.f.view_is c.f.invariant) c.loop-equation.table.items told)
