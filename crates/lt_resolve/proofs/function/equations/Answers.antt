use Rattle.std.proofs.Common.{◌≡◌, None, List, subst}
use Rattle.lt_syntax.specs.Tree.{Tm}
use Rattle.lt_resolve.specs.Names.{Name, first_some}
use Rattle.lt_resolve.specs.Faults.{unknown_equation}
use Rattle.lt_resolve.specs.Drafts.{IsDraftEquation}
use Rattle.lt_resolve.proofs.Lists.{some_next, some_none}
use Rattle.lt_resolve.proofs.Pairs.{along_more, along_all}
use Rattle.lt_resolve.specs.Named.{Along}
use Rattle.lt_resolve.specs.Told.{TellsName}
use Rattle.lt_resolve.proofs.Told.{tells_at}
use Rattle.lt_resolve.proofs.function.equations.Goals as goal

pub eqs-preserved : goal.eqs-preserved
eqs-preserved c =
    let vars = c.args.variables.now in
    let funcs = c.args.functions.now in
    let items = c.deref-eq-items.result.now in
    record {
      rest = some_next (unknown_equation vars funcs) items c.eqs.eq-index c.eq-item.result c.eqs-test.true c.eq-item.is c.in_ok-equation.ensures.told c.eqs.invariant.rest;
      along = along_more (IsDraftEquation vars funcs) items c.eqs.eq-index c.eq-item.result c.eqs.list.items c.push.new.self.items c.in_ok-equation.field-0 c.eqs-test.true c.eq-item.is
          c.eqs.invariant.along c.in_ok-equation.ensures.named c.in_ok-push.ensures.items;
    }

pub returns-in_err-equation-clause-told : goal.returns-in_err-equation-clause-told
returns-in_err-equation-clause-told c =
    let f = unknown_equation c.args.variables.now c.args.functions.now in
    let items = c.deref-eq-items.result.now in
    subst (λ (l : List (Name × Tm)). TellsName (first_some f l) c.from_residual-in_err-equation.result) c.deref-eq-items.ensures
    (tells_at f items c.eqs.eq-index c.eq-item.result c.in_err-equation.field-0.0 c.from_residual-in_err-equation.result c.eqs-test.true c.eq-item.is c.eqs.invariant.rest c.from_residual-in_err-equation.ensures.1 c.in_err-equation.ensures.told)

pub returns-clause-told : goal.returns-clause-told
returns-clause-told c =
    let f = unknown_equation c.args.variables.now c.args.functions.now in
    subst (λ (l : List (Name × Tm)). first_some f l ≡ None) c.deref-eq-items.ensures (some_none f c.deref-eq-items.result.now c.eqs.eq-index c.eqs-test.false c.eqs.invariant.rest)

pub returns-clause-named : goal.returns-clause-named
returns-clause-named c =
    let R = IsDraftEquation c.args.variables.now c.args.functions.now in
    subst (λ (l : List (Name × Tm)). Along R l c.eqs.list.items) c.deref-eq-items.ensures (along_all R c.deref-eq-items.result.now c.eqs.eq-index c.eqs.list.items c.eqs-test.false c.eqs.invariant.along)
