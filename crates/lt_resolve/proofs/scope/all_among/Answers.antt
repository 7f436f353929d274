use Rattle.std.proofs.Common.{◌≡◌, sym, ap, ◌∙◌}
use Rattle.lt_syntax.specs.declared.tree.DeclText.{DeclText}
use Rattle.lt_resolve.specs.Names.{Name, if_missing, first_some}
use Rattle.lt_resolve.specs.Scopes.{declared_names}
use Rattle.lt_resolve.proofs.Lists.{some_map, some_none}
use Rattle.lt_resolve.proofs.Told.{needs_none_on, tells_at, tells_as}
use Rattle.lt_resolve.proofs.scope.all_among.Goals as goal

pub returns-in_err-check-clause-told : goal.returns-in_err-check-clause-told
returns-in_err-check-clause-told c =
    let ds = c.deref-decl-items.result.now in
    let missing = λ (x : Name). if_missing c.args.names.now x in
    let same : first_some (if_missing c.args.names.now) (declared_names c.args.decls.now) ≡ first_some (λ d. if_missing c.args.names.now d.name) ds =
    ap (λ l. first_some (if_missing c.args.names.now) (declared_names l)) (sym c.deref-decl-items.ensures) ∙ some_map missing (λ (d : DeclText). d.name) ds in
    tells_as _ _ _ same
    (tells_at (λ d. if_missing c.args.names.now d.name) ds c.decls.decl-index c.decl-item.result c.in_err-check.field-0.0 _ c.decls-test.true c.decl-item.is c.decls.invariant c.from_residual.ensures.1
    (rw (← c.as_str.ensures) c.in_err-check.ensures.told))

pub returns-in_err-check-clause-memory : goal.returns-in_err-check-clause-memory
returns-in_err-check-clause-memory c = needs_none_on c.in_err-check.field-0.0 _ c.from_residual.ensures.1 c.in_err-check.ensures.memory

pub returns-clause-told : goal.returns-clause-told
returns-clause-told c =
    let ds = c.deref-decl-items.result.now in
    let missing = λ (x : Name). if_missing c.args.names.now x in
    ap (λ l. first_some (if_missing c.args.names.now) (declared_names l)) (sym c.deref-decl-items.ensures)
    ∙ some_map missing (λ (d : DeclText). d.name) ds
    ∙ some_none (λ d. if_missing c.args.names.now d.name) ds c.decls.decl-index c.decls-test.false c.decls.invariant
