use Rattle.std.proofs.Common.{◌++◌, refl, sym, ap, ◌∙◌, append_assoc}
use Rattle.lt_resolve.specs.Scopes.{declared_names}
use Rattle.lt_resolve.proofs.Lists.{or_none}
use Rattle.lt_resolve.proofs.Told.{tells_on, tells_as, refuses_first, refuses_then}
use Rattle.lt_resolve.proofs.Repeats.{repeated_variables, variables_are}
use Rattle.lt_resolve.proofs.scope.declare_all.Goals as goal

pub returns-in_err-declare-clause-told : goal.returns-in_err-declare-clause-told
returns-in_err-declare-clause-told c =
    tells_as _ _ _ (repeated_variables c.args.node.now c.args.names.now _ _ c.requires refl refl)
    (tells_on _ c.in_err-declare.field-0.0 _ c.from_residual.ensures.1 (refuses_first _ _ _ c.in_err-declare.ensures.told))

pub returns-in_err-declare-2-clause-told : goal.returns-in_err-declare-2-clause-told
returns-in_err-declare-2-clause-told c =
    tells_as _ _ _ (repeated_variables c.args.node.now c.args.names.now c.declare.new.names _ c.requires c.in_ok-declare.ensures.ok refl)
    (tells_on _ c.in_err-declare-2.field-0.0 _ c.from_residual-in_err-declare-2.ensures.1 (refuses_then _ _ _ c.in_ok-declare.ensures.told (refuses_first _ _ _ c.in_err-declare-2.ensures.told)))

pub returns-in_err-declare-3-clause-told : goal.returns-in_err-declare-3-clause-told
returns-in_err-declare-3-clause-told c =
    tells_as _ _ _ (repeated_variables c.args.node.now c.args.names.now c.declare.new.names c.declare-2.new.names c.requires c.in_ok-declare.ensures.ok c.in_ok-declare-2.ensures.ok)
    (tells_on _ c.in_err-declare-3.field-0.0 _ c.from_residual-in_err-declare-3.ensures.1 (refuses_then _ _ _ c.in_ok-declare.ensures.told (refuses_then _ _ _ c.in_ok-declare-2.ensures.told c.in_err-declare-3.ensures.told)))

pub returns-clause-told : goal.returns-clause-told
returns-clause-told c =
    repeated_variables c.args.node.now c.args.names.now c.declare.new.names c.declare-2.new.names c.requires c.in_ok-declare.ensures.ok c.in_ok-declare-2.ensures.ok
    ∙ or_none _ _ c.in_ok-declare.ensures.told ∙ or_none _ _ c.in_ok-declare-2.ensures.told ∙ c.in_ok-declare-3.ensures.told

pub returns-clause-ok : goal.returns-clause-ok
returns-clause-ok c =
    let n = c.args.node.now in
    c.in_ok-declare-3.ensures.ok
    ∙ ap (λ l. l ++ declared_names n.locals) (c.in_ok-declare-2.ensures.ok ∙ ap (λ l. l ++ declared_names n.outs) (c.in_ok-declare.ensures.ok ∙ ap (λ l. l ++ declared_names n.ins) c.requires))
    ∙ append_assoc (declared_names n.ins) (declared_names n.outs) (declared_names n.locals)
    ∙ sym (variables_are n)
