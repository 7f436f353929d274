use Rattle.std.proofs.Common.{◌≡◌, ℕ, ◌++◌, List, Option, sym, ap, ◌∙◌, subst}
use Rattle.std.specs.Option.{option_or}
use Rattle.lt_base.specs.Expression.{Expression}
use Rattle.lt_syntax.specs.declared.tree.DeclText.{DeclText}
use Rattle.lt_syntax.specs.declared.tree.NodeText.{NodeText}
use Rattle.lt_resolve.specs.Names.{Name, first_some}
use Rattle.lt_resolve.specs.Scopes.{variables}
use Rattle.lt_resolve.specs.Faults.{unknown_clock, unknown_declared, unknown_equation, unknown_in}
use Rattle.lt_resolve.specs.Named.{Along}
use Rattle.lt_resolve.specs.Drafts.{IsDraftEquation}
use Rattle.lt_resolve.proofs.Lists.{or_assoc, or_none, some_append}
use Rattle.lt_resolve.proofs.Told.{tells_on, tells_as, refuses_first, refuses_then}
use Rattle.lt_resolve.proofs.Good.{drafted}
use Rattle.lt_resolve.proofs.function.draft_of.Goals as goal

-- the four parts
module _ (funcs : List Name) (n m : NodeText) (vars : List Name) (same : m ≡ n) (is : vars ≡ variables n) where
  parts : unknown_in funcs n ≡ option_or (unknown_declared vars m.ins) (option_or (unknown_declared vars m.outs) (option_or (unknown_declared vars m.locals) (first_some (unknown_equation vars funcs) m.eqs)))
  parts =
      let f : DeclText → Option Name = λ d. unknown_clock vars d.clock in
      let E = first_some (unknown_equation vars funcs) m.eqs in
      ap (unknown_in funcs) (sym same)
      ∙ ap (λ v. option_or (unknown_declared v (m.ins ++ (m.outs ++ m.locals))) (first_some (unknown_equation v funcs) m.eqs)) (ap variables same ∙ sym is)
      ∙ ap (λ o. option_or o E) (some_append f m.ins (m.outs ++ m.locals) ∙ ap (option_or (first_some f m.ins)) (some_append f m.outs m.locals))
      ∙ or_assoc (first_some f m.ins) (option_or (first_some f m.outs) (first_some f m.locals)) E
      ∙ ap (option_or (first_some f m.ins)) (or_assoc (first_some f m.outs) (first_some f m.locals) E)

pub returns-in_err-declare-clause-told : goal.returns-in_err-declare-clause-told
returns-in_err-declare-clause-told c =
    tells_as _ _ _ (parts c.args.functions.now c.args.scope.now c.node-node.result.now c.variables-variables.result.now c.node-node.ensures c.variables-variables.ensures)
    (tells_on _ c.in_err-declare.field-0.0 _ c.from_residual.ensures.1 (refuses_first _ _ _ c.in_err-declare.ensures.told))

pub returns-in_err-declare-2-clause-told : goal.returns-in_err-declare-2-clause-told
returns-in_err-declare-2-clause-told c =
    tells_as _ _ _ (parts c.args.functions.now c.args.scope.now c.node-node.result.now c.variables-variables.result.now c.node-node.ensures c.variables-variables.ensures)
    (tells_on _ c.in_err-declare-2.field-0.0 _ c.from_residual-in_err-declare-2.ensures.1 (refuses_then _ _ _ c.in_ok-declare.ensures.told (refuses_first _ _ _ c.in_err-declare-2.ensures.told)))

pub returns-in_err-declare-3-clause-told : goal.returns-in_err-declare-3-clause-told
returns-in_err-declare-3-clause-told c =
    tells_as _ _ _ (parts c.args.functions.now c.args.scope.now c.node-node.result.now c.variables-variables.result.now c.node-node.ensures c.variables-variables.ensures)
    (tells_on _ c.in_err-declare-3.field-0.0 _ c.from_residual-in_err-declare-3.ensures.1
    (refuses_then _ _ _ c.in_ok-declare.ensures.told (refuses_then _ _ _ c.in_ok-declare-2.ensures.told (refuses_first _ _ _ c.in_err-declare-3.ensures.told))))

pub returns-in_err-eqs-clause-told : goal.returns-in_err-eqs-clause-told
returns-in_err-eqs-clause-told c =
    tells_as _ _ _ (parts c.args.functions.now c.args.scope.now c.node-node.result.now c.variables-variables.result.now c.node-node.ensures c.variables-variables.ensures)
    (tells_on _ c.in_err-eqs.field-0.0 _ c.from_residual-in_err-eqs.ensures.1
    (refuses_then _ _ _ c.in_ok-declare.ensures.told (refuses_then _ _ _ c.in_ok-declare-2.ensures.told (refuses_then _ _ _ c.in_ok-declare-3.ensures.told c.in_err-eqs.ensures.told))))

pub returns-clause-told : goal.returns-clause-told
returns-clause-told c =
    parts c.args.functions.now c.args.scope.now c.node-node.result.now c.variables-variables.result.now c.node-node.ensures c.variables-variables.ensures
    ∙ or_none _ _ c.in_ok-declare.ensures.told ∙ or_none _ _ c.in_ok-declare-2.ensures.told ∙ or_none _ _ c.in_ok-declare-3.ensures.told ∙ c.in_ok-eqs.ensures.told

pub returns-clause-draft : goal.returns-clause-draft
returns-clause-draft c =
    let vars = c.variables-variables.result.now in
    let funcs = c.args.functions.now in
    drafted funcs vars (record { node = c.node-node.result; decls = c.of.result; eqs = c.of-2.result }) (c.variables-variables.ensures ∙ ap variables (sym c.node-node.ensures))
    c.new-decls.result.items c.declare.new.out.items c.declare-2.new.out.items c.declare-3.new.out.items
    c.new-decls.ensures.items c.in_ok-declare.ensures.named c.in_ok-declare-2.ensures.named c.in_ok-declare-3.ensures.named c.of.ensures
    (subst (λ (es : List (ℕ × Expression)). Along (IsDraftEquation vars funcs) c.node-node.result.now.eqs es) (sym c.of-2.ensures) c.in_ok-eqs.ensures.named)
