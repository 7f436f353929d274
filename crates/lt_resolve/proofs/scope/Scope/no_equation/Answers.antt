use Rattle.std.proofs.Common.{◌≡◌, ◌++◌, List, Some, None, sym, ap, ◌∙◌, if◌then◌else◌}
use Rattle.lt_syntax.specs.declared.tree.NodeText.{NodeText}
use Rattle.lt_resolve.specs.Names.{Name, among, if_missing, first_some}
use Rattle.lt_resolve.specs.Scopes.{declared_names, left_names}
use Rattle.lt_resolve.specs.Faults.{no_equation_in}
use Rattle.lt_resolve.proofs.Lists.{some_same}
use Rattle.lt_resolve.proofs.Told.{tells_as}
use Rattle.lt_resolve.proofs.scope.Scope.no_equation.Goals as goal

-- the same by the table
in_table : (n m : NodeText) (table : List Name) → m ≡ n → ((x : Name) → among table x ≡ among (left_names m) x) → no_equation_in n ≡ first_some (if_missing table) (declared_names (m.outs ++ m.locals))
in_table n m table same is =
    ap no_equation_in (sym same) ∙ some_same (if_missing (left_names m)) (if_missing table) (λ x. ap (λ b. if b then None else Some x) (sym (is x))) (declared_names (m.outs ++ m.locals))

pub returns : goal.returns
returns c = tells_as _ _ _ (in_table c.args.self.now c.self.inside.node.now c.in_ok-lefts.lefts c.self.view_is c.in_ok-lefts.ensures) c.others_among-told.ensures
