use Rattle.std.proofs.Common.{◌≡◌, List, Some, None, Bool, true, sym, ap, ◌∙◌, if◌then◌else◌}
use Rattle.lt_syntax.specs.declared.tree.NodeText.{NodeText}
use Rattle.lt_syntax.specs.Tree.{Tm}
use Rattle.lt_resolve.specs.Names.{Name, if_among, among, first_some}
use Rattle.lt_resolve.specs.Scopes.{declared_names}
use Rattle.lt_resolve.specs.Faults.{input_equation_in}
use Rattle.lt_resolve.proofs.Lists.{some_map, some_here, some_none}
use Rattle.lt_resolve.proofs.scope.Scope.input_equation.Goals as goal

module _ (n m : NodeText) (eqs : List (Name × Tm)) (same : m ≡ n) (is : eqs ≡ m.eqs) where
  of_lefts : input_equation_in n ≡ first_some (λ q. if_among (declared_names n.ins) q.0) eqs
  of_lefts =
      some_map (if_among (declared_names n.ins)) (λ (q : Name × Tm). q.0) n.eqs
      ∙ ap (first_some (λ q. if_among (declared_names n.ins) q.0)) (ap (λ (k : NodeText). k.eqs) (sym same) ∙ sym is)

if_there : (names : List Name) (x y : Name) (b : Bool) → y ≡ x → b ≡ true → b ≡ among names y → if_among names x ≡ Some y
if_there names x y b e t h = (λ i. if_among names (sym e i)) ∙ ap (λ c. if c then Some y else None) (sym h ∙ t)

pub returns-then-is_input-clause-told : goal.returns-then-is_input-clause-told
returns-then-is_input-clause-told c =
    let n = c.args.self.now in
    let eqs = c.deref-eq-items.result.now in
    of_lefts n c.self.inside.node.now eqs c.self.view_is c.deref-eq-items.ensures
    ∙ some_here (λ q. if_among (declared_names n.ins) q.0) eqs c.eqs.eq-index c.eq-item.result c.as_str-name.result.now c.eqs-test.true c.eq-item.is
    (if_there (declared_names n.ins) c.eq-item.result.0 c.as_str-name.result.now c.is_input.result (c.as_str-name.ensures ∙ c.left.ensures) c.if-is_input.true c.is_input.ensures)
    c.eqs.invariant

pub returns-clause-told : goal.returns-clause-told
returns-clause-told c =
    let n = c.args.self.now in
    let eqs = c.deref-eq-items.result.now in
    of_lefts n c.self.inside.node.now eqs c.self.view_is c.deref-eq-items.ensures
    ∙ some_none (λ q. if_among (declared_names n.ins) q.0) eqs c.eqs.eq-index c.eqs-test.false c.eqs.invariant
