use Rattle.std.proofs.Common.{◌≡◌, Some, None, Option, ℕ, List, ◌++◌, ltb, length, sym, ap, ◌∙◌}
use Rattle.std.proofs.lemmas.List.{length-map}
use Rattle.lt_syntax.specs.declared.tree.DeclText.{DeclText}
use Rattle.lt_syntax.specs.declared.tree.NodeText.{NodeText}
use Rattle.lt_resolve.specs.Names.{Name, number_of_name}
use Rattle.lt_resolve.specs.Scopes.{declared_names, variables}
use Rattle.lt_resolve.proofs.Numbers.{number_tells, no_number_tells}
use Rattle.lt_resolve.proofs.Repeats.{variables_are}
use Rattle.lt_resolve.proofs.scope.Scope.is_input.Goals as goal

in_parts : (n m : NodeText) (names : List Name) (y : Name) (o : Option ℕ) → m ≡ n → names ≡ variables m → o ≡ number_of_name names y → number_of_name (declared_names n.ins ++ (declared_names n.outs ++ declared_names n.locals)) y ≡ o
in_parts n m names y o same e h = ap (λ l. number_of_name l y) (sym (variables_are n) ∙ ap variables (sym same) ∙ sym e) ∙ sym h

pub returns-in-Some : goal.returns-in-Some
returns-in-Some c =
    let n = c.args.self.now in
    let is = in_parts n c.self.inside.node.now c.self.inside.variables c.args.name.now (Some c.in-Some.i) c.self.view_is c.self.invariant c.in-Some.ensures in
    ap (ltb c.in-Some.i) (c.len.ensures ∙ ap (λ (m : NodeText). length m.ins) c.self.view_is ∙ sym (length-map n.ins (λ (d : DeclText). d.name)))
    ∙ number_tells (declared_names n.ins) (declared_names n.outs ++ declared_names n.locals) c.args.name.now c.in-Some.i is

pub returns-in-None : goal.returns-in-None
returns-in-None c =
    let n = c.args.self.now in
    let is = in_parts n c.self.inside.node.now c.self.inside.variables c.args.name.now None c.self.view_is c.self.invariant c.in-None.ensures in
    no_number_tells (declared_names n.ins) (declared_names n.outs ++ declared_names n.locals) c.args.name.now is
