-- Functions with the numbers of their names, of which nothing else is known.
use Rattle.std.specs.Prelude.{◌≡◌, ℕ, Some, List, length, map}
use Rattle.std.specs.List.{All}
use Rattle.lt_base.specs.Expression.{Expression}
use Rattle.lt_base.specs.Program.{Function}
use Rattle.lt_syntax.specs.declared.tree.NodeText.{NodeText}
use Rattle.lt_syntax.specs.Tree.{Tm}
use Rattle.lt_resolve.specs.declared.function.Draft.{Draft}
use Rattle.lt_resolve.specs.Names.{Name, number_of_name}
use Rattle.lt_resolve.specs.Scopes.{declarations, variables, functions}
use Rattle.lt_resolve.specs.Named.{IsDeclared, Along, numbers_from}
use Rattle.lt_resolve.specs.Known.{IsTranslated}

-- an equation with the number of its variable, and a right side that may call an imported operator with a wrong number of arguments
abbrev pub IsDraftEquation : List Name → List Name → Name × Tm → ℕ × Expression → Type 0
IsDraftEquation vars funcs q e = (number_of_name vars q.0 ≡ Some e.0) × IsTranslated vars funcs q.1 e.1

-- the declarations and equations of the draft's node
pub record IsDraft (funcs : List Name) (d : Draft) : Type 0 where
  pub decls : Along (IsDeclared (variables d.node.now)) (declarations d.node.now) d.decls
  pub eqs : Along (IsDraftEquation (variables d.node.now) funcs) d.node.now.eqs d.eqs

-- the function of a draft
abbrev pub completed : Draft → Function
completed d = record {
  name = d.node.now.name;
  decls = d.decls;
  n_in = length d.node.now.ins;
  outs = numbers_from (length d.node.now.ins) (length d.node.now.outs);
  eqs = d.eqs;
}

-- a draft of each function of the tree, in text order
pub record AreDrafts (t : List NodeText) (ds : List Draft) : Type 0 where
  pub nodes : map (λ d. d.node.now) ds ≡ t
  pub all : All (IsDraft (functions t)) ds
