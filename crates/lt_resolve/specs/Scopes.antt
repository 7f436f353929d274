-- What a tree declares.
use Rattle.std.specs.Prelude.{◌++◌, List, map}
use Rattle.lt_syntax.specs.declared.tree.DeclText.{DeclText}
use Rattle.lt_syntax.specs.declared.tree.NodeText.{NodeText}
use Rattle.lt_resolve.specs.Names.{Name}

-- a function's declarations in the order of their numbers: inputs, then outputs, then locals
abbrev pub declarations : NodeText → List DeclText
declarations n = n.ins ++ (n.outs ++ n.locals)

-- the declared names
abbrev pub declared_names : List DeclText → List Name
declared_names ds = map (λ d. d.name) ds

-- the variables of a function
abbrev pub variables : NodeText → List Name
variables n = declared_names (declarations n)

-- the variables on the left of a function's equations
abbrev pub left_names : NodeText → List Name
left_names n = map (λ q. q.0) n.eqs

-- the functions of a tree
abbrev pub functions : List NodeText → List Name
functions t = map (λ n. n.name) t
