-- Names of functions and variables, from a tree.
use Rattle.std.specs.Prelude.{ℕ, List, [], Option, Some, None, slice_get, slice_index_or}
use Rattle.lt_syntax.specs.declared.tree.NodeText.{NodeText}
use Rattle.lt_resolve.specs.Scopes.{variables}

abbrev pub tree_function_name : Option NodeText → List ℕ
tree_function_name None = []
tree_function_name (Some n) = n.name

-- the name of the function of this number
abbrev pub function_name : List NodeText → ℕ → List ℕ
function_name t func = tree_function_name (slice_get t func)

-- the name of a function's variable
abbrev pub tree_variable_name : NodeText → ℕ → List ℕ
tree_variable_name n x = slice_index_or (variables n) x []

abbrev pub variable_in : Option NodeText → ℕ → List ℕ
variable_in None x = []
variable_in (Some n) x = tree_variable_name n x

-- the name of the function's variable of this number
abbrev pub variable_name : List NodeText → (func variable : ℕ) → List ℕ
variable_name t func x = variable_in (slice_get t func) x
