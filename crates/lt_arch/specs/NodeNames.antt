-- The names of a setup's nodes.
use Rattle.std.specs.Prelude.{ℕ, List, map}
use Rattle.std.specs.Ordering.{nat_cmp}
use Rattle.std.specs.declared.cmp.Ordering.{Ordering}
use Rattle.std.specs.Cmp.Lexicographic.{slice_cmp}
use Rattle.lt_arch.specs.declared.named.NamedNode.{NamedNode}

-- the names, node by node
abbrev pub names_of : List NamedNode → List (List ℕ)
names_of nodes = map (λ node. node.name) nodes

-- the order of texts by their bytes
abbrev pub byte_order : List ℕ → List ℕ → Ordering
byte_order = slice_cmp nat_cmp
