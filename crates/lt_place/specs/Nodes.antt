-- On which node a placement puts each variable.
use Rattle.std.specs.Prelude.{◌≡◌, ℕ, suc, List, [], ◌∷◌, ◌++◌, map, slice_index, if◌then◌else◌}
use Rattle.std.specs.List.{count_by}
use Rattle.std.specs.Str.{bytes_eq}
use Rattle.lt_norm.specs.Flat.{Originated}
use Rattle.lt_place_reads.specs.Origins.{IsMain, name_of}
use Rattle.lt_arch.specs.declared.named.NamedNode.{NamedNode}
use Rattle.lt_arch.specs.declared.placement.Placement.{Placement}
use Rattle.lt_arch.specs.declared.placement.Placement.TheVariants.{All, Named}

-- a name on the list of a node, and the number of the node
abbrev pub Listing : Type 0
Listing = List ℕ × ℕ

-- the names on the list of the node of this number
abbrev pub listings_on : ℕ → List (List ℕ) → List Listing
listings_on n names = map (λ name. (name, n)) names

-- all names on the lists of these nodes, node by node and each list in its order; the nodes are numbered from n on
abbrev pub listings_from : ℕ → List NamedNode → List Listing
listings_from n [] = []
listings_from n (node ∷ nodes) = listings_on n node.vars ++ listings_from (suc n) nodes

-- all names that a placement lists
abbrev pub listings : Placement → List Listing
listings All = []
listings (Named named) = listings_from 0 named.nodes

-- how often a name is listed
abbrev pub times : List Listing → List ℕ → ℕ
times ls name = count_by (λ l. bytes_eq name l.0) ls

-- the node on whose list a name stands first, and 0 where none has it
abbrev pub node_listed : List Listing → List ℕ → ℕ
node_listed [] name = 0
node_listed (l ∷ ls) name = if bytes_eq name l.0 then l.1 else node_listed ls name

-- how often a placement puts a variable of this name on a node: once where there is one node for everything, else as often as it is listed
abbrev pub puts : Placement → List ℕ → ℕ
puts All name = 1
puts (Named named) name = times (listings_from 0 named.nodes) name

-- the node of a variable of this name
abbrev pub node_named : Placement → List ℕ → ℕ
node_named All name = 0
node_named (Named named) name = node_listed (listings_from 0 named.nodes) name

-- the node of each variable: that of the variable of `main` from whose equation it arose
abbrev pub nodes_of : Originated → Placement → List ℕ
nodes_of f p = map (λ o. node_named p (name_of f o)) f.origin

abbrev pub node_of : Originated → Placement → ℕ → ℕ
node_of f p x = slice_index (nodes_of f p) x

-- a variable of `main` has this name
abbrev pub IsNameOfMain : Originated → List ℕ → Type 0
IsNameOfMain f name = (x : ℕ) × IsMain f x × (name_of f x ≡ name)

-- each of these names is that of a variable of `main`
abbrev pub EachKnown : Originated → List Listing → Type 0
EachKnown f [] = Unit {0}
EachKnown f (l ∷ ls) = IsNameOfMain f l.0 × EachKnown f ls
