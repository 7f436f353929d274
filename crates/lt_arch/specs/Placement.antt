-- The nodes of a placement.
use Rattle.std.specs.Prelude.{ℕ, List, [], ◌∷◌, codes}
use Rattle.lt_arch.specs.declared.placement.Placement.{Placement}
use Rattle.lt_arch.specs.declared.placement.Placement.TheVariants.{All, Named}
use Rattle.lt_arch.specs.NodeNames.{names_of}

-- their names, by their numbers: one node `all`, or those that the setup names
abbrev pub node_names : Placement → List (List ℕ)
node_names All = codes "all" ∷ []
node_names (Named named) = names_of named.nodes
