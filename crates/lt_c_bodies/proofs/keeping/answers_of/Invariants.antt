use Rattle.std.proofs.Common.{◌≡◌, ◌++◌, take}
use Rattle.lt_c.specs.Spelled.{node_at}
use Rattle.lt_c_bodies.specs.Variables.{answers_text}
use Rattle.std.specs.List.{flat_map}
use Rattle.lt_c_bodies.proofs.keeping.answers_of.Given as goal

abbrev pub invariant-nodes : goal.invariant-nodes
invariant-nodes l = l.out ≡ l.initial.out ++ flat_map (λ j. answers_text l.regime (node_at l.names j)) (take l.j-index l.answerers)
