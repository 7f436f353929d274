use Rattle.std.proofs.Common.{◌≡◌, ◌++◌, take}
use Rattle.lt_c_heads.specs.Heads.{as_prototype, acknowledge_head}
use Rattle.std.specs.List.{flat_map}
use Rattle.lt_c_heads.proofs.heads.acknowledge_prototypes.Given as goal

abbrev pub invariant-nodes : goal.invariant-nodes
invariant-nodes l = l.out ≡ l.initial.out ++ flat_map (λ j. as_prototype (acknowledge_head l.t l.regime l.names j)) (take l.j-index l.answerers)
