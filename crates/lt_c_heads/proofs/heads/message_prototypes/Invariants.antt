use Rattle.std.proofs.Common.{◌≡◌, ◌++◌, take}
use Rattle.lt_c_heads.specs.Heads.{as_prototype, message_head}
use Rattle.std.specs.List.{flat_map}
use Rattle.lt_c_heads.proofs.heads.message_prototypes.Given as goal

abbrev pub invariant-peers : goal.invariant-peers
invariant-peers l = l.out ≡ l.initial.out ++ flat_map (λ p. as_prototype (message_head l.t l.names p)) (take l.peer-index l.peers)
