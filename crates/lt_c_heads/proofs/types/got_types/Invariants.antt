use Rattle.std.proofs.Common.{◌≡◌, ◌++◌, take}
use Rattle.lt_c_heads.specs.Types.{got_type_text}
use Rattle.std.specs.List.{flat_map}
use Rattle.lt_c_heads.proofs.types.got_types.Given as goal

abbrev pub invariant-peers : goal.invariant-peers
invariant-peers l = l.out ≡ l.initial.out ++ flat_map (got_type_text l.t l.regime l.names) (take l.peer-index l.peers)
