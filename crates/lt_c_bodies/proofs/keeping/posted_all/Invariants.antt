use Rattle.std.proofs.Common.{◌≡◌, ◌++◌, take}
use Rattle.lt_c_bodies.specs.Variables.{posted_text}
use Rattle.std.specs.List.{flat_map}
use Rattle.lt_c_bodies.proofs.keeping.posted_all.Given as goal

abbrev pub invariant-peers : goal.invariant-peers
invariant-peers l = l.out ≡ l.initial.out ++ flat_map (posted_text l.t l.names) (take l.peer-index l.peers)
