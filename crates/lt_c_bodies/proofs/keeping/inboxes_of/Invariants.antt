use Rattle.std.proofs.Common.{◌≡◌, ◌++◌, take}
use Rattle.lt_c_bodies.specs.Variables.{inbox_text}
use Rattle.std.specs.List.{flat_map}
use Rattle.lt_c_bodies.proofs.keeping.inboxes_of.Given as goal

abbrev pub invariant-peers : goal.invariant-peers
invariant-peers l = l.out ≡ l.initial.out ++ flat_map (inbox_text l.t l.regime l.names) (take l.peer-index l.peers)
