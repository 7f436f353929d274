use Rattle.std.proofs.Common.{◌≡◌, ◌++◌, take}
use Rattle.lt_c_bodies.specs.Messages.{deliver_text}
use Rattle.std.specs.List.{flat_map}
use Rattle.lt_c_bodies.proofs.transport.deliver_all.Given as goal

abbrev pub invariant-peers : goal.invariant-peers
invariant-peers l = l.out ≡ l.initial.out ++ flat_map (deliver_text l.t l.file) (take l.peer-index l.peers)
