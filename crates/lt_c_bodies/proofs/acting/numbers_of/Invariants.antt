use Rattle.std.proofs.Common.{◌≡◌, take}
use Rattle.lt_c_bodies.specs.Acts.{peer_numbers}
use Rattle.lt_c_bodies.proofs.acting.numbers_of.Given as goal

abbrev pub invariant-peers : goal.invariant-peers
invariant-peers l = l.all ≡ peer_numbers (take l.peer-index l.peers)
