use Rattle.std.proofs.Common.{◌≡◌, take}
use Rattle.lt_c_bodies.specs.Acts.{posts_of}
use Rattle.lt_c_bodies.proofs.acting.posts_of.Given as goal

abbrev pub invariant-peers : goal.invariant-peers
invariant-peers l = l.all ≡ posts_of (take l.peer-index l.peers)
