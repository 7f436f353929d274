use Rattle.lt_c_bodies.specs.Variables.{posted_text}
use Rattle.lt_c_heads.proofs.Growing.{grows}
use Rattle.lt_c_bodies.proofs.keeping.posted_all.Goals as goal

pub peers-preserved : goal.peers-preserved
peers-preserved c = grows (posted_text c.args.t.now c.args.names.now) c.args.out.now c.peers.out c.posted.new.out c.args.peers.now c.peers.peer-index c.peer-item.result c.peers-test.true c.peer-item.is c.peers.invariant c.in_ok-posted.ensures
