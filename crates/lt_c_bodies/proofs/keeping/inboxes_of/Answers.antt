use Rattle.lt_c_bodies.specs.Variables.{inbox_text}
use Rattle.lt_c_heads.proofs.Growing.{grows}
use Rattle.lt_c_bodies.proofs.keeping.inboxes_of.Goals as goal

pub peers-preserved : goal.peers-preserved
peers-preserved c = grows (inbox_text c.args.t.now c.args.regime c.args.names.now) c.args.out.now c.peers.out c.inbox.new.out c.args.peers.now c.peers.peer-index c.peer-item.result c.peers-test.true c.peer-item.is c.peers.invariant c.in_ok-inbox.ensures
