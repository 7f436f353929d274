use Rattle.lt_c_bodies.specs.Messages.{deliver_text}
use Rattle.lt_c_heads.proofs.Growing.{grows}
use Rattle.lt_c_bodies.proofs.transport.deliver_all.Goals as goal

pub peers-preserved : goal.peers-preserved
peers-preserved c = grows (deliver_text c.args.t.now c.args.file.now) c.args.out.now c.peers.out c.deliver.new.out c.args.peers.now c.peers.peer-index c.peer-item.result c.peers-test.true c.peer-item.is c.peers.invariant c.in_ok-deliver.ensures
