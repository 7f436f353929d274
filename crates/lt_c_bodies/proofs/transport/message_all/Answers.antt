use Rattle.lt_c_bodies.specs.Messages.{message_text}
use Rattle.lt_c_heads.proofs.Growing.{grows}
use Rattle.lt_c_bodies.proofs.transport.message_all.Goals as goal

pub peers-preserved : goal.peers-preserved
peers-preserved c = grows (message_text c.args.t.now c.args.file.now) c.args.out.now c.peers.out c.message.new.out c.args.peers.now c.peers.peer-index c.peer-item.result c.peers-test.true c.peer-item.is c.peers.invariant c.in_ok-message.ensures
