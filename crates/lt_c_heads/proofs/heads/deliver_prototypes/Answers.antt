use Rattle.lt_c_heads.specs.Heads.{as_prototype, deliver_head}
use Rattle.lt_c_heads.proofs.Growing.{grows}
use Rattle.lt_c_heads.proofs.heads.deliver_prototypes.Goals as goal

pub peers-preserved : goal.peers-preserved
peers-preserved c = grows (λ p. as_prototype (deliver_head c.args.t.now c.args.names.now p)) c.args.out.now c.peers.out c.deliver_prototype.new.out c.args.peers.now c.peers.peer-index c.peer-item.result c.peers-test.true c.peer-item.is c.peers.invariant c.in_ok-deliver_prototype.ensures
