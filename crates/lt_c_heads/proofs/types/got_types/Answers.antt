use Rattle.lt_c_heads.specs.Types.{got_type_text}
use Rattle.lt_c_heads.proofs.Growing.{grows}
use Rattle.lt_c_heads.proofs.types.got_types.Goals as goal

pub peers-preserved : goal.peers-preserved
peers-preserved c = grows (got_type_text c.args.t.now c.args.regime c.args.names.now) c.args.out.now c.peers.out c.got_type.new.out c.args.peers.now c.peers.peer-index c.peer-item.result c.peers-test.true c.peer-item.is c.peers.invariant c.in_ok-got_type.ensures
