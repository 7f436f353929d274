use Rattle.lt_c_heads.specs.Heads.{as_prototype, acknowledge_head}
use Rattle.lt_c_heads.proofs.Growing.{grows_there}
use Rattle.lt_c_heads.proofs.heads.acknowledge_prototypes.Goals as goal

pub nodes-preserved : goal.nodes-preserved
nodes-preserved c = grows_there (λ j. as_prototype (acknowledge_head c.args.t.now c.args.regime c.args.names.now j)) c.args.out.now c.nodes.out c.acknowledge_prototype.new.out c.args.answerers.now c.nodes.j-index 0 c.nodes-test.true c.nodes.invariant c.in_ok-acknowledge_prototype.ensures
