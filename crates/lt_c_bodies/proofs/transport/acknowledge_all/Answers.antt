use Rattle.lt_c_bodies.specs.Messages.{acknowledge_text}
use Rattle.lt_c_heads.proofs.Growing.{grows_there}
use Rattle.lt_c_bodies.proofs.transport.acknowledge_all.Goals as goal

pub nodes-preserved : goal.nodes-preserved
nodes-preserved c = grows_there (acknowledge_text c.args.t.now c.args.file.now) c.args.out.now c.nodes.out c.acknowledge.new.out c.args.js.now c.nodes.j-index 0 c.nodes-test.true c.nodes.invariant c.in_ok-acknowledge.ensures
