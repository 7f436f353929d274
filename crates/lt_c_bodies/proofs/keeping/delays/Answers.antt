use Rattle.lt_c_bodies.specs.Variables.{delay_text}
use Rattle.lt_c_heads.proofs.Growing.{grows}
use Rattle.lt_c_bodies.proofs.keeping.delays.Goals as goal

pub keeps-preserved : goal.keeps-preserved
keeps-preserved c = grows (delay_text c.args.decls.now) c.args.out.now c.keeps.out c.delay.new.out c.args.keeps.now c.keeps.keep-index c.keep-item.result c.keeps-test.true c.keep-item.is c.keeps.invariant c.in_ok-delay.ensures
