use Rattle.lt_c_bodies.specs.Variables.{slot_text}
use Rattle.lt_c_heads.proofs.Growing.{grows_at}
use Rattle.lt_c_bodies.proofs.keeping.declared_slots.Goals as goal

pub decls-preserved : goal.decls-preserved
decls-preserved c = grows_at (slot_text c.args.decls.now) c.args.out.now c.decls.out c.slot.new.out c.args.decls.now c.decls.x c.index-decls-x.result c.decls-test.true c.index-decls-x.is c.decls.invariant c.in_ok-slot.ensures
