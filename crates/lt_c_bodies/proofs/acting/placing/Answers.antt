use Rattle.lt_c_heads.proofs.Growing.{two_pieces}
use Rattle.lt_c_bodies.proofs.acting.placing.Goals as goal

pub returns : goal.returns
returns c = two_pieces c.placing_pointers.result c.args.out.now _ _ c.extend.new.self c.placing_pointers.new.out c.in_ok-extend.ensures.ok c.placing_pointers.ensures
