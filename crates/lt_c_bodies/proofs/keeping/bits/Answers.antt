use Rattle.lt_c_heads.proofs.Growing.{two_pieces}
use Rattle.lt_c_bodies.proofs.keeping.bits.Goals as goal

pub returns : goal.returns
returns c = two_pieces c.three-2.result c.args.out.now _ _ c.three.new.out c.three-2.new.out c.in_ok-three.ensures c.three-2.ensures
