use Rattle.lt_c_heads.proofs.Growing.{four_pieces}
use Rattle.lt_c_heads.proofs.types.deed_type.Goals as goal

pub returns : goal.returns
returns c =
    four_pieces c.two-3.result c.args.out.now _ _ _ _ c.three.new.out c.two.new.out c.two-2.new.out c.two-3.new.out
    c.in_ok-three.ensures c.in_ok-two.ensures c.in_ok-two-2.ensures c.two-3.ensures
