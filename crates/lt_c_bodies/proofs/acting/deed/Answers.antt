use Rattle.lt_c_heads.proofs.Growing.{five_pieces}
use Rattle.lt_c_bodies.proofs.acting.deed.Goals as goal

pub returns : goal.returns
returns c =
    five_pieces c.extend-2.result c.args.out.now _ _ _ _ _ c.four.new.out c.extend.new.self c.deed_case.new.out c.deed_case-2.new.out c.extend-2.new.self
    c.in_ok-four.ensures c.in_ok-extend.ensures.ok c.in_ok-deed_case.ensures c.in_ok-deed_case-2.ensures c.extend-2.ensures.ok
