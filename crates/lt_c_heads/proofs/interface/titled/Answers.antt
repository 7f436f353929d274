use Rattle.lt_c_heads.proofs.Growing.{four_pieces}
use Rattle.lt_c_heads.proofs.interface.titled.Goals as goal

pub returns : goal.returns
returns c =
    four_pieces c.extend.result c.args.out.now _ _ _ _ c.opening.new.out c.guard.new.out c.interface.new.out c.extend.new.self
    c.in_ok-opening.ensures c.in_ok-guard.ensures c.in_ok-interface.ensures c.extend.ensures.ok
