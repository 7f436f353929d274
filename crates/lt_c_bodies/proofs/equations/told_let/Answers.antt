use Rattle.lt_c_heads.proofs.Growing.{five_pieces}
use Rattle.lt_c_bodies.proofs.equations.told_let.Goals as goal

pub returns : goal.returns
returns c =
    five_pieces c.statement_of_let.result c.args.out.now _ _ _ _ _ c.extend.new.self c.extend-2.new.self c.equation.new.out c.extend-3.new.self c.statement_of_let.new.out
    c.in_ok-extend.ensures.ok c.in_ok-extend-2.ensures.ok c.in_ok-equation.ensures c.in_ok-extend-3.ensures.ok c.statement_of_let.ensures
