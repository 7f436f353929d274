use Rattle.std.proofs.Common.{codes, ◌++◌}
use Rattle.lt_c.specs.Tree.{nothing}
use Rattle.lt_c.specs.Text.{statement_text}
use Rattle.lt_c.specs.Views.{statement_of}
use Rattle.lt_c_heads.specs.Words.{spelling, indent}
use Rattle.lt_c_heads.specs.Heads.{activate_head}
use Rattle.lt_c_bodies.specs.Acts.{activation, placing_text, deed_text}
use Rattle.lt_c_heads.proofs.Growing.{five_pieces, piece_is}
use Rattle.lt_c_bodies.proofs.acting.activate.Goals as goal

pub returns : goal.returns
returns c =
    let t = c.args.t.now in
    let f = c.args.file.now in
    let stated = piece_is c.placing.new.out (statement_text (spelling f) indent (statement_of nothing c.args.acts.now)) (statement_text (spelling f) indent (activation f nothing)) c.statement.new.out (λ k. statement_text (spelling f) indent (c.requires nothing k)) c.in_ok-statement.ensures in
    five_pieces c.extend.result c.args.out.now
    (codes "\n" ++ (activate_head t f ++ codes "\n{\n")) (placing_text f) (statement_text (spelling f) indent (activation f nothing)) (deed_text t) (codes "}\n")
    c.opening.new.out c.placing.new.out c.statement.new.out c.deed.new.out c.extend.new.self
    c.in_ok-opening.ensures c.in_ok-placing.ensures stated c.in_ok-deed.ensures c.extend.ensures.ok
