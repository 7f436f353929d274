use Rattle.std.proofs.Common.{codes, ◌++◌, ap, ◌∙◌}
use Rattle.lt_c.specs.Spelled.{node_at}
use Rattle.lt_c_heads.specs.Types.{message_struct_text}
use Rattle.lt_c_heads.proofs.Growing.{three_pieces, last_is}
use Rattle.lt_c_heads.proofs.types.got_type.Goals as goal

pub returns : goal.returns
returns c =
    let t = c.args.t.now in
    let name = node_at c.args.names.now c.args.peer.now.number in
    three_pieces c.four.result c.args.out.now
    (codes "\n/* A message from " ++ (name ++ codes ". */\n")) (message_struct_text c.args.regime c.args.peer.now.values) (t ++ (codes "_from_" ++ (name ++ codes ";\n")))
    c.three.new.out c.message_struct.new.out c.four.new.out
    (c.in_ok-three.ensures ∙ ap (λ z. c.args.out.now ++ (codes "\n/* A message from " ++ (z ++ codes ". */\n"))) c.node_name-name.ensures)
    (c.in_ok-message_struct.ensures ∙ ap (λ z. c.three.new.out ++ message_struct_text c.args.regime z) c.deref.ensures)
    (last_is c.four.result c.message_struct.new.out (t ++ (codes "_from_" ++ (c.node_name-name.result.now ++ codes ";\n"))) (t ++ (codes "_from_" ++ (name ++ codes ";\n"))) c.four.new.out
    (λ k. t ++ (codes "_from_" ++ (c.node_name-name.ensures k ++ codes ";\n"))) c.four.ensures)
