use Rattle.std.proofs.Common.{◌++◌, ◌∙◌, ap, codes}
use Rattle.lt_c.specs.Spelled.{node_at}
use Rattle.lt_c_heads.proofs.Growing.{three_pieces, piece_is}
use Rattle.lt_c_heads.proofs.interface.guard.Goals as goal

pub returns : goal.returns
returns c =
    let name = c.node_name-name.ensures ∙ ap (λ ns. node_at ns c.args.file.now.node) c.deref.ensures in
    three_pieces c.extend.result c.args.out.now _ _ _ c.three.new.out c.three-2.new.out c.extend.new.self
    (piece_is c.args.out.now _ _ c.three.new.out (ap (λ z. codes "#ifndef LTTA_" ++ (z ++ codes "_H\n")) name) c.in_ok-three.ensures)
    (piece_is c.three.new.out _ _ c.three-2.new.out (ap (λ z. codes "#define LTTA_" ++ (z ++ codes "_H\n")) name) c.in_ok-three-2.ensures) c.extend.ensures.ok
