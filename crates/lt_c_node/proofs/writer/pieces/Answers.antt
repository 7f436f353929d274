use Rattle.std.proofs.Common.{◌++◌, ◌∙◌, ap}
use Rattle.lt_c.specs.HeadText.{file_head_text}
use Rattle.lt_c_bodies.specs.Acts.{file_calls}
use Rattle.lt_c_node.specs.NodeText.{opening_text, declarations_text, functions_text}
use Rattle.lt_c_heads.proofs.Growing.{four_pieces}
use Rattle.lt_c_node.proofs.writer.pieces.Goals as goal

pub returns : goal.returns
returns c =
    let t = c.args.t.now in
    let f = c.args.file.now in
    four_pieces c.functions.result c.args.out.now (opening_text f) (file_head_text (file_calls f)) (declarations_text t f) (functions_text t f)
    c.opening.new.out c.head.new.out c.declarations.new.out c.functions.new.out
    c.in_ok-opening.ensures (c.in_ok-head.ensures ∙ ap (λ z. c.opening.new.out ++ file_head_text z) c.file_calls.ensures) c.in_ok-declarations.ensures c.functions.ensures
