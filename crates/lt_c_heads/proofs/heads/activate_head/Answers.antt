use Rattle.lt_c_heads.proofs.Growing.{four_pieces}
use Rattle.lt_c_heads.proofs.heads.activate_head.Goals as goal

pub returns : goal.returns
returns c =
    four_pieces c.extend.result c.args.out.now _ _ _ _ c.four.new.out c.inputs_parameter.new.out c.outputs_parameter.new.out c.extend.new.self
    c.in_ok-four.ensures c.in_ok-inputs_parameter.ensures c.in_ok-outputs_parameter.ensures c.extend.ensures.ok
