use Rattle.std.proofs.Common.{codes, ◌++◌}
use Rattle.std.specs.List.{flat_map}
use Rattle.lt_c_heads.specs.Types.{input_member_text}
use Rattle.lt_c_heads.proofs.Growing.{three_pieces}
use Rattle.lt_c_heads.proofs.types.inputs_struct.Goals as goal

pub returns : goal.returns
returns c =
    three_pieces c.three.result c.args.out.now
    (codes "\n/* The inputs of an instant. */\ntypedef struct {\n") (flat_map (input_member_text c.args.decls.now) c.args.sources.now) (codes "} " ++ (c.args.t.now ++ codes "_inputs;\n"))
    c.extend.new.self c.input_members.new.out c.three.new.out
    c.in_ok-extend.ensures.ok c.in_ok-input_members.ensures c.three.ensures
