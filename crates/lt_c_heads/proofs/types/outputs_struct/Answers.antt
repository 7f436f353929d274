use Rattle.std.proofs.Common.{codes, ◌++◌}
use Rattle.std.specs.List.{flat_map}
use Rattle.lt_c_heads.specs.Types.{output_member_text}
use Rattle.lt_c_heads.proofs.Growing.{three_pieces}
use Rattle.lt_c_heads.proofs.types.outputs_struct.Goals as goal

pub returns : goal.returns
returns c =
    three_pieces c.three.result c.args.out.now
    (codes "\n/* The outputs of an instant. One that has no value at each instant has one where its has_ is true. */\ntypedef struct {\n") (flat_map (output_member_text c.args.decls.now) c.args.outputs.now) (codes "} " ++ (c.args.t.now ++ codes "_outputs;\n"))
    c.extend.new.self c.output_members.new.out c.three.new.out
    c.in_ok-extend.ensures.ok c.in_ok-output_members.ensures c.three.ensures
