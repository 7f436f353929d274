use Rattle.lt_c_heads.specs.Types.{output_member_text}
use Rattle.lt_c_heads.proofs.Growing.{grows}
use Rattle.lt_c_heads.proofs.types.output_members.Goals as goal

pub outputs-preserved : goal.outputs-preserved
outputs-preserved c = grows (output_member_text c.args.decls.now) c.args.out.now c.outputs.out c.output_member.new.out c.args.outputs.now c.outputs.output-index c.output-item.result c.outputs-test.true c.output-item.is c.outputs.invariant c.in_ok-output_member.ensures
