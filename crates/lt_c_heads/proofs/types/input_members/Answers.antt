use Rattle.lt_c_step.specs.declared.sources.Source.TheVariants.{Given}
use Rattle.lt_c_heads.specs.Types.{input_member_text}
use Rattle.lt_c_heads.proofs.Growing.{grows_there}
use Rattle.lt_c_heads.proofs.types.input_members.Goals as goal

pub sources-preserved : goal.sources-preserved
sources-preserved c = grows_there (input_member_text c.args.decls.now) c.args.out.now c.sources.out c.input_member.new.out c.args.sources.now c.sources.source-index (Given 0) c.sources-test.true c.sources.invariant c.in_ok-input_member.ensures
