use Rattle.lt_c_heads.specs.Types.{carried_text}
use Rattle.lt_c_heads.proofs.Growing.{grows_at}
use Rattle.lt_c_heads.proofs.types.carried_all.Goals as goal

pub values-preserved : goal.values-preserved
values-preserved c = grows_at (carried_text) c.args.out.now c.values.out c.carried.new.out c.args.values.now c.values.k c.index-values-k.result c.values-test.true c.index-values-k.is c.values.invariant c.in_ok-carried.ensures
