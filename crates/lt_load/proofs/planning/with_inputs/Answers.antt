use Rattle.std.proofs.Common.{ap, subst}
use Rattle.lt_base.specs.Program.{GoodProgram}
use Rattle.lt_front.specs.Checked.{CheckedText}
use Rattle.lt_load.proofs.Kept.{is_loaded}
use Rattle.lt_load.proofs.planning.with_inputs.Goals as goal

pub invariant_of-result : goal.invariant_of-result
invariant_of-result c =
    is_loaded c.args.checked c.invariant_holds.ensures (subst GoodProgram (ap (λ (t : CheckedText). t.program) c.checked.view_is) c.invariant_holds-2.ensures) c.args.site c.requires.sited c.args.inputs c.requires.fit
