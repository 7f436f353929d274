use Rattle.std.proofs.Common.{sym, subst}
use Rattle.lt_norm.specs.Flat.{Originated}
use Rattle.lt_step.specs.Compile.{CodeOf}
use Rattle.lt_tests_network.proofs.machines.run_code.Goals as goal

pub tell_rows-requires-clause-stands : goal.tell_rows-requires-clause-stands
tell_rows-requires-clause-stands c = c.in_ok-machine.ensures.stands c.flat.inside.func (subst (λ (f : Originated). CodeOf f.func c.args.code) (sym c.flat.view_is) c.requires.code)
