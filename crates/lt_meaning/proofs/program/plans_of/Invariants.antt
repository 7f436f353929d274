use Rattle.lt_base.specs.Program.{GoodProgram}
use Rattle.lt_base.specs.Checked.{CheckedProgram}
use Rattle.lt_meaning.proofs.Tables.{Far}
use Rattle.lt_meaning.proofs.program.plans_of.Given as goal

abbrev pub invariant-loop-f : goal.invariant-loop-f
invariant-loop-f l = (good : GoodProgram l.p) (checked : CheckedProgram l.p) → Far l.p good checked l.plans.items l.f-index
