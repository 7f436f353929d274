use Rattle.std.proofs.Common.{◌≡◌, Some, List}
use Rattle.lt_base.specs.Program.{Function}
use Rattle.lt_base.specs.Meaning.{Environment}
use Rattle.lt_meaning.specs.Ready.{ArePlans}
use Rattle.lt_base.specs.Main.{main_of}
use Rattle.lt_meaning.proofs.Tables.{Shown}
use Rattle.lt_meaning.proofs.program.columns_of.Given as goal

abbrev pub invariant-loop-k : goal.invariant-loop-k
invariant-loop-k l = (a : ArePlans l.p l.plans) (f : Function) → main_of l.p ≡ Some f → (es : List Environment) × Shown l.p l.plans a l.inputs.rows l.k l.state l.columns.items l.variables f es
