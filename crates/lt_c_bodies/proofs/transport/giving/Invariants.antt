use Rattle.std.proofs.Common.{◌≡◌, ◌-◌, length, drop}
use Rattle.lt_c.specs.Tree.{Statement}
use Rattle.lt_c.specs.Views.{statement_of}
use Rattle.lt_c_bodies.specs.Messages.{giving}
use Rattle.lt_c_bodies.proofs.transport.giving.Given as goal

abbrev pub invariant-values : goal.invariant-values
invariant-values l = (run : Statement) → statement_of run l.all ≡ giving (length l.values - l.i) (drop (length l.values - l.i) l.values)
