use Rattle.std.proofs.Common.{◌≡◌}
use Rattle.lt_c.specs.Tree.{Statement}
use Rattle.lt_c.specs.Views.{statement_of}
use Rattle.lt_c_control.specs.Inboxes.{taking}
use Rattle.lt_c_bodies.proofs.statements.taking.Given as goal

abbrev pub invariant-places : goal.invariant-places
invariant-places l = (run : Statement) → statement_of run l.all ≡ taking l.j l.k
