use Rattle.std.proofs.Common.{◌≡◌}
use Rattle.lt_c.specs.Tree.{Statement}
use Rattle.lt_c.specs.Views.{statement_of}
use Rattle.lt_c_bodies.specs.Messages.{giving_again}
use Rattle.lt_c_bodies.proofs.transport.giving_again.Given as goal

abbrev pub invariant-places : goal.invariant-places
invariant-places l = (run : Statement) → statement_of run l.all ≡ giving_again l.j l.k
