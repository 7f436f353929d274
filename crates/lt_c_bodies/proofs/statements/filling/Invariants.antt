use Rattle.std.proofs.Common.{◌≡◌, ◌-◌, length, drop}
use Rattle.lt_c.specs.Tree.{Statement}
use Rattle.lt_c.specs.Views.{statement_of}
use Rattle.lt_c_control.specs.Inboxes.{filling}
use Rattle.lt_c_bodies.specs.Starts.{first_values}
use Rattle.lt_c_bodies.proofs.statements.filling.Given as goal

abbrev pub invariant-places : goal.invariant-places
invariant-places l = (run : Statement) → statement_of run l.all ≡ filling l.j (length l.values - l.i) (first_values (drop (length l.values - l.i) l.values))
