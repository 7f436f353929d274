use Rattle.std.proofs.Common.{◌≡◌, ◌-◌, length, drop}
use Rattle.lt_c.specs.Tree.{Statement}
use Rattle.lt_c.specs.Views.{statement_of}
use Rattle.lt_c_control.specs.Inboxes.{starting_data}
use Rattle.lt_c_bodies.specs.Starts.{first_data}
use Rattle.lt_c_bodies.proofs.starting.inboxes.Given as goal

abbrev pub invariant-peers : goal.invariant-peers
invariant-peers l = (run : Statement) → statement_of run l.all ≡ starting_data (first_data (drop (length l.peers - l.i) l.peers))
