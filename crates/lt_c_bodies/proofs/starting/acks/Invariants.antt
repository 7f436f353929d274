use Rattle.std.proofs.Common.{◌≡◌, ◌-◌, length, drop}
use Rattle.lt_c.specs.Tree.{Statement}
use Rattle.lt_c.specs.Views.{statement_of}
use Rattle.lt_c_control.specs.Inboxes.{starting_acks}
use Rattle.lt_c_bodies.proofs.starting.acks.Given as goal

abbrev pub invariant-nodes : goal.invariant-nodes
invariant-nodes l = (run : Statement) → statement_of run l.all ≡ starting_acks (drop (length l.js - l.i) l.js)
