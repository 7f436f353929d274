use Rattle.std.proofs.Common.{◌≡◌, ◌-◌, length, drop}
use Rattle.lt_c_control.specs.Control.{read_acks}
use Rattle.lt_c.specs.Tree.{Statement}
use Rattle.lt_c.specs.Views.{statement_of}
use Rattle.lt_c_control.proofs.unread.read_acks.Given as goal

abbrev pub invariant-inboxes : goal.invariant-inboxes
invariant-inboxes l = (run : Statement) → statement_of run l.all ≡ read_acks (drop (length l.js - l.i) l.js)
