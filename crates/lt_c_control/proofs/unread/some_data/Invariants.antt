use Rattle.std.proofs.Common.{◌≡◌, ◌-◌, length, drop}
use Rattle.lt_c_control.specs.Control.{some_data}
use Rattle.lt_c.specs.Views.{tree_of}
use Rattle.lt_c_control.proofs.unread.some_data.Given as goal

abbrev pub invariant-inboxes : goal.invariant-inboxes
invariant-inboxes l = tree_of l.some ≡ some_data (drop (length l.js - l.i) l.js) (tree_of l.fn.e)
