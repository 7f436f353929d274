use Rattle.std.proofs.Common.{◌≡◌, ◌-◌, length, drop}
use Rattle.lt_c_control.specs.Lossy.{all_new}
use Rattle.lt_c.specs.Views.{tree_of}
use Rattle.lt_c_control.proofs.lossy.all_new.Given as goal

abbrev pub invariant-inboxes : goal.invariant-inboxes
invariant-inboxes l = tree_of l.all ≡ all_new (drop (length l.js - l.i) l.js) (tree_of l.fn.e)
