use Rattle.std.proofs.Common.{◌≡◌, ◌-◌, length, drop}
use Rattle.lt_c.specs.Tree.{Statement}
use Rattle.lt_c.specs.Views.{statement_of}
use Rattle.lt_c_control.specs.Lossy.{posting}
use Rattle.lt_c_control.proofs.lossy.posting.Given as goal

abbrev pub invariant-posts : goal.invariant-posts
invariant-posts l = (run : Statement) → statement_of run l.all ≡ posting (drop (length l.posts - l.i) l.posts)
