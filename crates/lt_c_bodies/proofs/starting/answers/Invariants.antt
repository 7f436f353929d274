use Rattle.std.proofs.Common.{◌≡◌, ◌-◌, length, drop}
use Rattle.lt_c.specs.Tree.{Statement}
use Rattle.lt_c.specs.Views.{statement_of}
use Rattle.lt_c_bodies.specs.Starts.{starting_answers}
use Rattle.lt_c_bodies.proofs.starting.answers.Given as goal

abbrev pub invariant-nodes : goal.invariant-nodes
invariant-nodes l = (run : Statement) → statement_of run l.all ≡ starting_answers (drop (length l.js - l.i) l.js)
