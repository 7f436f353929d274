use Rattle.std.proofs.Common.{◌≡◌, ◌-◌, length, drop}
use Rattle.lt_c.specs.Tree.{Statement}
use Rattle.lt_c.specs.Views.{statement_of}
use Rattle.lt_c_step.specs.Part.{showing}
use Rattle.lt_c_bodies.proofs.stepping.showing.Given as goal

abbrev pub invariant-outputs : goal.invariant-outputs
invariant-outputs l = (run : Statement) → statement_of run l.all ≡ showing (drop (length l.outputs - l.i) l.outputs)
