use Rattle.std.proofs.Common.{◌≡◌, ◌-◌, length, drop}
use Rattle.lt_c.specs.Tree.{Statement}
use Rattle.lt_c.specs.Views.{statement_of}
use Rattle.lt_c_step.specs.Part.{feeding}
use Rattle.lt_c_bodies.proofs.stepping.feeding.Given as goal

abbrev pub invariant-sources : goal.invariant-sources
invariant-sources l = (run : Statement) → statement_of run l.all ≡ feeding (length l.sources - l.i) (drop (length l.sources - l.i) l.sources)
