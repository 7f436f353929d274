use Rattle.std.proofs.Common.{◌≡◌, ◌++◌, take, reverse}
use Rattle.lt_c.specs.Text.{spelled}
use Rattle.lt_c_step.specs.Written.{conditions_so_far}
use Rattle.lt_c_step.proofs.writing.joined.Given as goal

abbrev pub invariant-steps : goal.invariant-steps
invariant-steps l = l.out ≡ l.initial.out ++ conditions_so_far (spelled l.decls) (reverse (take l.i l.steps))
