use Rattle.std.proofs.Common.{◌≡◌, take}
use Rattle.lt_c.specs.Uses.{statement_calls}
use Rattle.lt_c_step.specs.Translate.{of_keeps}
use Rattle.lt_c_step.proofs.uses.keeps_calls.Given as goal

abbrev pub invariant-keeps : goal.invariant-keeps
invariant-keeps l = l.all ≡ statement_calls (of_keeps (take l.k-index l.ks))
