use Rattle.std.proofs.Common.{◌≡◌, ◌++◌, take, codes}
use Rattle.lt_c.specs.Text.{spelled, statement_text}
use Rattle.lt_c_step.specs.Translate.{of_keeps}
use Rattle.lt_c_step.proofs.writing.keeps.Given as goal

abbrev pub invariant-keeps : goal.invariant-keeps
invariant-keeps l = l.out ≡ l.initial.out ++ statement_text (spelled l.decls) (codes "    ") (of_keeps (take l.k-index l.ks))
