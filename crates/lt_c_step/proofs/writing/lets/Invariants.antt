use Rattle.std.proofs.Common.{◌≡◌, ◌++◌, take, codes}
use Rattle.lt_c.specs.Text.{spelled, statement_text}
use Rattle.lt_c_step.specs.Translate.{of_lets}
use Rattle.lt_c_step.proofs.writing.lets.Given as goal

abbrev pub invariant-lets : goal.invariant-lets
invariant-lets l = l.out ≡ l.initial.out ++ statement_text (spelled l.decls) (codes "    ") (of_lets (take l.l-index l.ls))
