use Rattle.std.proofs.Common.{◌≡◌, ◌++◌, take, codes}
use Rattle.lt_c.specs.Text.{spelled, statement_text}
use Rattle.lt_c_step.specs.Translate.{of_firsts}
use Rattle.lt_c_step.proofs.writing.firsts.Given as goal

abbrev pub invariant-firsts : goal.invariant-firsts
invariant-firsts l = l.out ≡ l.initial.out ++ statement_text (spelled l.decls) (codes "    ") (of_firsts (take l.k-index l.ks))
