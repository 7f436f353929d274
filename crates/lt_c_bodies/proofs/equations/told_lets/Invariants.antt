use Rattle.std.proofs.Common.{◌≡◌, ◌++◌, take}
use Rattle.lt_c.specs.Text.{spelled, statement_text}
use Rattle.lt_c_heads.specs.Words.{indent}
use Rattle.lt_c_bodies.specs.Equations.{told_lets}
use Rattle.lt_c_bodies.proofs.equations.told_lets.Given as goal

abbrev pub invariant-lets : goal.invariant-lets
invariant-lets l = l.out ≡ l.initial.out ++ statement_text (spelled l.decls) indent (told_lets l.decls (take l.l-index l.ls))
