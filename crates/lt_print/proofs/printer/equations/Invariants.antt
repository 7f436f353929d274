use Rattle.std.proofs.Common.{◌≡◌, ◌++◌, take}
use Rattle.lt_print.specs.Canonical.{equation_lines}
use Rattle.lt_print.proofs.printer.equations.Given as goal

abbrev pub invariant-equations : goal.invariant-equations
invariant-equations l = l.out ≡ l.initial.out ++ equation_lines (take l.e-index l.es)
