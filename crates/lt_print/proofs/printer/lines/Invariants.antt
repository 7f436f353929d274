use Rattle.std.proofs.Common.{◌≡◌, ◌++◌, take}
use Rattle.lt_print.specs.Canonical.{local_lines}
use Rattle.lt_print.proofs.printer.lines.Given as goal

abbrev pub invariant-lines : goal.invariant-lines
invariant-lines l = l.out ≡ l.initial.out ++ local_lines (take l.d-index l.ds)
