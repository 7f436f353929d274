use Rattle.std.proofs.Common.{◌≡◌, ◌++◌, take, map}
use Rattle.lt_print.specs.Canonical.{all_bare, texts}
use Rattle.lt_syntax.specs.Tree.{tms}
use Rattle.lt_syntax.specs.Views.{tm_of}
use Rattle.lt_print.proofs.printer.+show.Given as goal

abbrev pub invariant-arguments-arguments : goal.invariant-arguments-arguments
invariant-arguments-arguments l = l.out ≡ l.initial.out ++ texts (all_bare (tms (map tm_of (take l.i l.xs))))
