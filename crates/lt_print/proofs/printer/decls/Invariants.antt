use Rattle.std.proofs.Common.{◌≡◌, ◌++◌, take}
use Rattle.lt_print.specs.Canonical.{decls_text}
use Rattle.lt_print.proofs.printer.decls.Given as goal

abbrev pub invariant-decls : goal.invariant-decls
invariant-decls l = l.out ≡ l.initial.out ++ decls_text (take l.i l.ds)
