use Rattle.std.proofs.Common.{◌≡◌, ◌++◌, take}
use Rattle.lt_print.specs.Canonical.{clocks_text}
use Rattle.lt_print.proofs.printer.clocks.Given as goal

abbrev pub invariant-clocks : goal.invariant-clocks
invariant-clocks l = l.out ≡ l.initial.out ++ clocks_text (take l.pair-index l.cs)
