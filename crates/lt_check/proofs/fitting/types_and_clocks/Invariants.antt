use Rattle.std.proofs.Common.{All, take}
use Rattle.lt_check.specs.Fitting.{IsTypedAndClocked}
use Rattle.lt_check.proofs.fitting.types_and_clocks.Given as goal

abbrev pub invariant-loop-f : goal.invariant-loop-f
invariant-loop-f l = All (IsTypedAndClocked l.p.funcs) (take l.f-index l.f-items)
