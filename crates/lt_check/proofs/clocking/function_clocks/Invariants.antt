use Rattle.std.proofs.Common.{All, take}
use Rattle.lt_check.specs.ClockFaults.{IsAtItsClock}
use Rattle.lt_check.proofs.clocking.function_clocks.Given as goal

abbrev pub invariant-loop-k : goal.invariant-loop-k
invariant-loop-k l = All (IsAtItsClock l.funcs l.f.decls) (take l.k l.equation-items)
