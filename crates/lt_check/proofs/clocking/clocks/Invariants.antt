use Rattle.std.proofs.Common.{All, take}
use Rattle.lt_base.specs.Clocking.{ClockedFunction}
use Rattle.lt_check.proofs.clocking.clocks.Given as goal

abbrev pub invariant-loop-number : goal.invariant-loop-number
invariant-loop-number l = All (ClockedFunction l.p.funcs) (take l.number l.f-items)
