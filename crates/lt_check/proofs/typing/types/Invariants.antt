use Rattle.std.proofs.Common.{All, take}
use Rattle.lt_base.specs.Typing.{TypedFunction}
use Rattle.lt_check.proofs.typing.types.Given as goal

abbrev pub invariant-loop-number : goal.invariant-loop-number
invariant-loop-number l = All (TypedFunction l.p.funcs) (take l.number l.f-items)
