use Rattle.std.proofs.Common.{All, take}
use Rattle.lt_check.specs.TypeFaults.{HasItsType}
use Rattle.lt_check.proofs.typing.function_types.Given as goal

abbrev pub invariant-loop-equation : goal.invariant-loop-equation
invariant-loop-equation l = All (HasItsType l.funcs l.f.decls) (take l.equation-index l.equation-items)
