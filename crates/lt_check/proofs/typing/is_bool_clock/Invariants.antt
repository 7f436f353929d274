use Rattle.std.proofs.Common.{◌≡◌, Some, All, take}
use Rattle.lt_base.specs.declared.value.Ty.TheVariants.{Bool as BoolTy}
use Rattle.lt_base.specs.Typing.{ty_at}
use Rattle.lt_check.proofs.typing.is_bool_clock.Given as goal

abbrev pub invariant-loop-variable : goal.invariant-loop-variable
invariant-loop-variable l = All (λ p. ty_at l.decls p.0 ≡ Some BoolTy) (take l.variable-index l.variable-items)
