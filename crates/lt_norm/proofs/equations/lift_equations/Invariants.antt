use Rattle.lt_norm.specs.Walk.{AllLifted}
use Rattle.lt_norm.proofs.equations.lift_equations.Given as goal

abbrev pub invariant-loop-equation : goal.invariant-loop-equation
invariant-loop-equation l = AllLifted l.known l.origin l.yielded l.parts.lifting.decls.items l.parts.eqs.items l.parts.lifting.delays.items l.parts.origins.items
