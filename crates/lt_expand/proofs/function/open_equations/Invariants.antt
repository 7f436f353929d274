use Rattle.std.proofs.Common.{take}
use Rattle.lt_expand.specs.Walk.{library_of, AllInlined}
use Rattle.lt_expand.proofs.function.open_equations.Given as goal

abbrev pub invariant-loop-equation : goal.invariant-loop-equation
invariant-loop-equation l = AllInlined (library_of l.versions) l.known (take l.equation-index l.equation-items) l.pasted.decls.items l.eqs.items l.pasted.eqs.items l.origins.items
