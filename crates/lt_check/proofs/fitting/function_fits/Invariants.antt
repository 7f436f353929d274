use Rattle.std.proofs.Common.{All, take}
use Rattle.lt_check.specs.Fitting.{FitsVariable}
use Rattle.lt_check.proofs.fitting.function_fits.Given as goal

abbrev pub invariant-loop-equation : goal.invariant-loop-equation
invariant-loop-equation l = All (FitsVariable l.funcs l.f.decls) (take l.equation-index l.equation-items)
