use Rattle.std.proofs.Common.{◌≡◌, ◌++◌, take}
use Rattle.lt_expand.specs.Copies.{copy_equations}
use Rattle.lt_expand.proofs.paste.append_equations.Given as goal

abbrev pub invariant-loop-equation : goal.invariant-loop-equation
invariant-loop-equation l = l.eqs.items ≡ l.initial.eqs.items ++ copy_equations l.first (take l.equation-index l.equation-items)
