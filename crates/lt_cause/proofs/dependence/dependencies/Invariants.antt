use Rattle.std.proofs.Common.{◌≡◌, ℕ, [], length, get_or, take}
use Rattle.std.specs.Prelude.{replicate}
use Rattle.lt_base.specs.Meaning.{clock_of, right_of}
use Rattle.lt_base.specs.Dependence.{dependencies_of}
use Rattle.lt_cause.proofs.dependence.dependencies.Given as goal

abbrev pub invariant-loop-variable : goal.invariant-loop-variable
invariant-loop-variable l = l.table.items ≡ replicate l._variable []

abbrev pub invariant-loop-equation : goal.invariant-loop-equation
invariant-loop-equation l = record {
  size : length l.table.items ≡ length l.f.decls;
  told : (x : ℕ) → get_or l.table.items x [] ≡ dependencies_of (right_of (take l.equation-index l.equation-items) x) (clock_of l.f.decls x);
}
