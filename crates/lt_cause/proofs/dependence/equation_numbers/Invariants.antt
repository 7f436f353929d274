use Rattle.std.proofs.Common.{◌≡◌, ◌<◌, ℕ, None, length, get_or}
use Rattle.std.specs.Prelude.{replicate}
use Rattle.lt_cause.specs.Orders.{NumberOf}
use Rattle.lt_cause.proofs.dependence.equation_numbers.Given as goal

abbrev pub invariant-loop-variable : goal.invariant-loop-variable
invariant-loop-variable l = l.table.items ≡ replicate l._variable None

abbrev pub invariant-loop-number : goal.invariant-loop-number
invariant-loop-number l = record {
  size : length l.table.items ≡ length l.f.decls;
  told : (x : ℕ) → x < length l.f.decls → NumberOf l.f l.number x (get_or l.table.items x None);
}
