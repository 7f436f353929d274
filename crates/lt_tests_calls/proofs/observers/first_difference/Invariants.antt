use Rattle.std.proofs.Common.{◌≡◌, length}
use Rattle.lt_tests_calls.proofs.observers.first_difference.Given as goal

-- There is a place in the row for each output that is named.
abbrev pub invariant-instants : goal.invariant-instants
invariant-instants l = record {
  sized : length l.row.items ≡ length l.fn.observer.outs;
  width : l.monitor.width ≡ length l.fn.observer.outs;
}
