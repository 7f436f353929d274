-- The least of the nodes before this one.
use Rattle.std.proofs.Common.{◌≡◌, ◌≤◌, ◌+◌, ◌*◌}
use Rattle.lt_arch.specs.Readers.{tmin_of, send_of, execute_of}
use Rattle.lt_timing.specs.Greatest.{least}
use Rattle.lt_timing.proofs.sides.least_cycle.Given as goal

abbrev pub invariant-loop-i : goal.invariant-loop-i
invariant-loop-i l = record { value : l.least ≡ least (λ i. (send_of l.timing i + execute_of l.timing i) * tmin_of l.timing i) l.i; range : l.least ≤ 8000000000000000000000000000 }
