-- The greatest of the nodes before this one.
use Rattle.std.proofs.Common.{◌≡◌, ◌≤◌, ◌+◌, ◌-◌, ◌*◌}
use Rattle.lt_arch.specs.Greatest.{greatest}
use Rattle.lt_arch.specs.Readers.{tmax_of}
use Rattle.lt_timing.specs.Accepts.{answer_time, dmin_to}
use Rattle.lt_timing.specs.Least.{execute_among}
use Rattle.lt_timing.proofs.countdowns.cycle_need.Given as goal

abbrev pub invariant-loop-j : goal.invariant-loop-j
invariant-loop-j l = record { value : l.greatest ≡ greatest (λ j. answer_time l.timing j + execute_among l.timing j * tmax_of l.timing j - dmin_to l.timing j) l.j; range : l.greatest ≤ 3000000003000000000 }
