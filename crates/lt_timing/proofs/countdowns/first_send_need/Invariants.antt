-- The greatest of the nodes before this one.
use Rattle.std.proofs.Common.{◌≡◌, ◌≤◌, ◌-◌}
use Rattle.lt_arch.specs.Greatest.{greatest}
use Rattle.lt_arch.specs.Readers.{tmax_of}
use Rattle.lt_timing.specs.Accepts.{dmin_to}
use Rattle.lt_timing.proofs.countdowns.first_send_need.Given as goal

abbrev pub invariant-loop-j : goal.invariant-loop-j
invariant-loop-j l = record { value : l.greatest ≡ greatest (λ j. tmax_of l.timing j - dmin_to l.timing j) l.j; range : l.greatest ≤ 1000000000 }
