-- The greatest of the nodes before this one.
use Rattle.std.proofs.Common.{◌≡◌, ◌≤◌, ◌+◌}
use Rattle.lt_arch.specs.Readers.{dmax_of}
use Rattle.lt_timing.specs.Greatest.{greatest_but}
use Rattle.lt_timing.specs.Accepts.{answer_time}
use Rattle.lt_timing.proofs.sides.gather_time.Given as goal

abbrev pub invariant-loop-i : goal.invariant-loop-i
invariant-loop-i l = record { value : l.greatest ≡ greatest_but (λ i. answer_time l.timing i + dmax_of l.timing i l.j) l.j l.i; range : l.greatest ≤ 3000000000 }
