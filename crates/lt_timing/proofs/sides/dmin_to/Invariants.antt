-- The least of the nodes before this one.
use Rattle.std.proofs.Common.{◌≡◌, ◌≤◌}
use Rattle.lt_arch.specs.Readers.{dmin_of}
use Rattle.lt_timing.specs.Greatest.{least_but}
use Rattle.lt_timing.proofs.sides.dmin_to.Given as goal

abbrev pub invariant-loop-i : goal.invariant-loop-i
invariant-loop-i l = record { value : l.least ≡ least_but (λ i. dmin_of l.timing i l.j) l.j l.i; range : l.least ≤ 1000000000 }
