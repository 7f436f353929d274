use Rattle.std.proofs.Common.{ℕ, ◌<◌}
use Rattle.lt_place.specs.Seats.{IsVacant}
use Rattle.lt_place.proofs.assign.first_vacant.Given as goal

abbrev pub invariant-loop-x : goal.invariant-loop-x
invariant-loop-x l = (k : ℕ) → k < l.x → IsVacant l.origin l.seats k → ⊥
