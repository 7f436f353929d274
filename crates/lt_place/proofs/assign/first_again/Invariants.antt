use Rattle.std.proofs.Common.{ℕ, ◌<◌}
use Rattle.lt_place.specs.Seats.{IsAgain}
use Rattle.lt_place.proofs.assign.first_again.Given as goal

abbrev pub invariant-loop-x : goal.invariant-loop-x
invariant-loop-x l = (k : ℕ) → k < l.x → IsAgain l.origin l.seats k → ⊥
