use Rattle.std.proofs.Common.{ℕ, take}
use Rattle.lt_place.specs.Nodes.{listings_on}
use Rattle.lt_place.specs.Seats.{EachIn}
use Rattle.lt_place.proofs.assign.first_out.Given as goal

abbrev pub invariant-loop-name : goal.invariant-loop-name
invariant-loop-name l = (n : ℕ) → EachIn l.known (listings_on n (take l.name-index l.names))
