use Rattle.std.proofs.Common.{ℕ, take}
use Rattle.lt_place.specs.Nodes.{listings_from}
use Rattle.lt_place.specs.Seats.{EachIn}
use Rattle.lt_place.proofs.assign.first_unknown.Given as goal

abbrev pub invariant-loop-node : goal.invariant-loop-node
invariant-loop-node l = (n : ℕ) → EachIn l.known (listings_from n (take l.node-index l.nodes))
