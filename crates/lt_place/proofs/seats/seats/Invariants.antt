use Rattle.std.proofs.Common.{take}
use Rattle.lt_place.specs.Nodes.{listings_from}
use Rattle.lt_place.specs.Seats.{HasSeats}
use Rattle.lt_place.proofs.seats.seats.Given as goal

abbrev pub invariant-loop-n : goal.invariant-loop-n
invariant-loop-n l = HasSeats l.seats (listings_from 0 (take l.n l.nodes))
