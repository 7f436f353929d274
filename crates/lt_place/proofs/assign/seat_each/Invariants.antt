use Rattle.std.proofs.Common.{◌≡◌, List, take}
use Rattle.lt_place.specs.Nodes.{Listing}
use Rattle.lt_place.specs.Seats.{HasSeats, seats_of}
use Rattle.lt_place.proofs.assign.seat_each.Given as goal

abbrev pub invariant-loop-owner : goal.invariant-loop-owner
invariant-loop-owner l = (ls : List Listing) → HasSeats l.seats ls → l.each.items ≡ seats_of l.f ls (take l.owner-index l.origin)
