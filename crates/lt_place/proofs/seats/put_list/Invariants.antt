use Rattle.std.proofs.Common.{List, ◌++◌, take}
use Rattle.lt_place.specs.Nodes.{Listing, listings_on}
use Rattle.lt_place.specs.Seats.{HasSeats}
use Rattle.lt_place.proofs.seats.put_list.Given as goal

abbrev pub invariant-loop-name : goal.invariant-loop-name
invariant-loop-name l = (ls : List Listing) → HasSeats l.fn.seats ls → HasSeats l.seats (ls ++ listings_on l.node (take l.name-index l.names))
