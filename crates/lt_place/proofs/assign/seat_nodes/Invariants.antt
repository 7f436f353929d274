use Rattle.std.proofs.Common.{◌≡◌, map, take}
use Rattle.lt_place.specs.Seats.{seat_node}
use Rattle.lt_place.proofs.assign.seat_nodes.Given as goal

abbrev pub invariant-loop-seat : goal.invariant-loop-seat
invariant-loop-seat l = l.nodes.items ≡ map seat_node (take l.seat-index l.seats)
