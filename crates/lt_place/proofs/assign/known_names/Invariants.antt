use Rattle.lt_place.specs.Seats.{KnowsMain}
use Rattle.lt_place.proofs.assign.known_names.Given as goal

abbrev pub invariant-loop-x : goal.invariant-loop-x
invariant-loop-x l = KnowsMain l.f l.x l.known
