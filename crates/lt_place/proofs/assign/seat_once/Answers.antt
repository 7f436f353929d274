use Rattle.lt_place.proofs.Seated.{first_unplaced, all_placed, first_twice, all_once}
use Rattle.lt_place.proofs.assign.seat_once.Goals as goal

pub returns-in-Some-clause-fault : goal.returns-in-Some-clause-fault
returns-in-Some-clause-fault c named e = first_unplaced c.args.f.now c.requires.origins named c.args.each.now e c.origins-origin.result.now c.origins-origin.ensures c.in-Some.var c.in-Some.ensures

pub returns-in-Some-first_again-clause-fault : goal.returns-in-Some-first_again-clause-fault
returns-in-Some-first_again-clause-fault c named e =
    (all_placed c.args.f.now c.requires.origins named c.args.each.now e c.origins-origin.result.now c.origins-origin.ensures c.in_default.ensures, first_twice c.args.f.now c.requires.origins named c.args.each.now e c.origins-origin.result.now c.origins-origin.ensures c.in-Some-first_again.var c.in-Some-first_again.ensures)

pub returns-clause-once : goal.returns-clause-once
returns-clause-once c named e = all_once c.args.f.now c.requires.origins named c.args.each.now e c.origins-origin.result.now c.origins-origin.ensures c.in_default.ensures c.in_default-first_again.ensures
