use Rattle.std.proofs.lemmas.Result.{IfOk-weaker}
use Rattle.lt_place.proofs.Seated.{each_is}
use Rattle.lt_place.proofs.assign.listed_seats.Goals as goal

pub returns : goal.returns
returns c = IfOk-weaker c.seat_each-each.result _ _ (λ each of. each_is c.args.f.now c.args.named.now c.in_ok-seats.seats c.deref.result.now c.deref.ensures c.in_ok-seats.ensures each.items of) c.seat_each-each.ensures
