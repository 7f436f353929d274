use Rattle.std.proofs.Common.{◌≡◌, arith, length}
use Rattle.std.specs.Vec.Iter.{into_iter_len}
use Rattle.std.proofs.lemmas.Iterator.Adapters.{YieldsList-from_vec}
use Rattle.std.proofs.lemmas.Iterator.Consumers.{YieldsList-turn, YieldsList-so_far}
use Rattle.lt_norm.proofs.Loop.{room_at}
use Rattle.lt_norm.proofs.equations.lift_equations.Goals as goal

pub lift_equation-requires-clause-room : goal.lift_equation-requires-clause-room
lift_equation-requires-clause-room c =
    let items = c.into_vec-equation-items.result.items in
    let many : into_iter_len c.into_iter-equation-iterator.result ≡ length items = (let ok = c.into_vec-equation-items.result.ok in let g = c.into_iter-equation-iterator.ensures.into_iter_gives.1 in omega (arith, ok, g)) in
    let yields = YieldsList-from_vec {s = c.into_iter-equation-iterator.result} items c.into_iter-equation-iterator.ensures.into_iter_gives.0 many in
    let front = YieldsList-so_far yields c.loop-equation.yielded c.loop-equation.equation-iterator c.loop-equation.yielded_by in
    let turn = YieldsList-turn yields c.loop-equation.yielded c.loop-equation.equation-iterator c.loop-equation.yielded_by c.next.result c.next.new.self c.in-Some.equation c.in-Some.is c.next.ensures.steps in
    room_at c.args.known.now c.args.origin.now items c.loop-equation.yielded c.in-Some.equation front turn.0 turn.1 _ _ _ _ c.loop-equation.invariant
    c.args.equations c.into_vec-equation-items.ensures c.requires.room
