use Rattle.lt_net_bench.proofs.Filling.{append_room}
use Rattle.lt_net_bench.proofs.stepping.append.Goals as goal

pub push_if-requires-clause-room : goal.push_if-requires-clause-room
push_if-requires-clause-room c = λ on.
    append_room c.args.exits.now c.args.node c.args.outs.now _ c.loop-y.cells.items c.loop-y.y c.loop-y-test.true c.loop-y.invariant c.requires.room on
