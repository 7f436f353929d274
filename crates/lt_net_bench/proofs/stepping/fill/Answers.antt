use Rattle.lt_net_bench.proofs.Filling.{fill_place}
use Rattle.lt_net_bench.proofs.stepping.fill.Goals as goal

pub put_if-requires-clause-place : goal.put_if-requires-clause-place
put_if-requires-clause-place c = λ on.
    fill_place c.args.cross.now c.args.routes.now c.args.node c.args.outs.now _ c.loop-c.buffers.items c.loop-c.c _ c.loop-c-test.true c.loop-c.invariant c.requires.channels c.requires.places on
