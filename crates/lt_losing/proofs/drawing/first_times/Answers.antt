use Rattle.std.proofs.Common.{◌+◌, ◌∙◌, ap}
use Rattle.rand_core.specs.Steps.{stream_of}
use Rattle.rand_xoshiro.specs.SplitMix64.{splitmix_steps}
use Rattle.lt_sim.specs.Words.{drawn_word, number_in}
use Rattle.lt_sim.proofs.Delays.{number_drawn, left_drawn}
use Rattle.lt_losing.proofs.Standing.{times_more}
use Rattle.lt_losing.proofs.drawing.first_times.Goals as goal

pub loop-node-preserved : goal.loop-node-preserved
loop-node-preserved c =
    let t = c.args.timing.now in
    let n = c.loop-node.node in
    let old = stream_of splitmix_steps c.loop-node.generator in
    let new = stream_of splitmix_steps c.draw.new.generator in
    record {
      left = λ seed start. left_drawn seed n 0 c.tmax_of.result c.draw.result old new (c.loop-node.invariant.left seed start) c.draw.ensures.left;
      times = λ seed start. times_more t seed n c.draw.result c.loop-node.times.items c.push.new.self.items (c.loop-node.invariant.times seed start)
          (number_drawn seed n 0 c.tmax_of.result c.draw.result old new (c.loop-node.invariant.left seed start) c.draw.ensures.number ∙ ap (λ high. number_in 0 high (drawn_word seed (n + 1))) c.tmax_of.ensures.value)
          c.in_ok-push.ensures.items;
    }
