use Rattle.std.proofs.Common.{◌≡◌, ◌∙◌, ◌+◌, ◌<◌, ℕ, ap, subst, arith, length, length-set, List, Option, Some}
use Rattle.rand_core.specs.Steps.{stream_of}
use Rattle.rand_xoshiro.specs.SplitMix64.{splitmix_steps}
use Rattle.lt_arch.specs.Readers.{chan_count, node_count}
use Rattle.lt_sim.proofs.Delays.{number_drawn, left_drawn}
use Rattle.lt_sim.proofs.Nexts.{HasFirst, first_more, first_all}
use Rattle.lt_sim.proofs.drawing.first_activations.Goals as goal

pub loop-node-preserved : goal.loop-node-preserved
loop-node-preserved c =
    let s = c.args.shape.now in
    let t = c.args.timing.now in
    let before = c.loop-node.invariant in
    let n = c.loop-node.node in
    let count = c.node_count-node-end.ensures in
    let test = c.loop-node-test.true in
    let same : length t.nodes ≡ node_count s = c.requires.same in
    let lt : n < node_count s + chan_count s = omega (arith, count, test, same) in
    let old = stream_of splitmix_steps c.loop-node.generator in
    let new = stream_of splitmix_steps c.draw-at.new.generator in
    record {
      size = ap (λ (xs : List (Option ℕ)). length xs) c.set_pending.ensures ∙ (length-set c.loop-node.pending n (Some c.draw-at.result) ∙ before.size);
      left = λ seed start. left_drawn seed n 0 c.tmax_of.result c.draw-at.result old new (before.left seed start) c.draw-at.ensures.left;
      first = λ seed start. first_more t seed (node_count s + chan_count s) n c.draw-at.result c.tmax_of.result c.loop-node.pending c.set_pending.new.pending (before.first seed start) lt c.tmax_of.ensures.value
          (number_drawn seed n 0 c.tmax_of.result c.draw-at.result old new (before.left seed start) c.draw-at.ensures.number) c.set_pending.ensures;
    }

pub returns-clause-pending : goal.returns-clause-pending
returns-clause-pending c seed start =
    let s = c.args.shape.now in
    let t = c.args.timing.now in
    let count = c.node_count-node-end.ensures in
    let low = c.loop-node-test.false in
    let high = c.loop-node.auto.node-end in
    let same : length t.nodes ≡ node_count s = c.requires.same in
    let at_end : c.loop-node.node ≡ node_count s = omega (arith, count, low, high, same) in
    first_all s t seed c.loop-node.pending (subst (λ n. HasFirst t seed (node_count s + chan_count s) n c.loop-node.pending) at_end (c.loop-node.invariant.first seed start))
