use Rattle.std.proofs.Common.{◌∙◌, List, length, ap, arith}
use Rattle.rand_core.specs.Steps.{stream_of}
use Rattle.rand_xoshiro.specs.SplitMix64.{splitmix_steps}
use Rattle.lt_arch.specs.declared.chan.Chan.{Chan}
use Rattle.lt_losing.proofs.Messages.{left_more, sends_more}
use Rattle.lt_losing.proofs.Changed.{length-changed}
use Rattle.lt_losing.proofs.sending.send.Goals as goal

pub loop-c-preserved : goal.loop-c-preserved
loop-c-preserved c =
    let s = c.args.shape.now in
    let t = c.args.timing.now in
    let n = c.args.node in
    let i = c.loop-c.c in
    let before = c.loop-c.invariant in
    let channels = c.as_slice-channels.result.now in
    let is = c.as_slice-channels.ensures in
    let number = c.counted-number.result in
    let sent_is = c.in_ok-send_on.ensures in
    let old = stream_of splitmix_steps c.loop-c.generator in
    let new = stream_of splitmix_steps c.send_on.new.generator in
    let test = c.loop-c-test.true in
    let size = ap (λ (cs : List Chan). length cs) is in
    record {
      numbers = length-changed c.loop-c.numbers.items c.send_on.new.numbers.items i _ _ sent_is.numbers ∙ before.numbers;
      arrivals = length-changed c.loop-c.arrivals.items c.send_on.new.arrivals.items i _ _ sent_is.arrivals ∙ before.arrivals;
      left = λ seed words start. left_more s t seed words c.args.at n c.args.sent c.args.executed i number channels is c.counted-number.ensures old new (before.left seed words start) sent_is.left;
      sends = λ seed words start. sends_more s t seed words c.args.at n c.args.sent c.args.executed i number channels is c.counted-number.ensures old new (before.left seed words start)
          c.args.numbers.now.items c.args.arrivals.now.items c.loop-c.numbers.items c.loop-c.arrivals.items c.send_on.new.numbers.items c.send_on.new.arrivals.items
          (omega (arith, test, size)) (before.numbers ∙ c.requires.numbers) (before.arrivals ∙ c.requires.arrivals) (before.sends seed words start) sent_is.numbers sent_is.arrivals;
    }
