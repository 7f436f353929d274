use Rattle.std.proofs.Common.{◌≡◌, ◌+◌, ◌-◌, ◌∙◌, false, set, refl, ap, subst, arith}
use Rattle.std.specs.Vec.{with_item}
use Rattle.std.proofs.lemmas.List.{get_or_read}
use Rattle.rand_core.specs.Steps.{stream_of}
use Rattle.rand_xoshiro.specs.SplitMix64.{splitmix_steps}
use Rattle.lt_base.specs.Truths.{how_many}
use Rattle.lt_arch.specs.Readers.{chan_count, send_of, execute_of}
use Rattle.lt_arch.specs.Deeds.{any_in}
use Rattle.lt_arch.specs.State.{NodeState, unsent}
use Rattle.lt_arch.specs.Step.{woken}
use Rattle.lt_arch.proofs.Ranges.{tmin-tmax}
use Rattle.lt_lossy.specs.State.{plain_of, sent_count}
use Rattle.lt_sim.specs.Words.{left_after, drawn_word, number_in}
use Rattle.lt_sim.specs.Drawn.{gap}
use Rattle.lt_sim.proofs.Delays.{number_drawn, left_drawn}
use Rattle.lt_losing.specs.Losing.{lossy_activated}
use Rattle.lt_losing.specs.Held.{phase_when, count_on, sends_count, SendsAnew, LossyDrawingStands}
use Rattle.lt_losing.specs.declared.drawing.LossyDrawing.{LossyDrawing}
use Rattle.lt_losing.proofs.Standing.{on_both, stands_act}
use Rattle.lt_losing.proofs.Waking.{woken-phase, woken-executed}
use Rattle.lt_losing.proofs.drawing.LossyDrawing.activate.Goals as goal

pub draw-gap-requires-clause-order : goal.draw-gap-requires-clause-order
draw-gap-requires-clause-order c =
    let low = c.tmin_of.ensures.value in
    let high = c.tmax_of.ensures.value in
    let order = tmin-tmax c.args.timing.now c.args.node in
    omega (arith, low, high, order)

pub returns : goal.returns
returns c seed d stands =
    let s = c.args.shape.now in
    let t = c.args.timing.now in
    let rows = c.args.rows in
    let n = c.args.node in
    let at = c.args.at in
    let k = c.args.self.now in
    let lt = c.requires.node in
    let w : NodeState = woken s t rows (plain_of d.state) n at in
    let ready_size = c.requires.holds.ready in
    let executed_size = c.requires.holds.executed in
    let ready_is = get_or_read k.ready.items n c.index.result.now (omega (arith, lt, ready_size)) c.index.ensures false in
    let executed_is = get_or_read k.executed.items n c.index-2.result.now (omega (arith, lt, executed_size)) c.index-2.ensures 0 in
    let some = any_in s (plain_of d.state) n in
    let phase : phase_when c.wake-ready.result.0 ≡ w.phase =
    woken-phase k s t rows seed d stands n at lt c.as_slice.result.now c.as_slice-2.result.now c.index.result.now c.index-2.result.now c.as_slice.ensures c.as_slice-2.ensures.value ready_is executed_is
    c.wake-ready.result.0 (c.wake-ready.ensures.phase (send_of t n) (execute_of t n) some) in
    let executed : c.wake-ready.result.1 ≡ w.executed =
    woken-executed k s t rows seed d stands n at lt c.as_slice.result.now c.as_slice-2.result.now c.index.result.now c.index-2.result.now c.as_slice.ensures c.as_slice-2.ensures.value ready_is executed_is
    c.wake-ready.result.1 (c.wake-ready.ensures.executed some) in
    let sent : c.sent.result ≡ sent_count w = c.sent.ensures ∙ (λ i. executed i - unsent (phase i)) in
    let old = stream_of splitmix_steps k.generator in
    let mid = stream_of splitmix_steps c.draw-gap.new.generator in
    let drawn = number_drawn seed d.words c.tmin_of.result c.tmax_of.result c.draw-gap.result old old stands.left c.draw-gap.ensures.number in
    let gap_is : c.draw-gap.result ≡ gap t seed n (d.words + 1) = drawn ∙ (λ i. number_in (c.tmin_of.ensures.value i) (c.tmax_of.ensures.value i) (drawn_word seed (d.words + 1))) in
    let start = left_drawn seed d.words 0 0 0 old mid stands.left c.draw-gap.ensures.left in
    let new : LossyDrawing = record {
      generator = c.send.new.generator;
      activations = with_item k.activations n (at + c.draw-gap.result);
      ready = with_item k.ready n c.wake-ready.result.0;
      executed = with_item k.executed n c.wake-ready.result.1;
      newest = k.newest;
      losses = k.losses;
      numbers = c.send.new.numbers;
      arrivals = c.send.new.arrivals;
    } in
    on_both c.send.result
    (stream_of splitmix_steps c.send.new.generator ≡ left_after seed (d.words + 1 + how_many (sends_count s n c.sent.result c.wake-ready.result.1) (chan_count s)))
    (SendsAnew s t seed (d.words + 1) at (chan_count s) (sends_count s n c.sent.result c.wake-ready.result.1) (count_on s c.sent.result c.wake-ready.result.1) k.numbers.items k.arrivals.items c.send.new.numbers.items c.send.new.arrivals.items)
    (LossyDrawingStands new s t seed (lossy_activated s t rows seed d n at))
    (c.send.ensures.left seed (d.words + 1) start) (c.send.ensures.sends seed (d.words + 1) start)
    (λ left sends.
    stands_act k s t rows seed d stands n at lt new c.wake-ready.result.0 c.draw-gap.result phase gap_is refl refl (ap (λ v. set k.executed.items n v) executed)
    (subst (λ x. SendsAnew s t seed (d.words + 1) at (chan_count s) (sends_count s n x w.executed) (count_on s x w.executed) k.numbers.items k.arrivals.items c.send.new.numbers.items c.send.new.arrivals.items) sent
    (subst (λ x. SendsAnew s t seed (d.words + 1) at (chan_count s) (sends_count s n c.sent.result x) (count_on s c.sent.result x) k.numbers.items k.arrivals.items c.send.new.numbers.items c.send.new.arrivals.items) executed sends))
    refl refl
    (left ∙ (λ i. left_after seed (d.words + 1 + how_many (sends_count s n (sent i) (executed i)) (chan_count s)))))
