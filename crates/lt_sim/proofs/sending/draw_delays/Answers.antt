use Rattle.std.proofs.Common.{◌≡◌, ◌+◌, ◌<◌, ◌≤◌, ℕ, Some, Bool, true, false, inl, inr, ap, sym, subst, arith, ◌∙◌, length, length-set, List, Option}
use Rattle.rand_core.specs.Steps.{stream_of}
use Rattle.rand_xoshiro.specs.SplitMix64.{splitmix_steps}
use Rattle.lt_arch.specs.Readers.{chan_count}
use Rattle.lt_sim.specs.Words.{left_after}
use Rattle.lt_base.specs.Truths.{how_many}
use Rattle.lt_sim.specs.Tallies.{leads_kind_from}
use Rattle.lt_sim.specs.Spans.{DrawsDelays}
use Rattle.lt_sim.proofs.Counting.{how_many-none}
use Rattle.lt_sim.proofs.Delays.{off_outside, delays_none, delays_all, how_many-all, order_of, step_drawn, step_left, step_skips, step_stays}
use Rattle.lt_sim.proofs.sending.draw_delays.Goals as goal
use Rattle.lt_sim.proofs.sending.draw_delays.Goals.{then-has, else-has}

pub loop-c-init : goal.loop-c-init
loop-c-init c =
    let s = c.args.shape.now in
    let on : ℕ → Bool = leads_kind_from s.channels c.args.data_kind c.args.node in
    let first = c.requires.span.first_within in
    let off : (i : ℕ) → i < c.args.span.first → on i ≡ false = λ i lt. off_outside s.channels c.args.data_kind c.args.node (chan_count s) c.args.span i c.requires.span (omega (arith, lt, first)) (inl lt) in
    let none = how_many-none on c.args.span.first off in
    record {
      places = c.requires.places;
      near = first;
      left = λ seed words is. is ∙ ap (left_after seed) (let same : words ≡ words + how_many on c.args.span.first = omega (arith, none) in same);
      drawn = λ seed words is. delays_none s c.args.timing.now seed words c.args.at on c.args.pending.now c.args.span.first off;
    }

pub draw-delay-requires-clause-order : goal.draw-delay-requires-clause-order
draw-delay-requires-clause-order c = order_of c.args.timing.now _ _ _ _ c.dmin_of-least.ensures.value c.dmax_of-greatest.ensures.value

pub loop-c-preserved : goal.loop-c-preserved
loop-c-preserved c =
    let s = c.args.shape.now in
    let t = c.args.timing.now in
    let k = c.args.data_kind in
    let n = c.args.node in
    let before = c.loop-c.invariant in
    let low = c.loop-c-test.true in
    let within = c.requires.span.within in
    let lt : c.loop-c.c < chan_count s = omega (arith, low, within) in
    let channels = c.as_slice-channels.result.now in
    let is = c.as_slice-channels.ensures in
    elim c.if-has.branch [
      | then-has w ↦
          let on : leads_kind_from channels k n c.loop-c.c ≡ true = sym c.is_outgoing-has.ensures ∙ w.if-has.true in
          record {
            places = ap (λ (xs : List (Option ℕ)). length xs) (w.pending-is ∙ w.set_pending.ensures) ∙ (length-set c.loop-c.pending (c.len-nodes.result + c.loop-c.c) (Some (c.args.at + w.draw-delay.result)) ∙ before.places);
            near = omega (arith, lt);
            left = λ seed words start. ap (stream_of splitmix_steps) w.generator-is
                ∙ step_left s t seed words c.args.at k n channels is c.args.pending.now c.loop-c.pending (stream_of splitmix_steps c.loop-c.generator) c.loop-c.c (before.left seed words start) (before.drawn seed words start)
                (stream_of splitmix_steps w.draw-delay.new.generator) w.draw-delay.ensures.left on;
            drawn = λ seed words start. subst (DrawsDelays s t seed words c.args.at (c.loop-c.c + 1) (leads_kind_from s.channels k n) c.args.pending.now) (sym (w.pending-is ∙ w.set_pending.ensures))
                (step_drawn s t seed words c.args.at k n channels is c.args.pending.now c.loop-c.pending (stream_of splitmix_steps c.loop-c.generator) c.loop-c.c (before.left seed words start) (before.drawn seed words start)
                c.len-nodes.result w.dmin_of-least.result w.dmax_of-greatest.result w.draw-delay.result c.len-nodes.ensures w.dmin_of-least.ensures.value w.dmax_of-greatest.ensures.value w.draw-delay.ensures.number on lt c.requires.places);
          }
      | else-has w ↦
          let off : leads_kind_from channels k n c.loop-c.c ≡ false = sym c.is_outgoing-has.ensures ∙ w.if-has.false in
          record {
            places = ap (λ (xs : List (Option ℕ)). length xs) w.pending-is ∙ before.places;
            near = omega (arith, lt);
            left = λ seed words start. ap (stream_of splitmix_steps) w.generator-is
                ∙ step_stays s t seed words c.args.at k n channels is c.args.pending.now c.loop-c.pending (stream_of splitmix_steps c.loop-c.generator) c.loop-c.c (before.left seed words start) (before.drawn seed words start) off;
            drawn = λ seed words start. subst (DrawsDelays s t seed words c.args.at (c.loop-c.c + 1) (leads_kind_from s.channels k n) c.args.pending.now) (sym w.pending-is)
                (step_skips s t seed words c.args.at k n channels is c.args.pending.now c.loop-c.pending (stream_of splitmix_steps c.loop-c.generator) c.loop-c.c (before.left seed words start) (before.drawn seed words start) off);
          }
    ]

pub returns-clause-left : goal.returns-clause-left
returns-clause-left c seed words start =
    let s = c.args.shape.now in
    let on : ℕ → Bool = leads_kind_from s.channels c.args.data_kind c.args.node in
    let past = c.loop-c-test.false in
    let off : (i : ℕ) → c.loop-c.c ≤ i → i < chan_count s → on i ≡ false = λ i low lt. off_outside s.channels c.args.data_kind c.args.node (chan_count s) c.args.span i c.requires.span lt (inr (omega (arith, past, low))) in
    c.loop-c.invariant.left seed words start ∙ ap (λ m. left_after seed (words + m)) (sym (how_many-all on c.loop-c.c (chan_count s) c.loop-c.invariant.near off))

pub returns-clause-drawn : goal.returns-clause-drawn
returns-clause-drawn c seed words start =
    let s = c.args.shape.now in
    let on : ℕ → Bool = leads_kind_from s.channels c.args.data_kind c.args.node in
    let past = c.loop-c-test.false in
    let off : (i : ℕ) → c.loop-c.c ≤ i → i < chan_count s → on i ≡ false = λ i low lt. off_outside s.channels c.args.data_kind c.args.node (chan_count s) c.args.span i c.requires.span lt (inr (omega (arith, past, low))) in
    delays_all s c.args.timing.now seed words c.args.at on c.args.pending.now c.loop-c.c c.loop-c.pending (c.loop-c.invariant.drawn seed words start) c.loop-c.invariant.near off
