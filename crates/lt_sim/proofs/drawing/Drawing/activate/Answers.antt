use Rattle.std.proofs.Common.{◌≡◌, ◌∙◌, ◌+◌, ℕ, ap, sym, refl, arith, true, false}
use Rattle.std.proofs.lemmas.Option.{slice_get_read}
use Rattle.rand_core.specs.Steps.{stream_of}
use Rattle.rand_xoshiro.specs.SplitMix64.{splitmix_steps}
use Rattle.lt_arch.specs.declared.event.Deed.TheVariants.{Nothing, Execute, Send}
use Rattle.lt_arch.specs.declared.event.Event.TheVariants.{Act}
use Rattle.lt_arch.specs.declared.timing.Timing.{Timing}
use Rattle.lt_arch.specs.State.{executed_of}
use Rattle.lt_arch.specs.Readers.{chan_count, node_count, tmin_of, tmax_of, is_back_pressure}
use Rattle.lt_arch.specs.Deeds.{deed_at}
use Rattle.lt_arch.specs.Step.{after, is_execute, updated}
use Rattle.lt_arch.proofs.Ranges.{tmin-tmax}
use Rattle.lt_sim.specs.Words.{left_after, drawn_word, number_in}
use Rattle.lt_sim.specs.Drawn.{gap}
use Rattle.lt_base.specs.Truths.{how_many}
use Rattle.lt_sim.specs.Tallies.{leads_kind_from}
use Rattle.lt_sim.proofs.Counting.{how_many-none}
use Rattle.lt_sim.proofs.Delays.{number_drawn, left_drawn, delays_none}
use Rattle.lt_sim.proofs.Activating.{none_ahead, executed-more, executed-same, at_same, sends-nothing, sends-data, sends-acks, sends-none, stands-act}
use Rattle.lt_sim.proofs.drawing.Drawing.activate.Goals as goal

pub draw-gap-requires-clause-order : goal.draw-gap-requires-clause-order
draw-gap-requires-clause-order c =
    let low = c.tmin_of.ensures.value in
    let high = c.tmax_of.ensures.value in
    let order = tmin-tmax c.args.timing.now c.args.node in
    omega (arith, low, high, order)

pub draw_delays-requires-clause-span : goal.draw_delays-requires-clause-span
draw_delays-requires-clause-span c =
    let spans = c.requires.due.stands.acks in
    spans.each c.args.node c.index.result.now (slice_get_read c.args.self.now.acks.items (node_count c.args.shape.now) c.args.node c.index.result.now (sym spans.size) c.requires.node c.index.ensures)

pub draw_delays-requires-in-Send-clause-span : goal.draw_delays-requires-in-Send-clause-span
draw_delays-requires-in-Send-clause-span c =
    let spans = c.requires.due.stands.messages in
    spans.each c.args.node c.index-in-Send.result.now (slice_get_read c.args.self.now.messages.items (node_count c.args.shape.now) c.args.node c.index-in-Send.result.now (sym spans.size) c.requires.node c.index-in-Send.ensures)

-- the gap is drawn with the next word
gap_is : (t : Timing) (seed words n low high result : ℕ) → low ≡ tmin_of t n → high ≡ tmax_of t n → result ≡ number_in low high (drawn_word seed (words + 1)) → result ≡ gap t seed n (words + 1)
gap_is t seed words n low high result is_low is_high is = is ∙ (λ i. number_in (is_low i) (is_high i) (drawn_word seed (words + 1)))

no_more : (seed words count : ℕ) → left_after seed (words + 1) ≡ left_after seed (words + 1 + how_many (λ _. false) count)
no_more seed words count =
    let none = how_many-none (λ _. false) count (λ c lt. refl) in
    let same : words + 1 ≡ words + 1 + how_many (λ _. false) count = omega (arith, none) in
    ap (left_after seed) same

pub returns-in-Nothing : goal.returns-in-Nothing
returns-in-Nothing c seed front d stands keeps =
    let s = c.args.shape.now in
    let t = c.args.timing.now in
    let rows = c.args.rows in
    let n = c.args.node in
    let k = c.args.self.now in
    let deed : c.wake-deed.result ≡ deed_at s rows d.state n = c.wake-deed.ensures.deed s t seed d stands.progress stands.controllers c.requires.node in
    let is : deed_at s rows d.state n ≡ Nothing = sym deed ∙ c.in-Nothing.is in
    let old = stream_of splitmix_steps k.generator in
    let drawn = number_drawn seed d.words c.tmin_of.result c.tmax_of.result c.draw-gap.result old old stands.left c.draw-gap.ensures.number in
    let left = left_drawn seed d.words 0 0 0 old (stream_of splitmix_steps c.draw-gap.new.generator) stands.left c.draw-gap.ensures.left in
    stands-act k s t rows seed d stands n c.args.at c.requires.node _ c.wake-deed.result c.set_pending.new.pending c.draw-gap.result (λ _. false) deed (λ i. sym (sends-nothing s t rows d.state n is i))
    (gap_is t seed d.words n c.tmin_of.result c.tmax_of.result c.draw-gap.result c.tmin_of.ensures.value c.tmax_of.ensures.value drawn) c.set_pending.ensures
    (delays_none s t seed (d.words + 1) c.args.at (λ _. false) c.set_pending.new.pending (chan_count s) (λ i lt. refl))
    (left ∙ no_more seed d.words (chan_count s)) c.wake-deed.ensures.controllers
    (at_same k.progress s (executed_of d.state) (executed_of (after s t rows d.state (Act n c.args.at))) (λ i. (d.state.chan i).delivered) (λ i. (d.state.chan i).delivered) (executed-same s t rows d.state n c.args.at (ap is_execute is)) (λ i. refl) stands.progress)
    refl refl

pub returns-in-Send : goal.returns-in-Send
returns-in-Send c seed front d stands keeps =
    let s = c.args.shape.now in
    let t = c.args.timing.now in
    let rows = c.args.rows in
    let n = c.args.node in
    let k = c.args.self.now in
    let deed : c.wake-deed.result ≡ deed_at s rows d.state n = c.wake-deed.ensures.deed s t seed d stands.progress stands.controllers c.requires.node in
    let is : deed_at s rows d.state n ≡ Send = sym deed ∙ c.in-Send.is in
    let old = stream_of splitmix_steps k.generator in
    let drawn = number_drawn seed d.words c.tmin_of.result c.tmax_of.result c.draw-gap.result old old stands.left c.draw-gap.ensures.number in
    let left = left_drawn seed d.words 0 0 0 old (stream_of splitmix_steps c.draw-gap.new.generator) stands.left c.draw-gap.ensures.left in
    stands-act k s t rows seed d stands n c.args.at c.requires.node _ c.wake-deed.result c.set_pending.new.pending c.draw-gap.result (leads_kind_from s.channels true n) deed (λ i. sym (sends-data s t rows d.state n is i))
    (gap_is t seed d.words n c.tmin_of.result c.tmax_of.result c.draw-gap.result c.tmin_of.ensures.value c.tmax_of.ensures.value drawn) c.set_pending.ensures
    (c.draw_delays-in-Send.ensures.drawn seed (d.words + 1) left)
    (c.draw_delays-in-Send.ensures.left seed (d.words + 1) left) c.wake-deed.ensures.controllers
    (at_same k.progress s (executed_of d.state) (executed_of (after s t rows d.state (Act n c.args.at))) (λ i. (d.state.chan i).delivered) (λ i. (d.state.chan i).delivered) (executed-same s t rows d.state n c.args.at (ap is_execute is)) (λ i. refl) stands.progress)
    refl refl

pub returns-then-by_pressure : goal.returns-then-by_pressure
returns-then-by_pressure c seed front d stands keeps =
    let s = c.args.shape.now in
    let t = c.args.timing.now in
    let rows = c.args.rows in
    let n = c.args.node in
    let k = c.args.self.now in
    let deed : c.wake-deed.result ≡ deed_at s rows d.state n = c.wake-deed.ensures.deed s t seed d stands.progress stands.controllers c.requires.node in
    let is : deed_at s rows d.state n ≡ Execute = sym deed ∙ c.in-Execute.is in
    let pressure : is_back_pressure t.protocol ≡ true = sym c.is_back_pressure-by_pressure.ensures ∙ c.if-by_pressure.true in
    let old = stream_of splitmix_steps k.generator in
    let drawn = number_drawn seed d.words c.tmin_of.result c.tmax_of.result c.draw-gap.result old old stands.left c.draw-gap.ensures.number in
    let left = left_drawn seed d.words 0 0 0 old (stream_of splitmix_steps c.draw-gap.new.generator) stands.left c.draw-gap.ensures.left in
    let executed = c.execute.ensures s (executed_of d.state) (λ i. (d.state.chan i).delivered) stands.progress c.requires.node (none_ahead s d.state keeps.one_place n) in
    stands-act k s t rows seed d stands n c.args.at c.requires.node _ c.wake-deed.result c.set_pending.new.pending c.draw-gap.result (leads_kind_from s.channels false n) deed (λ i. sym (sends-acks s t rows d.state n is pressure i))
    (gap_is t seed d.words n c.tmin_of.result c.tmax_of.result c.draw-gap.result c.tmin_of.ensures.value c.tmax_of.ensures.value drawn) c.set_pending.ensures
    (c.draw_delays.ensures.drawn seed (d.words + 1) left)
    (c.draw_delays.ensures.left seed (d.words + 1) left) c.wake-deed.ensures.controllers
    (at_same c.execute.new.self s (updated (executed_of d.state) n (executed_of d.state n + 1)) (executed_of (after s t rows d.state (Act n c.args.at))) (λ i. (d.state.chan i).delivered) (λ i. (d.state.chan i).delivered) (executed-more s t rows d.state n c.args.at is) (λ i. refl) executed)
    refl refl

pub returns-else-by_pressure : goal.returns-else-by_pressure
returns-else-by_pressure c seed front d stands keeps =
    let s = c.args.shape.now in
    let t = c.args.timing.now in
    let rows = c.args.rows in
    let n = c.args.node in
    let k = c.args.self.now in
    let deed : c.wake-deed.result ≡ deed_at s rows d.state n = c.wake-deed.ensures.deed s t seed d stands.progress stands.controllers c.requires.node in
    let is : deed_at s rows d.state n ≡ Execute = sym deed ∙ c.in-Execute.is in
    let pressure : is_back_pressure t.protocol ≡ false = sym c.is_back_pressure-by_pressure.ensures ∙ c.if-by_pressure.false in
    let old = stream_of splitmix_steps k.generator in
    let drawn = number_drawn seed d.words c.tmin_of.result c.tmax_of.result c.draw-gap.result old old stands.left c.draw-gap.ensures.number in
    let left = left_drawn seed d.words 0 0 0 old (stream_of splitmix_steps c.draw-gap.new.generator) stands.left c.draw-gap.ensures.left in
    let executed = c.execute.ensures s (executed_of d.state) (λ i. (d.state.chan i).delivered) stands.progress c.requires.node (none_ahead s d.state keeps.one_place n) in
    stands-act k s t rows seed d stands n c.args.at c.requires.node _ c.wake-deed.result c.set_pending.new.pending c.draw-gap.result (λ _. false) deed (λ i. sym (sends-none s t rows d.state n is pressure i))
    (gap_is t seed d.words n c.tmin_of.result c.tmax_of.result c.draw-gap.result c.tmin_of.ensures.value c.tmax_of.ensures.value drawn) c.set_pending.ensures
    (delays_none s t seed (d.words + 1) c.args.at (λ _. false) c.set_pending.new.pending (chan_count s) (λ i lt. refl))
    (left ∙ no_more seed d.words (chan_count s)) c.wake-deed.ensures.controllers
    (at_same c.execute.new.self s (updated (executed_of d.state) n (executed_of d.state n + 1)) (executed_of (after s t rows d.state (Act n c.args.at))) (λ i. (d.state.chan i).delivered) (λ i. (d.state.chan i).delivered) (executed-more s t rows d.state n c.args.at is) (λ i. refl) executed)
    refl refl
