use Rattle.std.proofs.Common.{◌≡◌, ◌+◌, ◌<◌, ◌∙◌, ℕ, List, length, set, sym, ap, subst, true, false, arith, slice_index_or}
use Rattle.lt_arch.specs.declared.chan.Chan.{Chan}
use Rattle.lt_arch.specs.Times.{Times}
use Rattle.lt_arch.specs.Step.{is_send}
use Rattle.lt_link.specs.Ports.{numbers, is_from}
use Rattle.lt_audit.specs.Audit.{LineState}
use Rattle.lt_audit.specs.Acts.{SentBelow, audited_chan, is_sent_on}
use Rattle.lt_audit.proofs.Lines.{line_is}
use Rattle.lt_audit.proofs.SentOn.{sent_none, sent_passed, sent_more}
use Rattle.lt_audit.proofs.NodeLoops.{sent_first, sent_here, sent_onward}
use Rattle.lt_audit.proofs.sending.send_all.Goals as goal
use Rattle.lt_audit.proofs.sending.send_all.Goals.{then-is_sent_on, else-is_sent_on}

pub loop-number-init : goal.loop-number-init
loop-number-init g c =
    let cs = c.channels-channels.result.now in
    let on : ℕ → _ = λ d. is_sent_on c.args.protocol c.args.node c.args.deed (audited_chan cs d) in
    let are = c.outgoing-numbers.ensures.are ∙ ap (λ b. numbers (is_from c.args.wiring.now.channels c.args.node b) (length c.args.wiring.now.channels)) c.is_send.ensures ∙ ap (λ (q : List Chan). numbers (is_from q c.args.node (is_send c.args.deed)) (length q)) (sym c.channels-channels.ensures) in
    let first = sent_none on c.args.at c.args.lines.now.items c.args.watch.now (λ d lt. c.requires.oldest d (omega (arith, lt, c.requires.lines))) in
    sent_first cs c.args.node c.args.deed c.outgoing-numbers.result.now are c.args.protocol c.args.at c.args.lines.now.items c.args.lines.now.items c.args.watch.now c.args.watch.now first

pub loop-number-preserved : goal.loop-number-preserved
loop-number-preserved g c =
    let cs = c.channels-channels.result.now in
    let xs = c.outgoing-numbers.result.now in
    let p = c.args.protocol in
    let n = c.args.node in
    let deed = c.args.deed in
    let at = c.args.at in
    let old = c.args.lines.now.items in
    let mid = c.loop-number.lines.items in
    let w = c.args.watch.now in
    let v = c.loop-number.watch in
    let x = slice_index_or xs c.loop-number.number-index 0 in
    let on : ℕ → _ = λ d. is_sent_on p n deed (audited_chan cs d) in
    let are = c.outgoing-numbers.ensures.are ∙ ap (λ b. numbers (is_from c.args.wiring.now.channels c.args.node b) (length c.args.wiring.now.channels)) c.is_send.ensures ∙ ap (λ (q : List Chan). numbers (is_from q n (is_send deed)) (length q)) (sym c.channels-channels.ensures) in
    let within = c.outgoing-numbers.ensures.within c.loop-number.number-index c.loop-number-test.true in
    let below : x < length old = omega (arith, within, c.requires.lines) in
    let so_far = sent_here cs n deed xs are p at old mid w v c.loop-number.number-index c.loop-number-test.true c.loop-number.invariant in
    let same = so_far.same_length in
    let inside : x < length mid = omega (arith, below, same) in
    elim c.if-is_sent_on.branch [
      | then-is_sent_on b ↦
          let lines : c.if-is_sent_on.lines.items ≡ set mid x b.send.new.line = ap (λ l. l.items) b.lines-is in
          let yes_here : on x ≡ true = sym c.is_sent_on.ensures ∙ b.if-is_sent_on.true in
          let more = sent_more on at x old mid w v so_far _ b.send.new.line b.send.new.watch below (c.requires.sends ∙ sym c.requires.lines) (line_is mid x _ inside b.index_mut.ensures.value) b.send.ensures.line b.send.ensures.watch yes_here in
          sent_onward cs n deed xs are p at old c.if-is_sent_on.lines.items w c.if-is_sent_on.watch c.loop-number.number-index c.loop-number-test.true
          (subst (λ (ls : List LineState). SentBelow on at (x + 1) old ls w c.if-is_sent_on.watch) (sym lines) (subst (λ (u : Times). SentBelow on at (x + 1) old (set mid x b.send.new.line) w u) (sym b.watch-is) more))
      | else-is_sent_on b ↦
          let lines : c.if-is_sent_on.lines.items ≡ mid = ap (λ l. l.items) b.lines-is in
          let off : on x ≡ false = sym c.is_sent_on.ensures ∙ b.if-is_sent_on.false in
          let passed = sent_passed on at x old mid w v so_far off in
          sent_onward cs n deed xs are p at old c.if-is_sent_on.lines.items w c.if-is_sent_on.watch c.loop-number.number-index c.loop-number-test.true
          (subst (λ (ls : List LineState). SentBelow on at (x + 1) old ls w c.if-is_sent_on.watch) (sym lines) (subst (λ (u : Times). SentBelow on at (x + 1) old mid w u) (sym b.watch-is) passed))
    ]
