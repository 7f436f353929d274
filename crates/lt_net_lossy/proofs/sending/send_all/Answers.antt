use Rattle.std.proofs.Common.{◌≡◌, ◌<◌, ℕ, [], length, ◌∙◌, subst, arith, get_or}
use Rattle.std.proofs.lemmas.List.{get_or_default}
use Rattle.lt_io.specs.FabricState.{Sends}
use Rattle.lt_link.specs.Ports.{is_from}
use Rattle.lt_net_lossy.specs.Sends.{posted_message}
use Rattle.lt_net_lossy.proofs.ResendLoop.{up_to_more, sends_begin, sends_here, sends_onward}
use Rattle.lt_net_lossy.proofs.sending.send_all.Goals as goal

pub loop-i-init : goal.loop-i-init
loop-i-init g c =
    sends_begin (is_from c.args.channels.now c.args.node c.args.kind) (length c.args.channels.now) c.outgoing-numbers.result.now c.outgoing-numbers.ensures.are (posted_message c.args.posted.now c.args.bit) c.args.at (g.W.Fabric.state c.args.fabric.now) c.args.watch.now

pub loop-i-preserved : goal.loop-i-preserved
loop-i-preserved g c =
    let xs = c.outgoing-numbers.result.now in
    let ch = get_or xs c.loop-i.i 0 in
    let on : ℕ → _ = is_from c.args.channels.now c.args.node c.args.kind in
    let message : ℕ → _ = posted_message c.args.posted.now c.args.bit in
    let within : ch < length c.args.channels.now = c.outgoing-numbers.ensures.within c.loop-i.i c.loop-i-test.true in
    let so_far = sends_here on (length c.args.channels.now) xs c.outgoing-numbers.ensures.are message c.args.at (g.W.Fabric.state c.args.fabric.now) c.args.watch.now (g.W.Fabric.state c.loop-i.fabric) c.loop-i.watch c.loop-i.i c.loop-i-test.true c.loop-i.invariant in
    let lt : ch < length c.args.watch.now.queues = omega (arith, within, c.requires.queues) in
    let below : ch < length c.args.posted.now = omega (arith, within, c.requires.posted) in
    let payload : c.as_slice.result.now ≡ get_or c.args.posted.now ch [] = c.as_slice.ensures ∙ c.index-posted-ch.is ∙ get_or_default c.args.posted.now ch c.index-posted-ch.result [] below in
    let is : record { payload = c.as_slice.result.now; bit = c.args.bit } ≡ posted_message c.args.posted.now c.args.bit ch = λ i. record { payload = payload i; bit = c.args.bit } in
    sends_onward on (length c.args.channels.now) xs c.outgoing-numbers.ensures.are message c.args.at (g.W.Fabric.state c.args.fabric.now) c.args.watch.now (g.W.Fabric.state c.send.new.self) c.sent.new.self c.loop-i.i c.loop-i-test.true
    (up_to_more on message ch c.args.at _ _ _ _ so_far _ _ lt (c.outgoing-numbers.ensures.on c.loop-i.i c.loop-i-test.true)
    (subst (λ m. Sends (g.W.Fabric.state c.loop-i.fabric) (g.W.Fabric.state c.send.new.self) ch m) is c.in_ok-send.ensures.sent)
    c.in_ok-send.ensures.keeps c.in_ok-send.ensures.cause c.sent.ensures.times)
