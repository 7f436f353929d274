use Rattle.std.proofs.Common.{◌≡◌, ◌<◌, length, ap, ◌∙◌, sym, true, arith, get_or, set}
use Rattle.std.specs.Prelude.{slice_index_or}
use Rattle.std.proofs.lemmas.List.{get_or_default}
use Rattle.lt_link.specs.Inbox.{no_inbox}
use Rattle.lt_net_node.specs.Acts.{marked}
use Rattle.lt_link.specs.Ports.{is_to}
use Rattle.lt_net_node.proofs.PortLoops.{reads_none, reads_more}
use Rattle.lt_net_node.proofs.freshness.take_all.Goals as goal

pub loop-number-init : goal.loop-number-init
loop-number-init c = reads_none (is_to c.args.channels.now c.args.node c.args.kind) (length c.args.channels.now) c.incoming-numbers.result.now c.incoming-numbers.ensures.are c.args.inboxes.now.items

pub loop-number-preserved : goal.loop-number-preserved
loop-number-preserved c =
    let x = slice_index_or c.incoming-numbers.result.now c.loop-number.number-index 0 in
    let w = c.incoming-numbers.ensures.within c.loop-number.number-index c.loop-number-test.true in
    let lt : x < length c.loop-number.inboxes.items = omega (arith, w, c.requires.inboxes, c.loop-number.invariant.same_length) in
    let box : c.index_mut.result.now ≡ get_or c.loop-number.inboxes.items x no_inbox = c.index_mut.ensures.value ∙ get_or_default c.loop-number.inboxes.items x c.index_mut.result.now no_inbox lt in
    reads_more (is_to c.args.channels.now c.args.node c.args.kind) (length c.args.channels.now) c.incoming-numbers.result.now c.incoming-numbers.ensures.are c.args.inboxes.now.items
    c.loop-number.number-index c.loop-number-test.true c.loop-number.inboxes.items _ (sym c.requires.inboxes) c.loop-number.invariant
    (ap (λ b. set c.loop-number.inboxes.items x b) (c.take.ensures ∙ ap (marked true) box))
