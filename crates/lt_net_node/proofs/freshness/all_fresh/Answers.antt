use Rattle.std.proofs.Common.{sym}
use Rattle.lt_net_node.proofs.PortLoops.{all_none, all_more, all_not}
use Rattle.lt_net_node.proofs.freshness.all_fresh.Goals as goal

pub loop-number-init : goal.loop-number-init
loop-number-init c = all_none c.args.channels.now c.args.inboxes.now c.requires.inboxes c.args.node c.args.kind c.incoming-numbers.result.now c.incoming-numbers.ensures.are

pub returns-then-not-fresh : goal.returns-then-not-fresh
returns-then-not-fresh c =
    sym (all_not c.args.channels.now c.args.inboxes.now c.requires.inboxes c.args.node c.args.kind c.incoming-numbers.result.now c.incoming-numbers.ensures.are
    c.loop-number.number-index c.loop-number-test.true c.index-inboxes-c.result c.index-inboxes-c.is c.fresh.result c.fresh.ensures c.if-not-fresh.true)

pub loop-number-preserved : goal.loop-number-preserved
loop-number-preserved c =
    all_more c.args.channels.now c.args.inboxes.now c.requires.inboxes c.args.node c.args.kind c.incoming-numbers.result.now c.incoming-numbers.ensures.are
    c.loop-number.number-index c.loop-number-test.true c.index-inboxes-c.result c.index-inboxes-c.is c.fresh.result c.fresh.ensures c.if-not-fresh.false c.loop-number.invariant
