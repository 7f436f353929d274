use Rattle.std.proofs.Common.{sym}
use Rattle.lt_net_node.proofs.PortLoops.{some_none, some_more, some_yes}
use Rattle.lt_net_node.proofs.freshness.any_fresh.Goals as goal

pub loop-number-init : goal.loop-number-init
loop-number-init c = some_none c.args.channels.now c.args.inboxes.now c.requires.inboxes c.args.node c.args.kind c.incoming-numbers.result.now c.incoming-numbers.ensures.are

pub returns-then-fresh : goal.returns-then-fresh
returns-then-fresh c =
    sym (some_yes c.args.channels.now c.args.inboxes.now c.requires.inboxes c.args.node c.args.kind c.incoming-numbers.result.now c.incoming-numbers.ensures.are
    c.loop-number.number-index c.loop-number-test.true c.index-inboxes-c.result c.index-inboxes-c.is c.fresh.result c.fresh.ensures c.if-fresh.true)

pub loop-number-preserved : goal.loop-number-preserved
loop-number-preserved c =
    some_more c.args.channels.now c.args.inboxes.now c.requires.inboxes c.args.node c.args.kind c.incoming-numbers.result.now c.incoming-numbers.ensures.are
    c.loop-number.number-index c.loop-number-test.true c.index-inboxes-c.result c.index-inboxes-c.is c.fresh.result c.fresh.ensures c.if-fresh.false c.loop-number.invariant
