use Rattle.std.proofs.Common.{◌≡◌, length, map, take}
use Rattle.lt_net_node.specs.Fed.{fed_by}
use Rattle.lt_net_node.proofs.stepping.feed.Given as goal

abbrev pub invariant-loop-x : goal.invariant-loop-x
invariant-loop-x l = (length l.values.items ≡ length l.initial.values.items) × (take l.x l.values.items ≡ map (fed_by l.routes l.inboxes l.row) (take l.x l.feeds))
