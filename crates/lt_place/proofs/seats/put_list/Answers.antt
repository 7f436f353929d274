use Rattle.std.proofs.Common.{◌++◌, ◌∙◌, take}
use Rattle.lt_place.specs.Nodes.{listings_on}
use Rattle.lt_place.proofs.Listed.{list_step}
use Rattle.lt_place.proofs.seats.put_list.Goals as goal

pub loop-name-preserved : goal.loop-name-preserved
loop-name-preserved c = λ ls h.
    list_step c.put.new.seats ls c.args.node c.args.names.now c.loop-name.name-index c.as_str.result.now c.name-item.result c.loop-name-test.true (c.as_str.ensures ∙ c.name-item.is) (c.in_ok-put.ensures (ls ++ listings_on c.args.node (take c.loop-name.name-index c.args.names.now)) (c.loop-name.invariant ls h))
