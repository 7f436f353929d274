use Rattle.std.proofs.Common.{◌∙◌, ◌+◌, ◌*◌, ◌/◌, arith, leb-true}
use Rattle.lt_sim.proofs.Short.{at_most_by}
use Rattle.lt_sim.proofs.within.is_bounded.Goals as goal

pub returns : goal.returns
returns c = λ low seed.
    let s = c.args.shape.now in
    let few = leb-true c.most_of.result 5000000 low in
    let most = at_most_by s c.args.timing.now c.args.rows seed c.args.horizon c.least_period.result c.requires.one_place c.requires.horizon c.events_are_few.ensures c.requires.same c.least_period.ensures.some c.least_period.ensures.least c.most_of.result
    (c.most_of.ensures ∙ (λ i. c.len-nodes.ensures i * (c.args.horizon / c.least_period.result + 1) + c.len-channels.ensures i * (c.args.rows + 1) + 1)) in
    omega (arith, few, most)
