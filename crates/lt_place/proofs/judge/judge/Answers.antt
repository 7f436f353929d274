use Rattle.std.proofs.Common.{◌∙◌}
use Rattle.lt_place_reads.specs.declared.look.Look.TheVariants.{Clocks, Direct, Slow}
use Rattle.lt_place.proofs.Judging.{index_inside, one_fault, one_silent, all_legal}
use Rattle.lt_place.proofs.judge.judge.Goals as goal

pub index-requires : goal.index-requires
index-requires c = index_inside c.args.f.now c.invariant_holds.ensures.good c.requires.origins c.args.nodes.now c.in_ok-clocks.clocks.items c.in_ok-direct.direct.items c.in_ok-slow.slow.items (record { size = c.in_ok-clocks.ensures.size; least = c.in_ok-clocks.ensures.least }) (record { size = c.in_ok-direct.ensures.size; least = c.in_ok-direct.ensures.least }) (record { size = c.in_ok-slow.ensures.size; least = c.in_ok-slow.ensures.least }) c.deref-var-items.result.now (c.deref-var-items.ensures.value ∙ c.in_ok-order.ensures) Clocks c.in_ok-clocks.clocks.items (record { size = c.in_ok-clocks.ensures.size; least = c.in_ok-clocks.ensures.least }) _ c.in_ok-clocks.clocks.ok.0 c.loop-var.var-index c.loop-var-test.true

pub index-requires-in-loop-var : goal.index-requires-in-loop-var
index-requires-in-loop-var c = index_inside c.args.f.now c.invariant_holds.ensures.good c.requires.origins c.args.nodes.now c.in_ok-clocks.clocks.items c.in_ok-direct.direct.items c.in_ok-slow.slow.items (record { size = c.in_ok-clocks.ensures.size; least = c.in_ok-clocks.ensures.least }) (record { size = c.in_ok-direct.ensures.size; least = c.in_ok-direct.ensures.least }) (record { size = c.in_ok-slow.ensures.size; least = c.in_ok-slow.ensures.least }) c.deref-var-items.result.now (c.deref-var-items.ensures.value ∙ c.in_ok-order.ensures) Direct c.in_ok-direct.direct.items (record { size = c.in_ok-direct.ensures.size; least = c.in_ok-direct.ensures.least }) _ c.in_ok-direct.direct.ok.0 c.loop-var.var-index c.loop-var-test.true

pub index-requires-in-loop-var-2 : goal.index-requires-in-loop-var-2
index-requires-in-loop-var-2 c = index_inside c.args.f.now c.invariant_holds.ensures.good c.requires.origins c.args.nodes.now c.in_ok-clocks.clocks.items c.in_ok-direct.direct.items c.in_ok-slow.slow.items (record { size = c.in_ok-clocks.ensures.size; least = c.in_ok-clocks.ensures.least }) (record { size = c.in_ok-direct.ensures.size; least = c.in_ok-direct.ensures.least }) (record { size = c.in_ok-slow.ensures.size; least = c.in_ok-slow.ensures.least }) c.deref-var-items.result.now (c.deref-var-items.ensures.value ∙ c.in_ok-order.ensures) Slow c.in_ok-slow.slow.items (record { size = c.in_ok-slow.ensures.size; least = c.in_ok-slow.ensures.least }) _ c.in_ok-slow.slow.ok.0 c.loop-var.var-index c.loop-var-test.true

pub returns-in-Some-clause-fault : goal.returns-in-Some-clause-fault
returns-in-Some-clause-fault c = one_fault c.args.f.now c.invariant_holds.ensures.good c.requires.origins c.args.nodes.now c.in_ok-clocks.clocks.items c.in_ok-direct.direct.items c.in_ok-slow.slow.items (record { size = c.in_ok-clocks.ensures.size; least = c.in_ok-clocks.ensures.least }) (record { size = c.in_ok-direct.ensures.size; least = c.in_ok-direct.ensures.least }) (record { size = c.in_ok-slow.ensures.size; least = c.in_ok-slow.ensures.least }) c.deref-var-items.result.now (c.deref-var-items.ensures.value ∙ c.in_ok-order.ensures) c.loop-var.var-index c.loop-var-test.true c.index.result.now c.index-in-loop-var.result.now c.index-in-loop-var-2.result.now c.index.ensures c.index-in-loop-var.ensures c.index-in-loop-var-2.ensures c.loop-var.invariant c.in-Some.fault c.in-Some.ensures

pub loop-var-preserved : goal.loop-var-preserved
loop-var-preserved c = one_silent c.args.f.now c.invariant_holds.ensures.good c.requires.origins c.args.nodes.now c.in_ok-clocks.clocks.items c.in_ok-direct.direct.items c.in_ok-slow.slow.items (record { size = c.in_ok-clocks.ensures.size; least = c.in_ok-clocks.ensures.least }) (record { size = c.in_ok-direct.ensures.size; least = c.in_ok-direct.ensures.least }) (record { size = c.in_ok-slow.ensures.size; least = c.in_ok-slow.ensures.least }) c.deref-var-items.result.now (c.deref-var-items.ensures.value ∙ c.in_ok-order.ensures) c.loop-var.var-index c.loop-var-test.true c.index.result.now c.index-in-loop-var.result.now c.index-in-loop-var-2.result.now c.index.ensures c.index-in-loop-var.ensures c.index-in-loop-var-2.ensures c.loop-var.invariant c.in_default.ensures

pub returns-clause-legal : goal.returns-clause-legal
returns-clause-legal c = all_legal c.args.f.now c.invariant_holds.ensures.good c.requires.origins c.args.nodes.now c.in_ok-clocks.clocks.items c.in_ok-direct.direct.items c.in_ok-slow.slow.items (record { size = c.in_ok-clocks.ensures.size; least = c.in_ok-clocks.ensures.least }) (record { size = c.in_ok-direct.ensures.size; least = c.in_ok-direct.ensures.least }) (record { size = c.in_ok-slow.ensures.size; least = c.in_ok-slow.ensures.least }) c.deref-var-items.result.now (c.deref-var-items.ensures.value ∙ c.in_ok-order.ensures) c.loop-var.var-index c.loop-var-test.false c.loop-var.invariant
