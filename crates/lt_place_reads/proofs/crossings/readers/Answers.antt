use Rattle.std.proofs.Common.{arith}
use Rattle.lt_place_reads.proofs.Lefts.{left_inside}
use Rattle.lt_place_reads.proofs.Crossed.{reads_more, all_read}
use Rattle.lt_place_reads.proofs.crossings.readers.Goals as goal

pub cross_in-requires-clause-left : goal.cross_in-requires-clause-left
cross_in-requires-clause-left c = let l = left_inside c.args.f.now c.invariant_holds.ensures.good c.equation-item.result c.equations-equation-items.result.now c.loop-equation.equation-index c.equations-equation-items.ensures c.loop-equation-test.true c.equation-item.is in let s = c.requires in omega (arith, l, s)

pub index_mut-requires : goal.index_mut-requires
index_mut-requires c = let l = left_inside c.args.f.now c.invariant_holds.ensures.good c.equation-item.result c.equations-equation-items.result.now c.loop-equation.equation-index c.equations-equation-items.ensures c.loop-equation-test.true c.equation-item.is in let s = c.loop-equation.invariant.size in let v = c.loop-equation.readers.ok.0 in let e = c.left.ensures in omega (arith, l, s, v, e)

pub loop-equation-preserved : goal.loop-equation-preserved
loop-equation-preserved c =
    reads_more c.args.f.now c.invariant_holds.ensures.good c.args.nodes.now c.equations-equation-items.result.now c.equations-equation-items.ensures c.loop-equation.equation-index c.loop-equation-test.true c.equation-item.result c.equation-item.is c.loop-equation.readers.items c.loop-equation.invariant c.left.result c.left.ensures (left_inside c.args.f.now c.invariant_holds.ensures.good c.equation-item.result c.equations-equation-items.result.now c.loop-equation.equation-index c.equations-equation-items.ensures c.loop-equation-test.true c.equation-item.is) c.cross_in.result c.cross_in.ensures

pub returns : goal.returns
returns c = all_read c.args.f.now c.invariant_holds.ensures.good c.args.nodes.now c.equations-equation-items.result.now c.equations-equation-items.ensures c.loop-equation.equation-index c.loop-equation-test.false c.loop-equation.readers.items c.loop-equation.invariant
