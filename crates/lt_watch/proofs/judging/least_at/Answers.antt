use Rattle.std.proofs.Common.{length, take, map, sym, subst, arith, take_all}
use Rattle.lt_watch.specs.Judged.{IsShortest, column}
use Rattle.lt_watch.proofs.Cells.{least_start_at, least_next_at}
use Rattle.lt_watch.proofs.judging.least_at.Goals as goal

pub places-init : goal.places-init
places-init c = subst (IsShortest (map (column c.args.cells.now) (take 1 c.args.outs.now))) (sym c.length_of-least.ensures) (least_start_at c.args.cells.now c.args.outs.now c.requires)

pub places-preserved : goal.places-preserved
places-preserved c = least_next_at c.args.cells.now c.args.outs.now c.places.k c.places.least _ (omega arith) c.places-test.true (omega arith) c.places.invariant

pub returns : goal.returns
returns c = subst (λ z. IsShortest (map (column c.args.cells.now) z) c.places.least) (take_all c.places.k c.args.outs.now (omega arith)) c.places.invariant
