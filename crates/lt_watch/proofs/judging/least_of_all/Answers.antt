use Rattle.std.proofs.Common.{length, take, sym, subst, arith, take_all}
use Rattle.lt_watch.specs.Judged.{IsShortest, column}
use Rattle.lt_watch.proofs.Cells.{least_start, least_next}
use Rattle.lt_watch.proofs.judging.least_of_all.Goals as goal

pub lists-init : goal.lists-init
lists-init c = subst (IsShortest (take 1 c.args.cells.now)) (sym c.length_of-least.ensures) (least_start c.args.cells.now)

pub lists-preserved : goal.lists-preserved
lists-preserved c = least_next c.args.cells.now c.lists.k c.lists.least _ (omega arith) c.lists-test.true (omega arith) c.lists.invariant

pub returns : goal.returns
returns c = subst (λ z. IsShortest z c.lists.least) (take_all c.lists.k c.args.cells.now (omega arith)) c.lists.invariant
