use Rattle.std.proofs.Common.{codes}
use Rattle.lt_c.specs.Text.{spelled, statement_text}
use Rattle.lt_c_step.specs.Translate.{of_firsts}
use Rattle.lt_c_step.proofs.Pieces.{next, first_piece, firsts_snoc}
use Rattle.lt_c_step.proofs.writing.firsts.Goals as goal

pub firsts-preserved : goal.firsts-preserved
firsts-preserved c =
    let nm = spelled c.args.decls.now in
    next (λ ls. statement_text nm (codes "    ") (of_firsts ls)) (first_piece nm) (firsts_snoc nm) c.args.out.now c.firsts.out c.first.new.out c.args.ks.now c.firsts.k-index c.k-item.result c.firsts-test.true c.k-item.is c.firsts.invariant c.in_ok-first.ensures
