use Rattle.std.proofs.Common.{codes}
use Rattle.lt_c.specs.Text.{spelled, statement_text}
use Rattle.lt_c_step.specs.Translate.{of_keeps}
use Rattle.lt_c_step.proofs.Pieces.{next, keep_piece, keeps_snoc}
use Rattle.lt_c_step.proofs.writing.keeps.Goals as goal

pub keeps-preserved : goal.keeps-preserved
keeps-preserved c =
    let nm = spelled c.args.decls.now in
    next (λ ls. statement_text nm (codes "    ") (of_keeps ls)) (keep_piece nm) (keeps_snoc nm) c.args.out.now c.keeps.out c.keep.new.out c.args.ks.now c.keeps.k-index c.k-item.result c.keeps-test.true c.k-item.is c.keeps.invariant c.in_ok-keep.ensures
