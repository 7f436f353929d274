use Rattle.std.proofs.Common.{codes}
use Rattle.lt_c.specs.Text.{spelled, statement_text}
use Rattle.lt_c_step.specs.Translate.{of_lets}
use Rattle.lt_c_step.proofs.Pieces.{next, let_piece, lets_snoc}
use Rattle.lt_c_step.proofs.writing.lets.Goals as goal

pub lets-preserved : goal.lets-preserved
lets-preserved c =
    let nm = spelled c.args.decls.now in
    next (λ ls. statement_text nm (codes "    ") (of_lets ls)) (let_piece nm) (lets_snoc nm) c.args.out.now c.lets.out c.statement_of_let.new.out c.args.ls.now c.lets.l-index c.l-item.result c.lets-test.true c.l-item.is c.lets.invariant c.in_ok-statement_of_let.ensures
