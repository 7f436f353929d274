use Rattle.lt_c.specs.Text.{spelled, statement_text}
use Rattle.lt_c_step.proofs.Pieces.{next}
use Rattle.lt_c_heads.specs.Words.{indent}
use Rattle.lt_c_bodies.specs.Equations.{told_lets}
use Rattle.lt_c_bodies.proofs.Telling.{told_piece, told_snoc}
use Rattle.lt_c_bodies.proofs.equations.told_lets.Goals as goal

pub lets-preserved : goal.lets-preserved
lets-preserved c =
    let ds = c.args.decls.now in
    next (λ ls. statement_text (spelled ds) indent (told_lets ds ls)) (told_piece ds) (told_snoc ds) c.args.out.now c.lets.out c.told_let.new.out c.args.ls.now c.lets.l-index c.l-item.result c.lets-test.true c.l-item.is c.lets.invariant c.in_ok-told_let.ensures
