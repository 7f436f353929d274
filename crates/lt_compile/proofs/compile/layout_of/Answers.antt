use Rattle.std.proofs.Common.{sym, subst}
use Rattle.lt_answer.specs.Answered.{Refuses}
use Rattle.lt_front.specs.Checked.{CheckedText, IsChecked, examined_part}
use Rattle.lt_compile.specs.Sites.{layout_verdict}
use Rattle.lt_compile.proofs.Misplaced.{not_laid}
use Rattle.lt_compile.proofs.compile.layout_of.Goals as goal

pub returns-in-Err-clause-answered : goal.returns-in-Err-clause-answered
returns-in-Err-clause-answered c =
    let k : CheckedText = record { tree = c.checked.inside.tree; program = c.checked.inside.program; flat = c.checked.inside.flat } in
    let kept : IsChecked k = subst IsChecked (sym c.checked.view_is) c.invariant_holds.ensures in
    subst (λ (x : CheckedText). Refuses (layout_verdict (examined_part x) c.args.setup.now) c.as_place.result) c.checked.view_is
    (not_laid k c.args.setup.now kept.flat c.main_of.result.now c.main_of.ensures c.in-Err.fault c.as_place.result c.as_place.ensures c.in-Err.ensures.first c.in-Err.ensures.refused)
