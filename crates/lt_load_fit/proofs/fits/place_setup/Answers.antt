use Rattle.std.proofs.Common.{sym, subst}
use Rattle.lt_answer.specs.Answered.{Refuses}
use Rattle.lt_front.specs.Checked.{CheckedText, IsChecked, examined_part}
use Rattle.lt_load_fit.specs.Fits.{placed_verdict}
use Rattle.lt_load_fit.proofs.Misplaced.{not_placed}
use Rattle.lt_load_fit.proofs.fits.place_setup.Goals as goal

pub returns-in-Err : goal.returns-in-Err
returns-in-Err c =
    let k : CheckedText = record { tree = c.checked.inside.tree; program = c.checked.inside.program; flat = c.checked.inside.flat } in
    let kept : IsChecked k = subst IsChecked (sym c.checked.view_is) c.invariant_holds.ensures in
    subst (λ (x : CheckedText). Refuses (placed_verdict (examined_part x) c.args.setup) c.as_place.result) c.checked.view_is
    (not_placed k c.args.setup kept.flat c.main_of.result.now c.main_of.ensures c.in-Err.fault c.as_place.result c.as_place.ensures c.in-Err.ensures.first c.in-Err.ensures.refused)
