use Rattle.lt_front.specs.Checked.{examined_part}
use Rattle.lt_load_fit.proofs.Settled.{memory_settled}
use Rattle.lt_compile.specs.Sites.{site_verdict}
use Rattle.lt_compile.proofs.Sited.{not_placed, not_timed, names_are, found, sited}
use Rattle.lt_compile.proofs.compile.place_program.Goals as goal

pub returns-in_err-layout-clause-answered : goal.returns-in_err-layout-clause-answered
returns-in_err-layout-clause-answered c = not_placed (examined_part c.args.checked.now) c.args.setup _ _ c.from_residual.ensures.1 c.in_err-layout.ensures.answered

pub returns-in_err-timed-clause-answered : goal.returns-in_err-timed-clause-answered
returns-in_err-timed-clause-answered c =
    not_timed (examined_part c.args.checked.now) c.args.setup c.in_ok-layout.layout c.in_ok-layout.ensures.answered _ _ c.from_residual-in_err-timed.ensures.1 c.in_err-timed.ensures

pub site_of-requires-clause-placed : goal.site_of-requires-clause-placed
site_of-requires-clause-placed c = (c.args.checked.now.flat, c.in_ok-layout.ensures.placed)

pub site_of-requires-clause-names : goal.site_of-requires-clause-names
site_of-requires-clause-names c = names_are (examined_part c.args.checked.now) c.args.setup c.in_ok-layout.layout c.in_ok-layout.ensures.answered c.in_ok-timed.timed c.in_ok-timed.ensures

pub returns-in_err-site_of-clause-answered : goal.returns-in_err-site_of-clause-answered
returns-in_err-site_of-clause-answered c = memory_settled (site_verdict (examined_part c.args.checked.now) c.args.setup) _ c.from_residual-in_err-site_of.ensures.1

pub returns-clause-answered : goal.returns-clause-answered
returns-clause-answered c =
    found (examined_part c.args.checked.now) c.args.setup c.in_ok-layout.layout c.in_ok-layout.ensures.answered c.in_ok-timed.timed c.in_ok-timed.ensures c.in_ok-site_of.field-0 c.in_ok-site_of.ensures

pub returns-clause-sited : goal.returns-clause-sited
returns-clause-sited c =
    sited (examined_part c.args.checked.now) c.args.setup c.in_ok-layout.layout c.in_ok-layout.ensures.answered c.in_ok-timed.timed c.in_ok-timed.ensures c.in_ok-site_of.field-0 c.in_ok-site_of.ensures
    c.args.checked.now.flat c.in_ok-layout.ensures.placed
