use Rattle.lt_load.proofs.Planned.{no_site, at_site}
use Rattle.lt_load.proofs.planning.load_fitting.Goals as goal

pub returns-in_err-site : goal.returns-in_err-site
returns-in_err-site g c =
    no_site (g.F.Files.state c.args.files.now).named c.args.inputs.now c.args.checked c.args.setup _ _ _ c.from_residual.ensures.1 c.in_err-site.ensures.answered

pub returns : goal.returns
returns g c =
    at_site (g.F.Files.state c.args.files.now).named c.args.inputs.now c.args.checked c.args.setup _ _ c.in_ok-site.site _ c.in_ok-site.ensures.answered c.load_rows.ensures
