use Rattle.std.proofs.Common.{[]}
use Rattle.lt_front.specs.Checked.{examined_part}
use Rattle.lt_compile.specs.Sites.{site_verdict}
use Rattle.lt_load.specs.Blamed.{command_blame}
use Rattle.lt_load.specs.Loaded.{config_verdict}
use Rattle.lt_load.proofs.Contents.{fitting_content}
use Rattle.lt_load.proofs.Steps.{refused_step, last_step}
use Rattle.lt_emit.specs.Loading.{setup_site_verdict}
use Rattle.lt_emit.proofs.Coded.{coded_of}
use Rattle.lt_emit.proofs.loading.load_setup_site.Goals as goal

pub returns-in_err-setup-clause-answered : goal.returns-in_err-setup-clause-answered
unfolding setup_site_verdict
returns-in_err-setup-clause-answered g c =
    refused_step command_blame (config_verdict ((g.F.Files.state c.args.files.now).named c.args.config.now)) (λ names setup. site_verdict (examined_part c.args.checked) setup) _ _ [] _ _
    c.from_residual.ensures.1 c.in_err-setup.ensures

pub returns-clause-answered : goal.returns-clause-answered
unfolding setup_site_verdict
returns-clause-answered g c =
    last_step command_blame (config_verdict ((g.F.Files.state c.args.files.now).named c.args.config.now)) (λ names setup. site_verdict (examined_part c.args.checked) setup) _ _ c.in_ok-setup.setup _
    c.in_ok-setup.ensures (λ e right. fitting_content (examined_part c.args.checked) c.in_ok-setup.setup e right) c.place_program.ensures.answered

pub returns-clause-coded : goal.returns-clause-coded
returns-clause-coded g c = coded_of c.args.checked c.invariant_holds.ensures c.place_program.result c.place_program.ensures.sited
