use Rattle.lt_front.specs.Checked.{examined_part}
use Rattle.lt_load.specs.Blamed.{command_blame}
use Rattle.lt_load.specs.Errands.{config_errand}
use Rattle.lt_load.specs.Loaded.{program_verdict}
use Rattle.lt_load.proofs.Flats.{flat_value, flat_fault}
use Rattle.lt_load.proofs.Steps.{counts_on, refused_step, next_step}
use Rattle.lt_emit.specs.Loading.{setup_site_verdict, load_site_verdict}
use Rattle.lt_emit.proofs.loading.load_site.Goals as goal

pub returns-in_err-checked-clause-answered : goal.returns-in_err-checked-clause-answered
unfolding load_site_verdict
returns-in_err-checked-clause-answered g c =
    refused_step command_blame (program_verdict ((g.F.Files.state c.args.files.now).named c.args.program.now)) (λ names checked. setup_site_verdict names c.args.config.now checked) _ _ (config_errand c.args.config.now) _ _
    c.from_residual.ensures.1 (flat_fault _ _ _ _ c.in_err-checked.ensures)

pub load_setup_site-requires : goal.load_setup_site-requires
load_setup_site-requires g c = counts_on _ _ c.in_ok-checked.ensures.cause.files c.requires

pub returns-clause-answered : goal.returns-clause-answered
unfolding load_site_verdict
returns-clause-answered g c =
    next_step command_blame (program_verdict ((g.F.Files.state c.args.files.now).named c.args.program.now)) (λ names checked. setup_site_verdict names c.args.config.now checked) _ _ (examined_part c.in_ok-checked.checked) _
    (flat_value _ _ _ _ c.in_ok-checked.ensures) _ c.load_setup_site.ensures.answered
