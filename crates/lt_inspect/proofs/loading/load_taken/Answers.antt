use Rattle.std.proofs.Common.{[], ap}
use Rattle.lt_config.specs.declared.config.Config.{Config}
use Rattle.lt_answer.proofs.Stages.{errands_all, widened}
use Rattle.lt_answer.specs.Answered.{AndThen}
use Rattle.lt_load.specs.Blamed.{command_blame}
use Rattle.lt_load_fit.specs.Fits.{windowed_verdict}
use Rattle.lt_load.proofs.OneCheck.{window_fault}
use Rattle.lt_load.proofs.Steps.{IsContent, refused_step, last_step}
use Rattle.lt_inspect.specs.Stages.{paced_config_verdict, taken_config_verdict}
use Rattle.lt_inspect.proofs.Plain.{windowed_too}
use Rattle.lt_inspect.proofs.loading.load_taken.Goals as goal

windowed_content : (setup : Config) → IsContent command_blame (windowed_verdict setup)
unfolding windowed_verdict
windowed_content setup e right = ap command_blame (window_fault setup e right.1).2

pub returns-in_err-setup-clause-reads : goal.returns-in_err-setup-clause-reads
returns-in_err-setup-clause-reads g c =
    let file = (g.F.Files.state c.args.files.now).named c.args.name.now in
    widened (AndThen (paced_config_verdict c.args.setups file) (λ setup. windowed_verdict setup)) (taken_config_verdict c.args.setups file) _ _ _ (windowed_too c.args.setups file)
    (errands_all _ _ _ (refused_step command_blame (paced_config_verdict c.args.setups file) (λ names setup. windowed_verdict setup) _ _ [] _ _ c.from_residual.ensures.1 c.in_err-setup.ensures))

pub returns-clause-reads : goal.returns-clause-reads
returns-clause-reads g c =
    let file = (g.F.Files.state c.args.files.now).named c.args.name.now in
    widened (AndThen (paced_config_verdict c.args.setups file) (λ setup. windowed_verdict setup)) (taken_config_verdict c.args.setups file) _ _ _ (windowed_too c.args.setups file)
    (last_step command_blame (paced_config_verdict c.args.setups file) (λ names setup. windowed_verdict setup) _ _ c.in_ok-setup.setup _
    c.in_ok-setup.ensures (windowed_content c.in_ok-setup.setup) c.accept_window.ensures.settles)
