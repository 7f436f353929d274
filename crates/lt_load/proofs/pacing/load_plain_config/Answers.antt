use Rattle.std.proofs.Common.{[], ap}
use Rattle.lt_config.specs.declared.config.Config.{Config}
use Rattle.lt_load.specs.Blamed.{command_blame}
use Rattle.lt_load.specs.Loaded.{config_verdict}
use Rattle.lt_load.specs.Pacing.{unpaced_verdict, plain_config_verdict}
use Rattle.lt_load.proofs.Steps.{IsContent, refused_step, last_step}
use Rattle.lt_load.proofs.pacing.load_plain_config.Goals as goal

unpaced_content : (setup : Config) → IsContent command_blame (unpaced_verdict setup)
unfolding unpaced_verdict
unpaced_content setup e right = ap command_blame right.1

pub returns-in_err-setup : goal.returns-in_err-setup
unfolding plain_config_verdict
returns-in_err-setup g c =
    refused_step command_blame (config_verdict ((g.F.Files.state c.args.files.now).named c.args.name.now)) (λ names setup. unpaced_verdict setup) _ _ [] _ _ c.from_residual.ensures.1 c.in_err-setup.ensures

pub returns : goal.returns
unfolding plain_config_verdict
returns g c =
    last_step command_blame (config_verdict ((g.F.Files.state c.args.files.now).named c.args.name.now)) (λ names setup. unpaced_verdict setup) _ _ c.in_ok-setup.setup _
    c.in_ok-setup.ensures (unpaced_content c.in_ok-setup.setup) c.refuse_unpaced.ensures
