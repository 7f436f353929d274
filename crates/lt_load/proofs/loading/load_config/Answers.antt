use Rattle.std.proofs.Common.{◌≡◌, ℕ, List, [], Result, Ok, Err, refl, subst}
use Rattle.lt_base.specs.declared.memory.Or.{Or}
use Rattle.lt_base.specs.declared.memory.Or.TheVariants.{Fault, Memory}
use Rattle.lt_answer.specs.Answered.{Verdict, Settles}
use Rattle.lt_answer.specs.Rules.{Raised}
use Rattle.lt_config.specs.declared.config.Config.{Config}
use Rattle.lt_config.specs.declared.fault.ConfigFault.{ConfigFault}
use Rattle.lt_config.specs.Reading.{ReadsSetup, config_of}
use Rattle.lt_load_fit.specs.declared.fault.What.TheVariants.{ConfigBytes}
use Rattle.lt_load_fit.specs.declared.fault.CommandFault.{CommandFault}
use Rattle.lt_load_fit.specs.declared.fault.CommandFault.TheVariants as fault
use Rattle.lt_load.specs.Blamed.{command_blame}
use Rattle.lt_load.specs.Loaded.{whole_verdict, setup_verdict, config_verdict}
use Rattle.lt_load.proofs.Steps.{IsContent, content_raised, raised_answer, refused_step, last_step}
use Rattle.lt_load.proofs.loading.load_config.Goals as goal

abbrev read_verdict : List ℕ → Verdict Config CommandFault
read_verdict bytes = Raised (λ e. fault.Config e) (setup_verdict bytes)

read_content : (bytes : List ℕ) → IsContent command_blame (read_verdict bytes)
read_content bytes = content_raised command_blame (λ e. fault.Config e) (setup_verdict bytes) (λ e. refl)

-- what is right of equal bytes
read_at : (xs ys : List ℕ) → xs ≡ ys → (r : Result Config (Or CommandFault)) → Settles (read_verdict xs) r → Settles (read_verdict ys) r
read_at xs ys is r right = subst (λ (bytes : List ℕ). Settles (read_verdict bytes) r) is right

-- what the reading answered
found : (bytes : List ℕ) (r : Result Config (Or ConfigFault)) → ReadsSetup (config_of bytes) r → Settles (setup_verdict bytes) r
found bytes (Ok config) reads = reads
found bytes (Err (Fault e)) reads = reads
found bytes (Err Memory) reads = tt

pub returns-in_err-bytes : goal.returns-in_err-bytes
unfolding config_verdict
returns-in_err-bytes g c =
    refused_step command_blame (whole_verdict ConfigBytes ((g.F.Files.state c.args.files.now).named c.args.name.now)) (λ names bytes. read_verdict bytes) _ _ [] _ _
    c.from_residual.ensures.1 c.in_err-bytes.ensures.answered

pub returns : goal.returns
unfolding config_verdict
returns g c =
    let bytes = c.deref.result.now in
    last_step command_blame (whole_verdict ConfigBytes ((g.F.Files.state c.args.files.now).named c.args.name.now)) (λ names bytes. read_verdict bytes) _ _ c.in_ok-bytes.bytes c.raise_fault.result
    c.in_ok-bytes.ensures.answered (read_content c.in_ok-bytes.bytes)
    (read_at bytes _ c.deref.ensures c.raise_fault.result (raised_answer (λ e. fault.Config e) (setup_verdict bytes) c.read_config.result c.raise_fault.result (found bytes c.read_config.result c.read_config.ensures) c.raise_fault.ensures))
