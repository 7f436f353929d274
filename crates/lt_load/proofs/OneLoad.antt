-- Loading leaves one refusal, up to its kind.
use Rattle.std.proofs.Common.{◌≡◌, ◌∙◌, ℕ, List, Option, Ok, Err, sym, ap}
use Rattle.lt_config.specs.declared.config.Config.{Config}
use Rattle.lt_config.specs.declared.fault.ConfigFault.{ConfigFault}
use Rattle.lt_front.specs.declared.fault.ProgramFault.{ProgramFault}
use Rattle.lt_front.specs.Limits.{is_limit}
use Rattle.lt_front.specs.Front.{examine_verdict}
use Rattle.lt_front.proofs.OneFault.{front_decided}
use Rattle.lt_answer.proofs.Decided.{HasOneKind, HasOneOutcome, of_form, of_file, and_then, raised, and_then_one, raised_one, coarser}
use Rattle.lt_load_fit.specs.declared.fault.What.{What}
use Rattle.lt_load_fit.specs.declared.fault.What.TheVariants.{ProgramBytes, ConfigBytes}
use Rattle.lt_load_fit.specs.declared.fault.CommandFault.{CommandFault}
use Rattle.lt_load_fit.specs.declared.fault.CommandFault.TheVariants as fault
use Rattle.lt_load.specs.Loaded.{BytesAreWithin, limit_of, whole_verdict, setup_verdict, program_verdict, config_verdict}

pub whole_decided : {K : Type 0} (kind : CommandFault → K) (what : What) (file : Option (List ℕ)) → HasOneOutcome kind (whole_verdict what file)
unfolding whole_verdict
whole_decided kind what file = of_file kind fault.Read file _ (λ bytes. of_form kind (BytesAreWithin (limit_of what) bytes) (fault.Limit what) (λ x y p q. p.same ∙ sym q.same))

-- a kind that tells a limit that is passed from other faults of a program
abbrev pub TellsLimits : {K : Type 0} → (CommandFault → K) → Type 0
TellsLimits kind = (e f : ProgramFault) → is_limit e ≡ is_limit f → kind (fault.Program e) ≡ kind (fault.Program f)

pub program_decided : {K : Type 0} (kind : CommandFault → K) → TellsLimits kind → (file : Option (List ℕ)) → HasOneOutcome kind (program_verdict file)
unfolding program_verdict
program_decided kind along file =
    and_then_one kind (whole_verdict ProgramBytes file) _ (whole_decided kind ProgramBytes file)
    (λ bytes. raised_one (λ e. fault.Program e) kind (examine_verdict bytes) (coarser is_limit (λ e. kind (fault.Program e)) (examine_verdict bytes) along (front_decided bytes)))

one_setup_fault : (bytes : List ℕ) (e f : ConfigFault) → setup_verdict bytes (Err e) → setup_verdict bytes (Err f) → e ≡ f
one_setup_fault bytes e f p q = let same = sym p ∙ q in cc

no_setup_and_fault : (bytes : List ℕ) (e : ConfigFault) (config : Config) → setup_verdict bytes (Err e) → setup_verdict bytes (Ok config) → ⊥
no_setup_and_fault bytes e config p q = let same = sym p ∙ q in cc

pub setup_decided : {K : Type 0} (kind : ConfigFault → K) (bytes : List ℕ) → HasOneKind kind (setup_verdict bytes)
setup_decided kind bytes = record { one_kind = λ e f p q. ap kind (one_setup_fault bytes e f p q); not_both = no_setup_and_fault bytes }

pub config_decided : {K : Type 0} (kind : CommandFault → K) (file : Option (List ℕ)) → HasOneKind kind (config_verdict file)
unfolding config_verdict
config_decided kind file =
    and_then kind (whole_verdict ConfigBytes file) _ (whole_decided kind ConfigBytes file) (λ bytes. raised (λ e. fault.Config e) kind (setup_verdict bytes) (setup_decided (λ e. kind (fault.Config e)) bytes))
