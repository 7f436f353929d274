use Rattle.std.proofs.Common.{List, [], ℕ, Result, Ok, Err, refl}
use Rattle.lt_base.specs.declared.memory.Or.{Or}
use Rattle.lt_io.specs.FilesState.{FilesState}
use Rattle.lt_config.specs.declared.config.Config.{Config}
use Rattle.lt_answer.specs.World.{alone}
use Rattle.lt_answer.specs.Answered.{Answered, Verdict, AndThen}
use Rattle.lt_answer.specs.Rules.{Exactly}
use Rattle.lt_front.specs.Checked.{examined_part}
use Rattle.lt_front.specs.Examined.{ExaminedText}
use Rattle.lt_load_fit.specs.declared.fault.CommandFault.{CommandFault}
use Rattle.lt_load.specs.Blamed.{command_blame}
use Rattle.lt_load.specs.Errands.{config_errand}
use Rattle.lt_load.specs.Loaded.{program_verdict}
use Rattle.lt_load.specs.Setups.{fitted_verdict, with_setup_verdict}
use Rattle.lt_load.specs.Found.{fitted}
use Rattle.lt_load.proofs.Flats.{flat_value, flat_fault}
use Rattle.lt_load.proofs.Steps.{Names, counts_on, refused_step, next_step, last_step}
use Rattle.lt_load.proofs.setups.check_with.Goals as goal

-- what is left of a check once the program is read
abbrev rest : List ℕ → Names → ExaminedText → Verdict ExaminedText CommandFault
rest config names checked = AndThen (fitted_verdict names config checked) (λ fitting. Exactly (Ok checked))

module _ (config : List ℕ) (a b : FilesState) (k : ExaminedText) where
  -- the program, by what was found of its setup
  is_fitted : (setup : Result Config (Or CommandFault)) → Answered command_blame (config_errand config) (fitted_verdict a.named config k) (alone a) (alone b) setup
      → Answered command_blame (config_errand config) (rest config a.named k) (alone a) (alone b) (fitted k setup)
  is_fitted (Ok setup) found = last_step command_blame (fitted_verdict a.named config k) (λ names fitting. Exactly (Ok k)) a b setup (Ok k) found (λ e wrong. cc) refl
  is_fitted (Err e) found = refused_step command_blame (fitted_verdict a.named config k) (λ names fitting. Exactly (Ok k)) a b [] e (Err e) refl found

pub returns-in_err-checked : goal.returns-in_err-checked
unfolding with_setup_verdict
returns-in_err-checked g c =
    refused_step command_blame (program_verdict ((g.F.Files.state c.args.files.now).named c.args.program.now)) (rest c.args.config.now) _ _ (config_errand c.args.config.now) _ _ c.from_residual.ensures.1
    (flat_fault _ _ _ _ c.in_err-checked.ensures)

pub check_setup-setup-requires : goal.check_setup-setup-requires
check_setup-setup-requires g c = counts_on _ _ c.in_ok-checked.ensures.cause.files c.requires

pub returns : goal.returns
unfolding with_setup_verdict
returns g c =
    let k = examined_part c.in_ok-checked.checked in
    next_step command_blame (program_verdict ((g.F.Files.state c.args.files.now).named c.args.program.now)) (rest c.args.config.now) _ _ k _ (flat_value _ _ _ _ c.in_ok-checked.ensures) _
    (rw c.fit_program.ensures (is_fitted c.args.config.now _ _ k c.check_setup-setup.result c.check_setup-setup.ensures))
