-- What the steps of a command answer over its files: which they visit, what is right of the outcome, and whose fault a refusal is.
use Rattle.std.specs.Prelude.{ℕ, List, Option, Some, ◌++◌, Result}
use Rattle.lt_base.specs.declared.memory.Or.{Or}
use Rattle.lt_io.specs.Visits.{Errand}
use Rattle.lt_io.specs.FilesState.{FilesState}
use Rattle.lt_config.specs.declared.config.Config.{Config}
use Rattle.lt_answer.specs.Alone.{AnsweredOnFiles}
use Rattle.lt_answer.specs.Answered.{Verdict}
use Rattle.lt_front.specs.Checked.{CheckedText}
use Rattle.lt_front.specs.Examined.{ExaminedText}
use Rattle.lt_compile.specs.declared.site.Site.{Site}
use Rattle.lt_load_fit.specs.declared.fault.CommandFault.{CommandFault}
use Rattle.lt_load.specs.Blamed.{command_blame}
use Rattle.lt_load.specs.Errands.{program_errand, config_errand, setup_errand, inputs_errand, load_errands}
use Rattle.lt_load.specs.Plan.{LoadedPlan, Loads, chosen_setup_verdict, fitting_plan_verdict, setup_plan_verdict, load_verdict}
use Rattle.lt_load.specs.Pacing.{plain_setup_plan_verdict, plain_load_verdict}
use Rattle.lt_load.specs.Setups.{fitted_verdict, with_setup_verdict}
use Rattle.lt_load.specs.Sites.{sited_verdict}

-- a step over files alone
abbrev pub OnFiles : {T : Type 0} → List Errand → Verdict T CommandFault → (old new : FilesState) → Result T (Or CommandFault) → Type 0
OnFiles errands V old new result = AnsweredOnFiles command_blame errands V old new result

-- a step that reads one file whole
abbrev pub ReadsFile : {T : Type 0} → (name : List ℕ) → (List ℕ → List Errand) → (Option (List ℕ) → Verdict T CommandFault) → (old new : FilesState) → Result T (Or CommandFault) → Type 0
ReadsFile name errand V old new result = OnFiles (errand name) (V (old.named name)) old new result

-- a program that the setup of a file fits
abbrev pub ChecksWith : (program config : List ℕ) (old new : FilesState) → Result ExaminedText (Or CommandFault) → Type 0
ChecksWith program config old new result = OnFiles (program_errand program ++ config_errand config) (with_setup_verdict old.named program config) old new result

-- the setup of a file, or the plain one
abbrev pub ChoosesSetup : Option (List ℕ) → (old new : FilesState) → Result Config (Or CommandFault) → Type 0
ChoosesSetup config old new result = OnFiles (setup_errand config) (chosen_setup_verdict old.named config) old new result

-- all that a run is of
abbrev pub LoadsRun : (program inputs : List ℕ) (config : Option (List ℕ)) (old new : FilesState) → Result LoadedPlan (Or CommandFault) → Type 0
LoadsRun program inputs config old new result = OnFiles (load_errands program inputs config) (Loads (load_verdict old.named program inputs config)) old new result

-- the same from the setup on
abbrev pub LoadsSetup : (inputs : List ℕ) (config : Option (List ℕ)) → ExaminedText → (old new : FilesState) → Result LoadedPlan (Or CommandFault) → Type 0
LoadsSetup inputs config checked old new result = OnFiles (setup_errand config ++ inputs_errand inputs) (Loads (setup_plan_verdict old.named inputs config checked)) old new result

-- and behind the setup
abbrev pub LoadsFitting : (inputs : List ℕ) → ExaminedText → Config → (old new : FilesState) → Result LoadedPlan (Or CommandFault) → Type 0
LoadsFitting inputs checked setup old new result = OnFiles (inputs_errand inputs) (Loads (fitting_plan_verdict old.named inputs checked setup)) old new result

-- all that a run is of, where no link loses messages and no node leads
abbrev pub LoadsPlain : (program inputs config : List ℕ) (old new : FilesState) → Result LoadedPlan (Or CommandFault) → Type 0
LoadsPlain program inputs config old new result = OnFiles (load_errands program inputs (Some config)) (Loads (plain_load_verdict old.named program inputs config)) old new result

-- the same from the setup on
abbrev pub LoadsPlainSetup : (inputs config : List ℕ) → ExaminedText → (old new : FilesState) → Result LoadedPlan (Or CommandFault) → Type 0
LoadsPlainSetup inputs config checked old new result = OnFiles (config_errand config ++ inputs_errand inputs) (Loads (plain_setup_plan_verdict old.named inputs config checked)) old new result

-- the setup of a file, if it fits a program
abbrev pub FitsSetup : (config : List ℕ) → ExaminedText → (old new : FilesState) → Result Config (Or CommandFault) → Type 0
FitsSetup config checked old new result = OnFiles (config_errand config) (fitted_verdict old.named config checked) old new result

-- a program at its site, with the rows of inputs of a file
abbrev pub LoadsRows : (inputs : List ℕ) → CheckedText → Site → (old new : FilesState) → Result LoadedPlan (Or CommandFault) → Type 0
LoadsRows inputs checked site old new result = OnFiles (inputs_errand inputs) (sited_verdict old.named inputs checked site) old new result
