-- A program where it runs, with rows of inputs.
use Rattle.std.specs.Prelude.{ℕ, List, Option, Ok}
use Rattle.lt_base.specs.Inputs.{InputTable}
use Rattle.lt_front.specs.Checked.{CheckedText}
use Rattle.lt_answer.specs.Answered.{Verdict, AndThen}
use Rattle.lt_answer.specs.Rules.{Exactly}
use Rattle.lt_load_fit.specs.declared.fault.CommandFault.{CommandFault}
use Rattle.lt_compile.specs.declared.site.Site.{Site}
use Rattle.lt_load.specs.Loaded.{inputs_verdict}
use Rattle.lt_load.specs.Plan.{LoadedPlan}

-- a program at its site with rows of inputs
abbrev pub loaded_of : CheckedText → Site → InputTable → LoadedPlan
loaded_of checked s table = record { checked = checked; layout = s.layout; shape = s.shape; timing = s.timing; inputs = table; pace = s.pace }

-- a program at its site: the rows of inputs
unfoldable pub sited_verdict : (named : List ℕ → Option (List ℕ)) (inputs : List ℕ) → CheckedText → Site → Verdict LoadedPlan CommandFault
sited_verdict named inputs checked s = AndThen (inputs_verdict checked.program (named inputs)) (λ table. Exactly (Ok (loaded_of checked s table)))
