-- Where all files are there, what is right of them blames what was read.
use Rattle.std.proofs.Common.{◌≡◌, ◌∙◌, ℕ, List, Option, Some, Ok, refl, sym, ap, subst}
use Rattle.std.specs.Prelude.{codes}
use Rattle.lt_base.specs.Program.{WholeProgram}
use Rattle.lt_answer.specs.Rules.{Exactly, Raised}
use Rattle.lt_front.specs.Examined.{ExaminedText}
use Rattle.lt_front.specs.Front.{examine_verdict}
use Rattle.lt_inputs.specs.Inputs.{inputs_of}
use Rattle.lt_config.specs.declared.config.Config.{Config}
use Rattle.lt_load_fit.specs.declared.fault.What.{What}
use Rattle.lt_load_fit.specs.declared.fault.What.TheVariants.{ProgramBytes, ConfigBytes, InputsBytes}
use Rattle.lt_load_fit.specs.declared.fault.CommandFault.TheVariants as fault
use Rattle.lt_load_fit.specs.Main.{main_in}
use Rattle.lt_load_fit.specs.Fits.{fitting_verdict}
use Rattle.lt_load.specs.Blamed.{command_blame}
use Rattle.lt_load.specs.Loaded.{setup_verdict, whole_verdict, program_verdict, config_verdict, inputs_verdict}
use Rattle.lt_load.specs.Plan.{Loads, fitting_plan_verdict, inputs_plan_verdict}
use Rattle.lt_load.specs.Pacing.{unpaced_verdict, plain_config_verdict, plain_setup_plan_verdict, plain_load_verdict}
use Rattle.lt_load.proofs.Contents.{fitting_content}
use Rattle.lt_load.proofs.Steps.{IsContent, content_then, content_raised}
use Rattle.lt_big.specs.Big.{named_of, big_loaded_verdict}
use Rattle.lt_big_texts.specs.Texts.{program_text, setup_text, inputs_text}

-- one file

there_content : (what : What) (bytes : List ℕ) → IsContent command_blame (whole_verdict what (Some bytes))
unfolding whole_verdict
there_content what bytes e right = ap command_blame right.0

whole_content : (what : What) (file : Option (List ℕ)) (bytes : List ℕ) → file ≡ Some bytes → IsContent command_blame (whole_verdict what file)
whole_content what file bytes is = subst (λ (f : Option (List ℕ)). IsContent command_blame (whole_verdict what f)) (sym is) (there_content what bytes)

program_content : (file : Option (List ℕ)) (bytes : List ℕ) → file ≡ Some bytes → IsContent command_blame (program_verdict file)
unfolding program_verdict
program_content file bytes is =
    content_then command_blame (whole_verdict ProgramBytes file) (λ text. Raised (λ e. fault.Program e) (examine_verdict text)) (whole_content ProgramBytes file bytes is)
    (λ text. content_raised command_blame (λ e. fault.Program e) (examine_verdict text) (λ e. refl))

config_content : (file : Option (List ℕ)) (bytes : List ℕ) → file ≡ Some bytes → IsContent command_blame (config_verdict file)
unfolding config_verdict
config_content file bytes is =
    content_then command_blame (whole_verdict ConfigBytes file) (λ text. Raised (λ e. fault.Config e) (setup_verdict text)) (whole_content ConfigBytes file bytes is)
    (λ text. content_raised command_blame (λ e. fault.Config e) (setup_verdict text) (λ e. refl))

inputs_content : (p : WholeProgram) (file : Option (List ℕ)) (bytes : List ℕ) → file ≡ Some bytes → IsContent command_blame (inputs_verdict p file)
unfolding inputs_verdict
inputs_content p file bytes is =
    content_then command_blame (whole_verdict InputsBytes file) (λ text. Raised (λ e. fault.Inputs e) (Exactly (inputs_of (main_in p) text))) (whole_content InputsBytes file bytes is)
    (λ text. content_raised command_blame (λ e. fault.Inputs e) (Exactly (inputs_of (main_in p) text)) (λ e. refl))

-- a setup in which no node leads

unpaced_content : (setup : Config) → IsContent command_blame (unpaced_verdict setup)
unfolding unpaced_verdict
unpaced_content setup e right = ap command_blame right.1

plain_config_content : (file : Option (List ℕ)) (bytes : List ℕ) → file ≡ Some bytes → IsContent command_blame (plain_config_verdict file)
unfolding plain_config_verdict
plain_config_content file bytes is = content_then command_blame (config_verdict file) (λ setup. unpaced_verdict setup) (config_content file bytes is) (λ setup. unpaced_content setup)

-- the three files

module _ (named : List ℕ → Option (List ℕ)) (inputs text : List ℕ) (is : named inputs ≡ Some text) where
  inputs_plan_content : (checked : ExaminedText) (setup : Config) → IsContent command_blame (inputs_plan_verdict named inputs checked setup)
  unfolding inputs_plan_verdict
  inputs_plan_content checked setup =
      content_then command_blame (inputs_verdict checked.program (named inputs)) (λ table. Exactly (Ok (record { checked = checked; setup = setup; inputs = table }))) (inputs_content checked.program (named inputs) text is) (λ table e wrong. absurd (cc))

  fitting_plan_content : (checked : ExaminedText) (setup : Config) → IsContent command_blame (fitting_plan_verdict named inputs checked setup)
  unfolding fitting_plan_verdict
  fitting_plan_content checked setup = content_then command_blame (fitting_verdict checked setup) (λ fitting. inputs_plan_verdict named inputs checked fitting) (fitting_content checked setup) (λ fitting. inputs_plan_content checked fitting)

  module _ (config bytes : List ℕ) (here : named config ≡ Some bytes) where
    setup_plan_content : (checked : ExaminedText) → IsContent command_blame (plain_setup_plan_verdict named inputs config checked)
    unfolding plain_setup_plan_verdict
    setup_plan_content checked =
        content_then command_blame (plain_config_verdict (named config)) (λ setup. fitting_plan_verdict named inputs checked setup) (plain_config_content (named config) bytes here) (λ setup. fitting_plan_content checked setup)

    plain_load_content : (program source : List ℕ) → named program ≡ Some source → IsContent command_blame (plain_load_verdict named program inputs config)
    unfolding plain_load_verdict
    plain_load_content program source there =
        content_then command_blame (program_verdict (named program)) (λ checked. plain_setup_plan_verdict named inputs config checked) (program_content (named program) source there) (λ checked. setup_plan_content checked)

pub loaded_content : (instants : ℕ) → IsContent command_blame (Loads (big_loaded_verdict instants))
unfolding big_loaded_verdict
loaded_content instants e right =
    plain_load_content (named_of instants) (codes "inputs") (inputs_text instants) refl (codes "setup") setup_text refl (codes "program") program_text refl e right
