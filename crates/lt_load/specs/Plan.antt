-- What a run is of: a program, a setup that fits it and rows of inputs; and what it is loaded as.
use Rattle.std.specs.Prelude.{◌≡◌, ◌≤◌, ℕ, List, length, Option, Some, None, Ok, Err}
use Rattle.std.proofs.Common.{refl}
use Rattle.std.specs.Coded.{Coded, code_by, coded×, coded_ℕ, coded_list}
use Rattle.lt_base.specs.declared.value.Value.{Value}
use Rattle.lt_base.specs.contracts.value.Value.{the_row as value_row}
use Rattle.lt_base.specs.Inputs.{InputTable}
use Rattle.lt_base.specs.Behaviour.{RowsFit}
use Rattle.lt_arch.specs.declared.shape.Shape.{Shape}
use Rattle.lt_arch.specs.contracts.shape.Shape.{the_row as shape_row}
use Rattle.lt_arch.specs.declared.timing.Timing.{Timing}
use Rattle.lt_arch.specs.contracts.timing.Timing.{the_row as timing_row}
use Rattle.lt_timing.specs.Accepts.{Accepts}
use Rattle.lt_step.specs.Run.{HasRowValues}
use Rattle.lt_place.specs.declared.layout.Layout.{Layout}
use Rattle.lt_place.specs.contracts.layout.Layout.{the_row as layout_row}
use Rattle.lt_place.specs.Layout.{IsLayoutOf, IsPlaced}
use Rattle.lt_place.specs.Sizes.{HasCodeRoom}
use Rattle.lt_lead.specs.Paced.{IsShapeBy, KeepsPace}
use Rattle.lt_base.specs.Main.{InputsFitMain}
use Rattle.lt_front.specs.Checked.{CheckedText, coded_checked, examined_part}
use Rattle.lt_front.specs.Examined.{ExaminedText}
use Rattle.lt_front.specs.Flattened.{flat_of}
use Rattle.lt_config.specs.declared.config.Config.{Config}
use Rattle.lt_arch.specs.declared.pace.Pace.{Pace}
use Rattle.lt_arch.specs.contracts.pace.Pace.{the_row as pace_row}
use Rattle.lt_config.specs.Reading.{plain_setup, setup_in}
use Rattle.lt_answer.specs.Answered.{Verdict, AndThen}
use Rattle.lt_answer.specs.Rules.{Exactly}
use Rattle.lt_load_fit.specs.declared.fault.CommandFault.{CommandFault}
use Rattle.lt_load_fit.specs.Fits.{HasWindowBy, fitting_verdict}
use Rattle.lt_load.specs.Loaded.{program_verdict, config_verdict, inputs_verdict}

-- the program, the setup and the rows of inputs
pub record Plan : Type 0 where
  pub checked : ExaminedText
  pub setup : Config
  pub inputs : InputTable

-- the program with its flat form, that form on the nodes, the channels between them, the bounds of time, the rows of inputs and the pace of the
-- protocol
pub record LoadedPlan : Type 0 where
  pub checked : CheckedText
  pub layout : Layout
  pub shape : Shape
  pub timing : Timing
  pub inputs : InputTable
  pub pace : Pace

abbrev coded_inputs : Coded InputTable
coded_inputs =
    code_by (ℕ × List (List Value)) (coded× coded_ℕ (coded_list (coded_list value_row.coded))) (λ t. (t.width, t.rows)) (λ p. record { width = p.0; rows = p.1 }) (λ _. refl)

abbrev pub coded_loaded : Coded LoadedPlan
coded_loaded =
    code_by (CheckedText × (Layout × (Shape × (Timing × (InputTable × Pace))))) (coded× coded_checked (coded× layout_row.coded (coded× shape_row.coded (coded× timing_row.coded (coded× coded_inputs pace_row.coded)))))
    (λ k. (k.checked, (k.layout, (k.shape, (k.timing, (k.inputs, k.pace))))))
    (λ p. record { checked = p.0; layout = p.1.0; shape = p.1.1.0; timing = p.1.1.1.0; inputs = p.1.1.1.1.0; pace = p.1.1.1.1.1 }) (λ _. refl)

-- what it keeps
pub record IsLoaded (k : LoadedPlan) : Type 0 where
  pub placed : IsPlaced k.checked.flat k.layout
  pub paced : KeepsPace k.layout k.shape k.timing k.pace
  pub accepted : Accepts k.timing
  pub windowed : HasWindowBy k.pace k.timing
  pub timed : length k.timing.nodes ≡ length k.layout.names
  pub few : length k.layout.names ≤ 32
  -- the inputs are those of `main`, and so of its flat form
  pub fit : InputsFitMain k.checked.program k.inputs
  pub rows_fit : RowsFit k.checked.flat.func k.inputs.rows
  pub width : k.inputs.width ≡ k.checked.flat.func.n_in
  pub wide : HasRowValues k.checked.flat.func.n_in k.inputs.rows
  -- step code has room for the flat form
  pub room : HasCodeRoom k.checked.flat.func

-- it is what a plan is loaded as
pub record IsLoadedFrom (p : Plan) (k : LoadedPlan) : Type 0 where
  pub checked : examined_part k.checked ≡ p.checked
  pub layout : IsLayoutOf (flat_of p.checked.program) p.setup.placement k.layout
  pub timing : k.timing ≡ p.setup.timing
  pub pace : k.pace ≡ p.setup.pace
  pub shape : IsShapeBy k.layout k.pace k.timing k.shape
  pub inputs : k.inputs ≡ p.inputs

-- some right plan is loaded, or the refusal is right
abbrev pub Loads : Verdict Plan CommandFault → Verdict LoadedPlan CommandFault
Loads V (Ok k) = (p : Plan) × V (Ok p) × IsLoadedFrom p k
Loads V (Err e) = V (Err e)

-- the setup of a run without one: no refusal, and the only setup that says so
abbrev pub plain_verdict : Verdict Config CommandFault
plain_verdict (Ok setup) = setup_in setup ≡ plain_setup
plain_verdict (Err e) = ⊥

-- the setup of a file, or the plain one
abbrev pub chosen_setup_verdict : (named : List ℕ → Option (List ℕ)) (config : Option (List ℕ)) → Verdict Config CommandFault
chosen_setup_verdict named None = plain_verdict
chosen_setup_verdict named (Some config) = config_verdict (named config)

-- a program with its setup: the rows of inputs
unfoldable pub inputs_plan_verdict : (named : List ℕ → Option (List ℕ)) (inputs : List ℕ) → ExaminedText → Config → Verdict Plan CommandFault
inputs_plan_verdict named inputs checked setup =
    AndThen (inputs_verdict checked.program (named inputs)) (λ table. Exactly (Ok (record { checked = checked; setup = setup; inputs = table })))

-- a program with a setup: the placement and the timing, and then the rows of inputs
unfoldable pub fitting_plan_verdict : (named : List ℕ → Option (List ℕ)) (inputs : List ℕ) → ExaminedText → Config → Verdict Plan CommandFault
fitting_plan_verdict named inputs checked setup = AndThen (fitting_verdict checked setup) (λ fitting. inputs_plan_verdict named inputs checked fitting)

-- a program: its setup, the placement and the timing, and the rows of inputs
unfoldable pub setup_plan_verdict : (named : List ℕ → Option (List ℕ)) (inputs : List ℕ) (config : Option (List ℕ)) → ExaminedText → Verdict Plan CommandFault
setup_plan_verdict named inputs config checked = AndThen (chosen_setup_verdict named config) (λ setup. fitting_plan_verdict named inputs checked setup)

-- the program, the setup, the placement, the timing and the inputs, in this order
unfoldable pub load_verdict : (named : List ℕ → Option (List ℕ)) (program inputs : List ℕ) (config : Option (List ℕ)) → Verdict Plan CommandFault
load_verdict named program inputs config = AndThen (program_verdict (named program)) (λ checked. setup_plan_verdict named inputs config checked)
