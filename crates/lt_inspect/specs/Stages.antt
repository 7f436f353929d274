-- What a schedule is judged over by the pace of its setup's protocol: all checks of a run but the acceptance of the timing.
use Rattle.std.specs.Prelude.{◌≡◌, ℕ, List, length, Option, Some, None, Ok, Err, bytes_eq, position}
use Rattle.lt_place.specs.declared.fault.PlaceFault.TheVariants.{UnknownName}
use Rattle.lt_place.specs.declared.layout.Layout.{Layout}
use Rattle.lt_place.specs.Layout.{IsLayoutOf}
use Rattle.lt_lead.specs.Paced.{IsShapeBy}
use Rattle.lt_front.specs.Examined.{ExaminedText}
use Rattle.lt_front.specs.Flattened.{flat_of}
use Rattle.lt_config.specs.declared.config.Config.{Config}
use Rattle.lt_answer.specs.Answered.{Verdict, AndThen}
use Rattle.lt_load_fit.specs.declared.fault.CommandFault.{CommandFault}
use Rattle.lt_load_fit.specs.declared.fault.CommandFault.TheVariants as fault
use Rattle.lt_load_fit.specs.Main.{main_in}
use Rattle.lt_load_fit.specs.Fits.{windowed_verdict}
use Rattle.lt_load.specs.Loaded.{program_verdict, config_verdict}
use Rattle.lt_load.specs.Pacing.{plain_config_verdict}
use Rattle.lt_load.specs.Plan.{Plan}
use Rattle.lt_inspect.specs.declared.setups.Setups.{Setups}
use Rattle.lt_inspect.specs.declared.setups.Setups.TheVariants as setups
use Rattle.lt_inspect.specs.declared.stage.Ground.{Ground}
use Rattle.lt_inspect.specs.declared.stage.Stage.{Stage}
use Rattle.lt_inspect.specs.Scenes.{named_node, named_place_verdict, placed_plan_verdict}

-- the setup of a file, which has the window that its pace asks for
unfoldable pub windowed_config_verdict : Option (List ℕ) → Verdict Config CommandFault
windowed_config_verdict file = AndThen (config_verdict file) (λ setup. windowed_verdict setup)

-- the setup of a file, if it is one of those that are taken
unfoldable pub taken_config_verdict : Setups → Option (List ℕ) → Verdict Config CommandFault
taken_config_verdict setups.Plain file = plain_config_verdict file
taken_config_verdict setups.Windowed file = windowed_config_verdict file

-- the same before a window is asked for
unfoldable pub paced_config_verdict : Setups → Option (List ℕ) → Verdict Config CommandFault
paced_config_verdict setups.Plain file = plain_config_verdict file
paced_config_verdict setups.Windowed file = config_verdict file

-- a program: its setup, which is one of those that are taken, the placement, the node that is named, and the rows of inputs
unfoldable pub setup_stage_verdict : Setups → (named : List ℕ → Option (List ℕ)) (inputs config : List ℕ) (node : Option (List ℕ)) → ExaminedText → Verdict Plan CommandFault
setup_stage_verdict taken named inputs config node checked = AndThen (taken_config_verdict taken (named config)) (λ setup. placed_plan_verdict named inputs node checked setup)

-- the program, the setup, the placement, the node that is named, and the inputs, in this order
unfoldable pub stage_verdict : Setups → (named : List ℕ → Option (List ℕ)) (program inputs config : List ℕ) (node : Option (List ℕ)) → Verdict Plan CommandFault
stage_verdict taken named program inputs config node = AndThen (program_verdict (named program)) (λ checked. setup_stage_verdict taken named inputs config node checked)

-- the number of the node of this name among these, or that there is none
abbrev pub node_name_verdict : ExaminedText → (nodes : List (List ℕ)) → (name : List ℕ) → Verdict ℕ CommandFault
node_name_verdict checked nodes name (Ok n) = position (λ node. bytes_eq node name) nodes ≡ Some n
node_name_verdict checked nodes name (Err e) = (position (λ node. bytes_eq node name) nodes ≡ None) × (e ≡ fault.Place (UnknownName name) (main_in checked.program))

-- the number of the node that is named, if one is
abbrev pub node_verdict : ExaminedText → (nodes : List (List ℕ)) → Option (List ℕ) → Verdict (Option ℕ) CommandFault
node_verdict checked nodes None (Ok found) = found ≡ None
node_verdict checked nodes None (Err e) = ⊥
node_verdict checked nodes (Some name) (Ok found) = (n : ℕ) × (found ≡ Some n) × node_name_verdict checked nodes name (Ok n)
node_verdict checked nodes (Some name) (Err e) = node_name_verdict checked nodes name (Err e)

-- the nodes of a layout of the program's flat form and the channels between them by the pace of the protocol, with the setup's bounds of time, what
-- crosses, and the node that is named
pub record IsGroundOf (checked : ExaminedText) (setup : Config) (node : Option (List ℕ)) (g : Ground) : Type 0 where
  pub layout : Layout
  pub laid : IsLayoutOf (flat_of checked.program) setup.placement layout
  pub shape : IsShapeBy layout setup.pace setup.timing g.shape
  pub timing : g.timing ≡ setup.timing
  pub cross : g.cross ≡ layout.cross
  pub pace : g.pace ≡ setup.pace
  pub node_is : g.node ≡ named_node setup node

-- a plan's stage, with how many rows of inputs there are
pub record IsStageOf (p : Plan) (node : Option (List ℕ)) (k : Stage) : Type 0 where
  pub ground : IsGroundOf p.checked p.setup node k.ground
  pub rows : k.rows ≡ length p.inputs.rows

-- the setup's ground, or its refusal
abbrev pub ground_verdict : ExaminedText → Config → Option (List ℕ) → Verdict Ground CommandFault
ground_verdict checked setup node (Ok g) = named_place_verdict checked setup node (Ok setup) × IsGroundOf checked setup node g
ground_verdict checked setup node (Err e) = named_place_verdict checked setup node (Err e)

-- some right plan has this stage, or the refusal is right
abbrev pub Staged : Option (List ℕ) → Verdict Plan CommandFault → Verdict Stage CommandFault
Staged node V (Ok k) = (p : Plan) × V (Ok p) × IsStageOf p node k
Staged _ V (Err e) = V (Err e)
