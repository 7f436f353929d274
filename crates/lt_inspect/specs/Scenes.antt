-- What a schedule is judged over: all checks of a run but the acceptance of the timing.
use Rattle.std.specs.Prelude.{◌≡◌, ℕ, List, length, Option, Some, None, Ok, Err, bytes_eq, position}
use Rattle.lt_place.specs.declared.fault.PlaceFault.TheVariants.{UnknownName}
use Rattle.lt_place.specs.declared.layout.Layout.{Layout}
use Rattle.lt_place.specs.Layout.{IsLayoutOf}
use Rattle.lt_arch.specs.Placement.{node_names}
use Rattle.lt_net_node.specs.Channels.{IsShapeOf}
use Rattle.lt_front.specs.Examined.{ExaminedText}
use Rattle.lt_front.specs.Flattened.{flat_of}
use Rattle.lt_config.specs.declared.config.Config.{Config}
use Rattle.lt_answer.specs.Answered.{Verdict, AndThen}
use Rattle.lt_answer.specs.Rules.{Exactly}
use Rattle.lt_load_fit.specs.declared.fault.CommandFault.{CommandFault}
use Rattle.lt_load_fit.specs.declared.fault.CommandFault.TheVariants as fault
use Rattle.lt_load_fit.specs.Main.{main_in}
use Rattle.lt_load_fit.specs.Fits.{placed_verdict}
use Rattle.lt_load.specs.Loaded.{program_verdict}
use Rattle.lt_load.specs.Pacing.{plain_config_verdict}
use Rattle.lt_load.specs.Plan.{Plan, inputs_plan_verdict}
use Rattle.lt_inspect.specs.declared.scene.Scene.{Scene}

-- the number of a setup's node of this name
abbrev pub scene_node_of : Config → (name : List ℕ) → Option ℕ
scene_node_of setup name = position (λ node. bytes_eq node name) (node_names setup.placement)

-- the number of the node that is named, if one is
abbrev pub named_node : Config → Option (List ℕ) → Option ℕ
named_node setup None = None
named_node setup (Some name) = scene_node_of setup name

-- a name is none of a node of the setup, which is answered beside the function that is run
abbrev pub IsNoNode : ExaminedText → Config → List ℕ → CommandFault → Type 0
IsNoNode checked setup name e = (scene_node_of setup name ≡ None) × (e ≡ fault.Place (UnknownName name) (main_in checked.program))

-- the setup, if the node that is named is one of its nodes
abbrev pub named_node_verdict : ExaminedText → Config → Option (List ℕ) → Verdict Config CommandFault
named_node_verdict checked setup None outcome = Exactly (Ok setup) outcome
named_node_verdict checked setup (Some name) (Ok named) = (named ≡ setup) × ((n : ℕ) × (scene_node_of setup name ≡ Some n))
named_node_verdict checked setup (Some name) (Err e) = IsNoNode checked setup name e

-- a setup for a program: the placement and the node that is named, in this order
unfoldable pub named_place_verdict : ExaminedText → Config → Option (List ℕ) → Verdict Config CommandFault
named_place_verdict checked setup node = AndThen (placed_verdict checked setup) (λ legal. named_node_verdict checked legal node)

-- a program with a setup: the placement, the node that is named, and the rows of inputs
unfoldable pub placed_plan_verdict : (named : List ℕ → Option (List ℕ)) (inputs : List ℕ) (node : Option (List ℕ)) → ExaminedText → Config → Verdict Plan CommandFault
placed_plan_verdict named inputs node checked setup = AndThen (named_place_verdict checked setup node) (λ known. inputs_plan_verdict named inputs checked known)

-- a program: its setup, in which no node leads, the placement, the node that is named, and the rows of inputs
unfoldable pub setup_scene_verdict : (named : List ℕ → Option (List ℕ)) (inputs config : List ℕ) (node : Option (List ℕ)) → ExaminedText → Verdict Plan CommandFault
setup_scene_verdict named inputs config node checked = AndThen (plain_config_verdict (named config)) (λ setup. placed_plan_verdict named inputs node checked setup)

-- the program, the setup, the placement, the node that is named, and the inputs, in this order
unfoldable pub scene_verdict : (named : List ℕ → Option (List ℕ)) (program inputs config : List ℕ) (node : Option (List ℕ)) → Verdict Plan CommandFault
scene_verdict named program inputs config node = AndThen (program_verdict (named program)) (λ checked. setup_scene_verdict named inputs config node checked)

-- a plan's scene: the nodes of the layout of the program's flat form and the channels between them, the setup's bounds of time, how
-- many rows of inputs there are, and the node that is named
pub record IsSceneOf (p : Plan) (node : Option (List ℕ)) (k : Scene) : Type 0 where
  pub layout : Layout
  pub laid : IsLayoutOf (flat_of p.checked.program) p.setup.placement layout
  pub shape : IsShapeOf layout p.setup.timing.protocol k.shape
  pub timing : k.timing ≡ p.setup.timing
  pub rows : k.rows ≡ length p.inputs.rows
  pub node_is : k.node ≡ named_node p.setup node

-- some right plan has this scene, or the refusal is right
abbrev pub Scened : Option (List ℕ) → Verdict Plan CommandFault → Verdict Scene CommandFault
Scened place V (Ok k) = (p : Plan) × V (Ok p) × IsSceneOf p place k
Scened place V (Err e) = V (Err e)
