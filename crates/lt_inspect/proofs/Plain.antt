-- Plain setups: they have their window, and over them a stage is a scene.
use Rattle.std.proofs.Common.{◌≡◌, ◌∙◌, ℕ, List, Option, Some, None, Result, Ok, Err, inl, inr, sym, ap, subst}
use Rattle.std.specs.Prelude.{IsErrAnd}
use Rattle.lt_base.specs.declared.memory.Or.{Or}
use Rattle.lt_base.specs.declared.memory.Or.TheVariants.{Fault, Memory}
use Rattle.lt_io.specs.FilesState.{FilesState}
use Rattle.lt_io.specs.Visits.{Errand}
use Rattle.lt_arch.specs.declared.pace.Pace.{Pace}
use Rattle.lt_arch.specs.declared.pace.Pace.TheVariants.{Plain}
use Rattle.lt_arch.specs.declared.shape.Shape.{Shape}
use Rattle.lt_net_node.specs.Channels.{IsShapeOf}
use Rattle.lt_lead.specs.Paced.{IsShapeBy}
use Rattle.lt_answer.specs.World.{alone}
use Rattle.lt_answer.specs.Answered.{Answered, AndThen, Refuses}
use Rattle.lt_answer.specs.Rules.{Exactly}
use Rattle.lt_front.specs.Examined.{ExaminedText}
use Rattle.lt_config.specs.declared.config.Config.{Config}
use Rattle.lt_load_fit.specs.declared.fault.CommandFault.{CommandFault}
use Rattle.lt_load_fit.specs.Fits.{HasWindowBy, placed_verdict, windowed_verdict}
use Rattle.lt_load.specs.Blamed.{command_blame}
use Rattle.lt_load.specs.Pacing.{plain_config_verdict, unpaced_verdict}
use Rattle.lt_load.specs.Plan.{Plan, inputs_plan_verdict}
use Rattle.lt_load.proofs.Steps.{Names}
use Rattle.lt_inspect.specs.declared.scene.Scene.{Scene}
use Rattle.lt_inspect.specs.declared.setups.Setups.{Setups}
use Rattle.lt_inspect.specs.declared.setups.Setups.TheVariants as setups
use Rattle.lt_inspect.specs.declared.stage.Stage.{Stage}
use Rattle.lt_inspect.specs.Scenes.{IsSceneOf, Scened, named_node_verdict, named_place_verdict, placed_plan_verdict, scene_verdict, setup_scene_verdict}
use Rattle.lt_inspect.specs.Stages.{IsStageOf, Staged, paced_config_verdict, setup_stage_verdict, stage_verdict, taken_config_verdict, windowed_config_verdict}

-- the setup of a file is plain
plain_paced : (file : Option (List ℕ)) (setup : Config) → plain_config_verdict file (Ok setup) → setup.pace ≡ Plain
unfolding plain_config_verdict unpaced_verdict
plain_paced file setup (inl none) = absurd none
plain_paced file setup (inr at) = ap (λ (c : Config). c.pace) at.2.1 ∙ at.2.0

plain_window : (setup : Config) → setup.pace ≡ Plain → HasWindowBy setup.pace setup.timing
plain_window setup is = subst (λ (pace : Pace). HasWindowBy pace setup.timing) (sym is) tt

-- so it is right to ask for the window of any setup that is taken
pub windowed_too : (taken : Setups) (file : Option (List ℕ)) (o : Result Config CommandFault) → AndThen (paced_config_verdict taken file) (λ setup. windowed_verdict setup) o → taken_config_verdict taken file o
unfolding paced_config_verdict taken_config_verdict windowed_config_verdict windowed_verdict
windowed_too setups.Windowed file o is = is
windowed_too setups.Plain file (Ok setup) (inl none) = absurd none
windowed_too setups.Plain file (Ok setup) (inr at) = subst (λ (c : Config). plain_config_verdict file (Ok c)) (sym at.2.1) at.1
windowed_too setups.Plain file (Err e) (inl is) = is
windowed_too setups.Plain file (Err e) (inr at) = absurd (at.2.0 (plain_window at.0 (plain_paced file at.0 at.1)))

-- the plan's setup is that of the file

same_setup : (a b : Config) → Exactly {T = Config} {E = CommandFault} (Ok a) (Ok b) → b ≡ a
same_setup a b is = cc

same_plan : (a b : Plan) → Exactly {T = Plan} {E = CommandFault} (Ok a) (Ok b) → b ≡ a
same_plan a b is = cc

named_setup : (checked : ExaminedText) (setup : Config) (node : Option (List ℕ)) (known : Config) → named_node_verdict checked setup node (Ok known) → known ≡ setup
named_setup checked setup None known is = same_setup setup known is
named_setup checked setup (Some name) known is = is.0

place_setup : (checked : ExaminedText) (setup : Config) (node : Option (List ℕ)) (known : Config) → named_place_verdict checked setup node (Ok known) → known ≡ setup
unfolding named_place_verdict placed_verdict
place_setup checked setup node known (inl none) = absurd none
place_setup checked setup node known (inr at) = named_setup checked at.0 node known at.2 ∙ at.1.1

rows_setup : (named : Names) (inputs : List ℕ) (checked : ExaminedText) (setup : Config) (p : Plan) → inputs_plan_verdict named inputs checked setup (Ok p) → p.setup ≡ setup
unfolding inputs_plan_verdict
rows_setup named inputs checked setup p (inl none) = absurd none
rows_setup named inputs checked setup p (inr at) = ap (λ (q : Plan). q.setup) (same_plan _ p at.2)

plan_setup : (named : Names) (inputs : List ℕ) (node : Option (List ℕ)) (checked : ExaminedText) (setup : Config) (p : Plan) → placed_plan_verdict named inputs node checked setup (Ok p) → p.setup ≡ setup
unfolding placed_plan_verdict
plan_setup named inputs node checked setup p (inl none) = absurd none
plan_setup named inputs node checked setup p (inr at) = rows_setup named inputs checked at.0 p at.2 ∙ place_setup checked setup node at.0 at.1

setup_plain : (named : Names) (inputs config : List ℕ) (node : Option (List ℕ)) (checked : ExaminedText) (p : Plan) → setup_scene_verdict named inputs config node checked (Ok p) → p.setup.pace ≡ Plain
unfolding setup_scene_verdict
setup_plain named inputs config node checked p (inl none) = absurd none
setup_plain named inputs config node checked p (inr at) = ap (λ (c : Config). c.pace) (plan_setup named inputs node checked at.0 p at.2) ∙ plain_paced (named config) at.0 at.1

scene_plain : (named : Names) (program inputs config : List ℕ) (node : Option (List ℕ)) (p : Plan) → scene_verdict named program inputs config node (Ok p) → p.setup.pace ≡ Plain
unfolding scene_verdict
scene_plain named program inputs config node p (inl none) = absurd none
scene_plain named program inputs config node p (inr at) = setup_plain named inputs config node at.0 p at.2

-- and then its stage is its scene
module _ (k : Stage) (s : Scene) (shape : s.shape ≡ k.ground.shape) (timing : s.timing ≡ k.ground.timing) (named : s.node ≡ k.ground.node) (rows : s.rows ≡ k.rows) where
  scene_is : (p : Plan) (node : Option (List ℕ)) → p.setup.pace ≡ Plain → IsStageOf p node k → IsSceneOf p node s
  scene_is p node plain is =
      let shaped : IsShapeBy is.ground.layout Plain p.setup.timing k.ground.shape = subst (λ (pace : Pace). IsShapeBy is.ground.layout pace p.setup.timing k.ground.shape) plain is.ground.shape in
      record {
        layout = is.ground.layout;
        laid = is.ground.laid;
        shape = subst (λ (q : Shape). IsShapeOf is.ground.layout p.setup.timing.protocol q) (sym shape) shaped;
        timing = timing ∙ is.ground.timing;
        rows = rows ∙ is.rows;
        node_is = named ∙ is.ground.node_is;
      }

  pub with_scene : {es : List Errand} (program inputs config : List ℕ) (node : Option (List ℕ)) (a b : FilesState) → Answered command_blame es (Staged node (stage_verdict setups.Plain a.named program inputs config node)) (alone a) (alone b) (Ok k)
      → Answered command_blame es (Scened node (scene_verdict a.named program inputs config node)) (alone a) (alone b) (Ok s)
  unfolding stage_verdict setup_stage_verdict taken_config_verdict scene_verdict setup_scene_verdict
  with_scene program inputs config node a b first = record {
    keeps = first.keeps;
    visits = first.visits;
    cause = first.cause;
    exact = λ told calm. let at = first.exact told calm in (at.0, at.1, scene_is at.0 node (scene_plain a.named program inputs config node at.0 at.1) at.2);
    sound = first.sound;
  }

-- where none is loaded
module _ (program inputs config : List ℕ) (node : Option (List ℕ)) (a b : FilesState) where
  refused_too : (e : Or CommandFault) → Refuses (Staged node (stage_verdict setups.Plain a.named program inputs config node)) e → Refuses (Scened node (scene_verdict a.named program inputs config node)) e
  unfolding stage_verdict setup_stage_verdict taken_config_verdict scene_verdict setup_scene_verdict
  refused_too (Fault e) is = is
  refused_too Memory is = tt

  pub no_scene : {es : List Errand} (e : Or CommandFault) (r : Result Scene (Or CommandFault)) → IsErrAnd r (λ f. f ≡ e) → Answered {T = Stage} command_blame es (Staged node (stage_verdict setups.Plain a.named program inputs config node)) (alone a) (alone b) (Err e)
      → Answered command_blame es (Scened node (scene_verdict a.named program inputs config node)) (alone a) (alone b) r
  unfolding stage_verdict setup_stage_verdict taken_config_verdict scene_verdict setup_scene_verdict
  no_scene e (Ok s) is first = absurd is
  no_scene {es} e (Err f) is first =
      subst (λ (g : Or CommandFault). Answered {T = Scene} command_blame es (Scened node (scene_verdict a.named program inputs config node)) (alone a) (alone b) (Err g)) (sym is) (record {
        keeps = first.keeps;
        visits = first.visits;
        cause = first.cause;
        exact = λ told calm. refused_too e (first.exact told calm);
        sound = first.sound;
      })
