-- What a schedule is judged over is refused for no schedule.
use Rattle.std.proofs.Common.{◌≡◌, ℕ, Bool, List, Option, Some, None, Err, IsTrue, refl, sym, ap, subst}
use Rattle.lt_base.specs.declared.memory.Or.{Or}
use Rattle.lt_base.specs.declared.memory.Or.TheVariants.{Fault, Memory}
use Rattle.lt_io.specs.Visits.{Errand}
use Rattle.lt_io.specs.FilesState.{FilesState}
use Rattle.lt_arch.specs.declared.event.Offence as arch
use Rattle.lt_arch.specs.declared.shape.Shape.{Shape}
use Rattle.lt_answer.specs.World.{alone}
use Rattle.lt_answer.specs.Answered.{Answered}
use Rattle.lt_front.specs.Examined.{ExaminedText}
use Rattle.lt_config.specs.declared.config.Config.{Config}
use Rattle.lt_schedule.specs.declared.fault.ScheduleFault.TheVariants as schedule
use Rattle.lt_schedule.specs.declared.halt.Halt.{Halt}
use Rattle.lt_schedule.specs.declared.halt.Halt.TheVariants as halt
use Rattle.lt_schedule.specs.declared.halt.ScheduleRefusal.{ScheduleRefusal}
use Rattle.lt_schedule.specs.declared.halt.ScheduleRefusal.TheVariants as refusal
use Rattle.lt_arch.specs.declared.event.Event.{Event}
use Rattle.lt_rows.specs.Rows.{rows_of}
use Rattle.lt_schedule.specs.Halted.{UnlessFailed}
use Rattle.lt_schedule.specs.Near.{IsNearFile, IsNearIn}
use Rattle.lt_schedule.specs.Replayed.{RefusesFile}
use Rattle.lt_schedule.specs.Rules.{Rules}
use Rattle.lt_schedule.specs.Verdict.{schedule_fault_of}
use Rattle.lt_load_fit.specs.declared.fault.CommandFault.{CommandFault}
use Rattle.lt_load_fit.specs.Fits.{placed_verdict}
use Rattle.lt_load.specs.Blamed.{command_blame}
use Rattle.lt_load.specs.Loaded.{config_verdict, program_verdict}
use Rattle.lt_load.specs.Near.{IsNearCommand, IsNearCommandFault}
use Rattle.lt_load.specs.Pacing.{plain_config_verdict, unpaced_verdict}
use Rattle.lt_load.specs.Plan.{inputs_plan_verdict}
use Rattle.lt_load.proofs.Contents.{placed_blames}
use Rattle.lt_load.proofs.Elsewhere.{config_content, elsewhere_near, inputs_plan_content, of_fault, program_content}
use Rattle.lt_load.proofs.Steps.{IsContent, content_then}
use Rattle.lt_inspect.specs.Inspected.{schedule_command_fault}
use Rattle.lt_inspect.specs.Inspecting.{AsFault}
use Rattle.lt_inspect.specs.Scenes.{Scened, named_place_verdict, named_node_verdict, placed_plan_verdict, scene_verdict, setup_scene_verdict}

named_content : (checked : ExaminedText) (setup : Config) (node : Option (List ℕ)) → IsContent of_fault (named_node_verdict checked setup node)
named_content checked setup None e is = cc
named_content checked setup (Some name) e is = ap of_fault is.1

region_content : (checked : ExaminedText) (setup : Config) (node : Option (List ℕ)) → IsContent of_fault (named_place_verdict checked setup node)
unfolding named_place_verdict
region_content checked setup node =
    content_then of_fault (placed_verdict checked setup) (λ legal. named_node_verdict checked legal node)
    (placed_blames of_fault (λ f main. refl) (λ f names mixed. refl) (λ f names. refl) checked setup) (λ legal. named_content checked legal node)

unpaced_content : (setup : Config) → IsContent of_fault (unpaced_verdict setup)
unfolding unpaced_verdict
unpaced_content setup e right = ap of_fault right.1

plain_config_content : (file : Option (List ℕ)) → IsContent of_fault (plain_config_verdict file)
unfolding plain_config_verdict
plain_config_content file = content_then of_fault (config_verdict file) (λ setup. unpaced_verdict setup) (config_content file) unpaced_content

module _ (named : List ℕ → Option (List ℕ)) (inputs : List ℕ) (node : Option (List ℕ)) where
  placed_plan_content : (checked : ExaminedText) (setup : Config) → IsContent of_fault (placed_plan_verdict named inputs node checked setup)
  unfolding placed_plan_verdict
  placed_plan_content checked setup =
      content_then of_fault (named_place_verdict checked setup node) (λ known. inputs_plan_verdict named inputs checked known) (region_content checked setup node) (λ known. inputs_plan_content named inputs checked known)

  setup_scene_content : (config : List ℕ) (checked : ExaminedText) → IsContent of_fault (setup_scene_verdict named inputs config node checked)
  unfolding setup_scene_verdict
  setup_scene_content config checked =
      content_then of_fault (plain_config_verdict (named config)) (λ setup. placed_plan_verdict named inputs node checked setup) (plain_config_content (named config)) (λ setup. placed_plan_content checked setup)

  scene_content : (program config : List ℕ) → IsContent of_fault (scene_verdict named program inputs config node)
  unfolding scene_verdict
  scene_content program config =
      content_then of_fault (program_verdict (named program)) (λ checked. setup_scene_verdict named inputs config node checked) (program_content (named program)) (λ checked. setup_scene_content config checked)

-- so where it is refused nothing is said of a schedule
pub not_scened_near : {es : List Errand} (program inputs config : List ℕ) (node : Option (List ℕ)) (a b : FilesState) (file : Option (List ℕ)) (place : ℕ) → IsTrue a.told → (e : Or CommandFault)
    → Answered command_blame es (Scened node (scene_verdict a.named program inputs config node)) (alone a) (alone b) (Err e) → IsNearCommand file place e
not_scened_near program inputs config node a b file place told e first =
    elsewhere_near (Scened node (scene_verdict a.named program inputs config node)) a b file place (scene_content a.named inputs node program config) told e first

-- how far a refused schedule was read

near_of : (s : Shape) (file : Option (List ℕ)) (place : ℕ) (r : ScheduleRefusal arch.Offence) (bytes : List ℕ) → file ≡ Some bytes → IsNearIn (rows_of bytes) place r → IsNearCommandFault file place (schedule_command_fault s (schedule_fault_of r))
near_of s file place (refusal.Row row f) bytes is near = subst (λ (x : Option (List ℕ)). IsNearFile x place (Fault (schedule.Row row f))) (sym is) near
near_of s file place (refusal.Offence event offence) bytes is near = subst (λ (x : Option (List ℕ)). IsNearFile x place (Fault (schedule.Offence event offence))) (sym is) near
near_of s file place refusal.Bytes bytes is near = subst (λ (x : Option (List ℕ)). IsNearFile x place (Fault schedule.Bytes)) (sym is) near

pub near_halted : (s : Shape) (rules : Rules Event arch.Offence) (told : Bool) (file : Option (List ℕ)) (place : ℕ) (h : Or (Halt arch.Offence)) (e : Or CommandFault) → AsFault s h e → UnlessFailed (λ r. IsTrue told → RefusesFile rules file place r) h
    → IsTrue told → IsNearCommand file place e
near_halted s rules told file place (Fault (halt.Refused r)) (Fault e) is refuses tells =
    let there = refuses tells in subst (IsNearCommandFault file place) (sym is) (near_of s file place r there.bytes there.file_is there.near)
near_halted s rules told file place (Fault (halt.Refused r)) Memory is refuses tells = tt
near_halted s rules told file place (Fault halt.Read) (Fault e) is refuses tells = subst (IsNearCommandFault file place) (sym is) tt
near_halted s rules told file place (Fault halt.Read) Memory is refuses tells = tt
near_halted s rules told file place (Fault halt.Link) (Fault e) is refuses tells = subst (IsNearCommandFault file place) (sym is) tt
near_halted s rules told file place (Fault halt.Link) Memory is refuses tells = tt
near_halted s rules told file place Memory (Fault e) is refuses tells = absurd is
near_halted s rules told file place Memory Memory is refuses tells = tt
