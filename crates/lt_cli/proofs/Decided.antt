-- All right outcomes of a command have one status.
use Rattle.std.proofs.Common.{◌≡◌, ◌∙◌, ◌≤◌, ℕ, arith, subst, List, length, Bool, Option, Result, Ok, Err, refl, sym, ap}
use Rattle.std.specs.Prelude.{if◌then◌else◌}
use Rattle.lt_answer.specs.World.{World}
use Rattle.lt_front.specs.declared.fault.ProgramFault.{ProgramFault}
use Rattle.lt_front.specs.Limits.{is_limit}
use Rattle.lt_answer.proofs.Decided.{HasOneKind, HasOneOutcome, and_then}
use Rattle.lt_load.specs.Loaded.{config_verdict}
use Rattle.lt_load.specs.Setups.{check_verdict}
use Rattle.lt_evaluate.specs.Meaning.{meaning_verdict}
use Rattle.lt_evaluate.proofs.OneMeaning.{meaning_decided as one_meaning}
use Rattle.lt_run.specs.Run.{run_verdict}
use Rattle.lt_run.proofs.OneRun.{run_decided as one_run}
use Rattle.lt_arch.specs.declared.shape.Shape.{Shape}
use Rattle.lt_front.specs.Flattened.{flat_of}
use Rattle.lt_io.specs.FabricState.{FabricState}
use Rattle.lt_io.specs.FilesState.{FilesState}
use Rattle.lt_place.specs.declared.layout.Layout.{Layout}
use Rattle.lt_rows.specs.Limits.{most_events}
use Rattle.lt_run.specs.Run.{IsLaidOutBy}
use Rattle.lt_big.specs.Big.{events_of, big_loaded_verdict, big_along_verdict, big_verdict}
use Rattle.lt_inspect.specs.Scenes.{scene_verdict}
use Rattle.lt_inspect.specs.Inspected.{audit_verdict, trace_verdict}
use Rattle.lt_load_fit.specs.declared.fault.CommandFault.{CommandFault}
use Rattle.lt_load.specs.Plan.{Plan}
use Rattle.lt_load.specs.Pacing.{plain_load_verdict}
use Rattle.lt_load.proofs.OneLoad.{config_decided}
use Rattle.lt_load.proofs.OnePlain.{plain_load_decided}
use Rattle.lt_load.proofs.OneShape.{one_shape}
use Rattle.lt_load_fit.specs.Rows.{too_many_events}
use Rattle.lt_text_answers.specs.Draws.{Drawing, drawing, plan_drawn_verdict, sim_verdict}
use Rattle.lt_cli.proofs.Inspected.{scene_once, audit_once, trace_once}
use Rattle.lt_load.proofs.OneCheck.{check_decided as one_check}
use Rattle.lt_watch.specs.Watch.{watch_verdict}
use Rattle.lt_watch.proofs.OneWatch.{watch_decided}
use Rattle.lt_text_answers.specs.declared.status.Status.TheVariants as status
use Rattle.lt_text_answers.specs.Texts.{refusal_status, fault_status, program_status}
use Rattle.lt_text_answers.specs.Replies.{watch_refusal}

-- whether a limit is passed is all that the status tells of a program's fault
pub tells_limits : (e f : ProgramFault) → is_limit e ≡ is_limit f → program_status e ≡ program_status f
tells_limits e f same = ap (λ (b : Bool). if b then status.Limit else status.Program) same

pub check_decided : (named : List ℕ → Option (List ℕ)) (program : List ℕ) (config : Option (List ℕ)) → HasOneKind fault_status (check_verdict named program config)
check_decided named program config = one_check fault_status tells_limits (λ f g main main'. refl) (λ f g names names' mixed mixed'. refl) named program config

pub meaning_decided : (named : List ℕ → Option (List ℕ)) (program inputs : List ℕ) → HasOneKind fault_status (meaning_verdict named program inputs)
meaning_decided named program inputs = one_meaning fault_status tells_limits named program inputs

pub run_decided : (named : List ℕ → Option (List ℕ)) (program inputs schedule : List ℕ) (config : Option (List ℕ)) (new : World)
    → HasOneKind fault_status (run_verdict named program inputs schedule config new)
run_decided named program inputs schedule config new =
    one_run fault_status tells_limits (λ f g main main'. refl) (λ f g names names' mixed mixed'. refl) named program inputs schedule config new

pub plan_decided : (file : Option (List ℕ)) → HasOneKind fault_status (config_verdict file)
plan_decided file = config_decided fault_status file

-- a drawn schedule

one_drawn : (seed horizon : ℕ) (plan : Plan) (r r' : Result Drawing CommandFault) → plan_drawn_verdict seed horizon plan r → plan_drawn_verdict seed horizon plan r' → r ≡ r'
unfolding plan_drawn_verdict
one_drawn seed horizon plan r r' (l, s, laid, is, shows) (m, z, other, it, too) =
    let same : z ≡ s = one_shape (flat_of plan.checked.program) plan.setup.placement m l other.layout laid.layout plan.setup.pace plan.setup.timing z s other.shape laid.shape in
    sym is ∙ ap (λ (t : Shape). drawing t plan.setup.timing (length plan.inputs.rows) seed horizon) (sym same) ∙ it

-- the fault of an outcome
abbrev error_of : Result Drawing CommandFault → CommandFault
error_of (Ok d) = too_many_events
error_of (Err e) = e

drawn_decided : (seed horizon : ℕ) (plan : Plan) → HasOneKind fault_status (plan_drawn_verdict seed horizon plan)
drawn_decided seed horizon plan = record {
  one_kind = λ e f p q. ap (λ (r : Result Drawing CommandFault). fault_status (error_of r)) (one_drawn seed horizon plan (Err e) (Err f) p q);
  not_both = λ e x p q. (let same = one_drawn seed horizon plan (Err e) (Ok x) p q in cc);
}

pub sim_decided : (named : List ℕ → Option (List ℕ)) (program inputs config : List ℕ) (seed horizon : ℕ) → HasOneKind fault_status (sim_verdict named program inputs config seed horizon)
unfolding sim_verdict
sim_decided named program inputs config seed horizon =
    and_then fault_status (plain_load_verdict named program inputs config) _
    (plain_load_decided fault_status tells_limits (λ f g main main'. refl) (λ f g names names' mixed mixed'. refl) named program inputs config) (λ plan. drawn_decided seed horizon plan)

-- the large input

-- layouts of one plan have one shape
same_shape : (plan : Plan) (l m : Layout) (s z : Shape) → IsLaidOutBy plan l s → IsLaidOutBy plan m z → z ≡ s
same_shape plan l m s z laid other = one_shape (flat_of plan.checked.program) plan.setup.placement m l other.layout laid.layout plan.setup.pace plan.setup.timing z s other.shape laid.shape

along_decided : (instants : ℕ) (fabric : FabricState) (plan : Plan) → HasOneKind fault_status (big_along_verdict instants fabric plan)
unfolding big_along_verdict
along_decided instants fabric plan = record {
  one_kind = λ e f p q. ap fault_status (p.3.1 ∙ sym q.3.1);
  not_both = λ e x p q.
      let rows = length plan.inputs.rows in
      let t = plan.setup.timing in
      let few : length (events_of instants p.1 t rows) ≤ most_events = subst (λ (z : Shape). length (events_of instants z t rows) ≤ most_events) (same_shape plan p.0 q.0 p.1 q.1 p.2 q.2) q.3.few in
      omega (arith, few, p.3.0);
}

pub big_decided : (instants : ℕ) (fabric : FabricState) → HasOneKind fault_status (big_verdict instants fabric)
unfolding big_verdict big_loaded_verdict
big_decided instants fabric =
    and_then fault_status (big_loaded_verdict instants) (λ plan. big_along_verdict instants fabric plan)
    (plain_load_decided fault_status tells_limits (λ f g main main'. refl) (λ f g names names' mixed mixed'. refl) _ _ _ _) (λ plan. along_decided instants fabric plan)

-- the files hold one plan
pub scene_decided : (named : List ℕ → Option (List ℕ)) (program inputs config : List ℕ) (node : Option (List ℕ)) → HasOneOutcome fault_status (scene_verdict named program inputs config node)
scene_decided named program inputs config node = scene_once fault_status tells_limits (λ f g main main'. refl) named inputs node program config

pub audit_decided : (named : List ℕ → Option (List ℕ)) (program inputs schedule config : List ℕ) (new : FilesState) → HasOneKind fault_status (audit_verdict named program inputs schedule config new)
audit_decided named program inputs schedule config new = audit_once fault_status tells_limits (λ f g main main'. refl) named program inputs schedule config new

pub trace_decided : (named : List ℕ → Option (List ℕ)) (program inputs schedule config : List ℕ) (node : Option (List ℕ)) (from to : ℕ) (new : FilesState) → HasOneKind fault_status (trace_verdict named program inputs schedule config node from to new)
trace_decided named program inputs schedule config node from to new = trace_once fault_status tells_limits (λ f g main main'. refl) named program inputs schedule config node from to new

pub watched_decided : (named : List ℕ → Option (List ℕ)) (program inputs schedule observer : List ℕ) (config : Option (List ℕ)) (new : World)
    → HasOneKind (λ e. refusal_status (watch_refusal e)) (watch_verdict named program inputs schedule observer config new)
watched_decided named program inputs schedule observer config new =
    watch_decided (λ e. refusal_status (watch_refusal e)) tells_limits (λ f g main main'. refl) (λ f g names names' mixed mixed'. refl) (λ e f. refl) named program inputs schedule observer config new
