-- A schedule that is judged alone leaves one refusal, up to its kind.
use Rattle.std.proofs.Common.{◌≡◌, ◌∙◌, ℕ, List, Option, Some, None, Result, Ok, Err, sym, ap, subst}
use Rattle.lt_io.specs.FilesState.{FilesState}
use Rattle.lt_arch.specs.declared.event.Event.{Event}
use Rattle.lt_arch.specs.declared.shape.Shape.{Shape}
use Rattle.lt_arch.specs.declared.timing.Timing.{Timing}
use Rattle.lt_front.specs.Examined.{ExaminedText}
use Rattle.lt_front.specs.Flattened.{flat_of}
use Rattle.lt_schedule.specs.declared.fault.ScheduleFault.{ScheduleFault}
use Rattle.lt_schedule.specs.declared.fault.ScheduleFault.TheVariants.{Read}
use Rattle.lt_schedule.specs.Verdict.{verdict}
use Rattle.lt_answer.proofs.Decided.{HasOneKind, HasOneOutcome, and_then, and_then_one}
use Rattle.lt_load_fit.specs.declared.fault.CommandFault.{CommandFault}
use Rattle.lt_load.specs.Loaded.{program_verdict}
use Rattle.lt_load.specs.Plan.{Plan}
use Rattle.lt_load.proofs.OneLoad.{TellsLimits, program_decided}
use Rattle.lt_load.proofs.OneCheck.{MergesPlaces}
use Rattle.lt_load.proofs.OneShape.{one_shape}
use Rattle.lt_load.proofs.OnePlain.{plain_config_decided}
use Rattle.lt_load.specs.Pacing.{plain_config_verdict}
use Rattle.lt_arch.specs.declared.pace.Pace.TheVariants.{Plain}
use Rattle.lt_inspect.specs.declared.scene.Scene.{Scene}
use Rattle.lt_inspect.specs.Scenes.{IsSceneOf, setup_scene_verdict, scene_verdict}
use Rattle.lt_inspect.proofs.OneScene.{placed_once}
use Rattle.lt_inspect.specs.Inspected.{InspectionEndsWith, IsAudited, IsTraced, inspect_file_verdict, schedule_command_fault, along_scene, inspect_along_verdict, audit_verdict, ordered_audit_verdict, ordered_trace_verdict, trace_verdict}

-- a schedule file, whatever is told of it

module _ {T : Type 0} (end end' : List Event → T → Type 0) where
  one_end : (v : Result (List Event) ScheduleFault) (d e : ScheduleFault) → InspectionEndsWith end v (Err d) → InspectionEndsWith end' v (Err e) → d ≡ e
  one_end (Ok events) d e p q = absurd p
  one_end (Err f) d e p q = let here : d ≡ f = cc p in let there : e ≡ f = cc q in here ∙ sym there

  no_end : (v : Result (List Event) ScheduleFault) (d : ScheduleFault) (x : T) → InspectionEndsWith end v (Err d) → InspectionEndsWith end' v (Ok x) → ⊥
  no_end (Ok events) d x p q = p
  no_end (Err f) d x p q = cc

  module _ (s : Shape) (t : Timing) (rows : ℕ) where
    one_refusal : (file : Option (List ℕ)) (d e : ScheduleFault) → inspect_file_verdict end s t rows file (Err d) → inspect_file_verdict end' s t rows file (Err e) → d ≡ e
    unfolding inspect_file_verdict
    one_refusal None d e p q = let here : d ≡ Read = cc p in let there : e ≡ Read = cc q in here ∙ sym there
    one_refusal (Some bytes) d e p q = one_end (verdict s t rows bytes) d e p q

    no_value : (file : Option (List ℕ)) (d : ScheduleFault) (x : T) → inspect_file_verdict end s t rows file (Err d) → inspect_file_verdict end' s t rows file (Ok x) → ⊥
    unfolding inspect_file_verdict
    no_value None d x p q = cc
    no_value (Some bytes) d x p q = no_end (verdict s t rows bytes) d x p q

-- two scenes of one plan have one shape, one timing and as many rows

pub record AreAlike (k j : Scene) : Type 0 where
  pub shape : j.shape ≡ k.shape
  pub timing : j.timing ≡ k.timing
  pub rows : j.rows ≡ k.rows

pub alike : (plan : Plan) (place : Option (List ℕ)) (k j : Scene) → IsSceneOf plan place k → IsSceneOf plan place j → AreAlike k j
alike plan place k j is it = record {
  shape = one_shape (flat_of plan.checked.program) plan.setup.placement it.layout is.layout it.laid is.laid Plain plan.setup.timing j.shape k.shape it.shape is.shape;
  timing = it.timing ∙ sym is.timing;
  rows = it.rows ∙ sym is.rows;
}

module _ {T K : Type 0} (kind : CommandFault → K) (end : Scene → List Event → T → Type 0) (node file : Option (List ℕ)) (plan : Plan) where
  -- what is right of one scene's file is right of the other's
  told_too : (k j : Scene) → AreAlike k j → (r : Result T ScheduleFault) → inspect_file_verdict (end j) j.shape j.timing j.rows file r → inspect_file_verdict (end j) k.shape k.timing k.rows file r
  told_too k j same r h =
      subst (λ (n : ℕ). inspect_file_verdict (end j) k.shape k.timing n file r) same.rows
      (subst (λ (t : Timing). inspect_file_verdict (end j) k.shape t j.rows file r) same.timing (subst (λ (s : Shape). inspect_file_verdict (end j) s j.timing j.rows file r) same.shape h))

  one_fault : (k j : Scene) → AreAlike k j → (e f : CommandFault) → along_scene (end k) k file (Err e) → along_scene (end j) j file (Err f) → e ≡ f
  one_fault k j same e f p q =
      p.2 ∙ ap (schedule_command_fault k.shape) (one_refusal (end k) (end j) k.shape k.timing k.rows file p.0 q.0 p.1 (told_too k j same (Err q.0) q.1)) ∙ ap (λ (s : Shape). schedule_command_fault s q.0) (sym same.shape) ∙ sym q.2

  along_decided : HasOneKind kind (inspect_along_verdict end node file plan)
  along_decided = record {
    one_kind = λ e f p q. ap kind (one_fault p.0 q.0 (alike plan node p.0 q.0 p.1 q.1) e f p.2 q.2);
    not_both = λ e x p q. no_value (end p.0) (end q.0) p.0.shape p.0.timing p.0.rows file p.2.0 x p.2.1 (told_too p.0 q.0 (alike plan node p.0 q.0 p.1 q.1) (Ok x) q.2);
  }

module _ {K : Type 0} (kind : CommandFault → K) where
  module _ (along : TellsLimits kind) (places : MergesPlaces kind) (named : List ℕ → Option (List ℕ)) (inputs : List ℕ) (node : Option (List ℕ)) where
    setup_once : (config : List ℕ) (checked : ExaminedText) → HasOneOutcome kind (setup_scene_verdict named inputs config node checked)
    unfolding setup_scene_verdict
    setup_once config checked = and_then_one kind (plain_config_verdict (named config)) _ (plain_config_decided kind (named config)) (λ setup. placed_once kind along places named inputs node checked setup)

    pub scene_once : (program config : List ℕ) → HasOneOutcome kind (scene_verdict named program inputs config node)
    unfolding scene_verdict
    scene_once program config = and_then_one kind (program_verdict (named program)) _ (program_decided kind along (named program)) (λ checked. setup_once config checked)

  ordered_audit_once : TellsLimits kind → MergesPlaces kind → (named : List ℕ → Option (List ℕ)) (program inputs schedule config : List ℕ) → HasOneKind kind (ordered_audit_verdict named program inputs schedule config)
  unfolding ordered_audit_verdict
  ordered_audit_once along places named program inputs schedule config =
      and_then kind (scene_verdict named program inputs config None) _ (scene_once along places named inputs None program config) (λ plan. along_decided kind IsAudited None (named schedule) plan)

  pub audit_once : TellsLimits kind → MergesPlaces kind → (named : List ℕ → Option (List ℕ)) (program inputs schedule config : List ℕ) (new : FilesState) → HasOneKind kind (audit_verdict named program inputs schedule config new)
  audit_once along places named program inputs schedule config new =
      let one = ordered_audit_once along places named program inputs schedule config in
      record { one_kind = λ e f p q. one.one_kind e f p.0 q.0; not_both = λ e x p q. one.not_both e x p.0 q }

  ordered_trace_once : TellsLimits kind → MergesPlaces kind → (named : List ℕ → Option (List ℕ)) (program inputs schedule config : List ℕ) (node : Option (List ℕ)) (from to : ℕ)
      → HasOneKind kind (ordered_trace_verdict named program inputs schedule config node from to)
  unfolding ordered_trace_verdict
  ordered_trace_once along places named program inputs schedule config node from to =
      and_then kind (scene_verdict named program inputs config node) _ (scene_once along places named inputs node program config) (λ plan. along_decided kind (IsTraced from to) node (named schedule) plan)

  pub trace_once : TellsLimits kind → MergesPlaces kind → (named : List ℕ → Option (List ℕ)) (program inputs schedule config : List ℕ) (node : Option (List ℕ)) (from to : ℕ) (new : FilesState)
      → HasOneKind kind (trace_verdict named program inputs schedule config node from to new)
  trace_once along places named program inputs schedule config node from to new =
      let one = ordered_trace_once along places named program inputs schedule config node from to in
      record { one_kind = λ e f p q. one.one_kind e f p.0 q.0; not_both = λ e x p q. one.not_both e x p.0 q }
