-- All right refusals of a picture are of one kind, and then no picture is right.
use Rattle.std.proofs.Common.{◌≡◌, ◌∙◌, ℕ, List, Option, Result, Ok, Err, sym, ap, subst}
use Rattle.lt_arch.specs.declared.shape.Shape.{Shape}
use Rattle.lt_arch.specs.declared.timing.Timing.{Timing}
use Rattle.lt_arch.specs.declared.pace.Pace.{Pace}
use Rattle.lt_arch.specs.declared.pace.Pace.TheVariants.{Plain, Lossy, Leader}
use Rattle.lt_config.specs.declared.config.Config.{Config}
use Rattle.lt_front.specs.Examined.{ExaminedText}
use Rattle.lt_front.specs.Flattened.{flat_of}
use Rattle.lt_answer.proofs.Decided.{HasOneKind, HasOneOutcome, and_then, and_then_one}
use Rattle.lt_load_fit.specs.declared.fault.CommandFault.{CommandFault}
use Rattle.lt_load_fit.specs.declared.fault.CommandFault.TheVariants as fault
use Rattle.lt_load_fit.specs.Fits.{HasWindowBy, IsOutsideWindow, windowed_verdict}
use Rattle.lt_load_fit.proofs.Windows.{one_window_fault}
use Rattle.lt_place_reads.specs.declared.crossing.Crossing.{Crossing}
use Rattle.lt_load.specs.Loaded.{program_verdict, config_verdict}
use Rattle.lt_load.specs.Plan.{Plan}
use Rattle.lt_load.proofs.OneLoad.{TellsLimits, program_decided}
use Rattle.lt_load.proofs.OneCheck.{MergesPlaces, config_once, passes_decided, window_fault}
use Rattle.lt_load.proofs.OneShape.{one_shape}
use Rattle.lt_inspect.proofs.OneScene.{placed_once}
use Rattle.lt_course.specs.declared.course.Course.{Course}
use Rattle.lt_inspect.specs.declared.setups.Setups.TheVariants.{Windowed}
use Rattle.lt_inspect.specs.declared.stage.Stage.{Stage}
use Rattle.lt_inspect.specs.Stages.{IsStageOf, setup_stage_verdict, stage_verdict, taken_config_verdict, windowed_config_verdict}
use Rattle.lt_drawing.specs.declared.view.DrawView.{DrawView}
use Rattle.lt_tape.specs.declared.asked.Asked.{Asked}
use Rattle.lt_drawing.specs.Drawn.{asked_of, course_verdict_by, draw_verdict, plan_drawn, stage_course_verdict}
use Rattle.lt_course.proofs.OneCourse.{no_course, one_fault}
use Rattle.lt_lossy_course.proofs.OneLossyCourse as lossy

-- two stages of one plan have one pace, one shape, one timing and as many rows

record AreAlikeStages (k j : Stage) : Type 0 where
  pace : j.ground.pace ≡ k.ground.pace
  shape : j.ground.shape ≡ k.ground.shape
  timing : j.ground.timing ≡ k.ground.timing
  rows : j.rows ≡ k.rows

alike_stages : (plan : Plan) (node : Option (List ℕ)) (k j : Stage) → IsStageOf plan node k → IsStageOf plan node j → AreAlikeStages k j
alike_stages plan _ k j is it = record {
  pace = it.ground.pace ∙ sym is.ground.pace;
  shape = one_shape (flat_of plan.checked.program) plan.setup.placement it.ground.layout is.ground.layout it.ground.laid is.ground.laid plan.setup.pace plan.setup.timing j.ground.shape k.ground.shape it.ground.shape is.ground.shape;
  timing = it.ground.timing ∙ sym is.ground.timing;
  rows = it.rows ∙ sym is.rows;
}

-- what is right of one stage's file is right of the other's, but for what crosses
course_too : (view : DrawView) (k j : Stage) → AreAlikeStages k j → (file : Option (List ℕ)) (r : Result Course CommandFault) → stage_course_verdict view j file r → course_verdict_by (asked_of view) k.ground.pace j.ground.cross k.ground.shape k.ground.timing k.rows file r
course_too view k j same file r h =
    subst (λ (n : ℕ). course_verdict_by (asked_of view) k.ground.pace j.ground.cross k.ground.shape k.ground.timing n file r) same.rows
    (subst (λ (t : Timing). course_verdict_by (asked_of view) k.ground.pace j.ground.cross k.ground.shape t j.rows file r) same.timing
    (subst (λ (s : Shape). course_verdict_by (asked_of view) k.ground.pace j.ground.cross s j.ground.timing j.rows file r) same.shape
    (subst (λ (p : Pace). course_verdict_by (asked_of view) p j.ground.cross j.ground.shape j.ground.timing j.rows file r) same.pace h)))

-- so is a refusal, whatever crosses, and then no course is right
one_fault_by : (asked : Asked) (pace : Pace) (cross other : List Crossing) (s : Shape) (t : Timing) (rows : ℕ) (file : Option (List ℕ)) (e f : CommandFault) → course_verdict_by asked pace cross s t rows file (Err e) → course_verdict_by asked pace other s t rows file (Err f) → e ≡ f
one_fault_by asked Plain cross other s t rows file e f p q = one_fault asked cross other s t rows file e f p q
one_fault_by asked (Lossy losses) cross other s t rows file e f p q = lossy.one_fault asked cross other s t losses rows file e f p q
one_fault_by asked (Leader leader) cross other s t rows file e f p q = one_fault asked cross other s t rows file e f p q

no_course_by : (asked : Asked) (pace : Pace) (cross other : List Crossing) (s : Shape) (t : Timing) (rows : ℕ) (file : Option (List ℕ)) (e : CommandFault) (c : Course) → course_verdict_by asked pace cross s t rows file (Err e) → course_verdict_by asked pace other s t rows file (Ok c) → ⊥
no_course_by asked Plain cross other s t rows file e c p q = no_course asked cross other s t rows file e c p q
no_course_by asked (Lossy losses) cross other s t rows file e c p q = lossy.no_course asked cross other s t losses rows file e c p q
no_course_by asked (Leader leader) cross other s t rows file e c p q = no_course asked cross other s t rows file e c p q

-- a setup has only one fault of its window
one_window : (setup : Config) (e f : CommandFault) → IsOutsideWindow setup e → IsOutsideWindow setup f → e ≡ f
one_window setup e f p q =
    let a = window_fault setup e p in
    let b = window_fault setup f q in
    let fault_is : a.0 ≡ b.0 = one_window_fault setup.timing a.0 b.0 a.3 b.3 in
    let names_are : a.1 ≡ b.1 = a.4 ∙ sym b.4 in
    a.2 ∙ (λ i. fault.Window (fault_is i) (names_are i)) ∙ sym b.2

module _ {K : Type 0} (kind : CommandFault → K) where
  plan_once : (schedule config : List ℕ) (node : Option (List ℕ)) (view : DrawView) (file : Option (List ℕ)) (plan : Plan) → HasOneKind kind (plan_drawn schedule config node view file plan)
  plan_once schedule config node view file plan = record {
    one_kind = λ e f p q.
        ap kind (one_fault_by (asked_of view) p.0.ground.pace p.0.ground.cross q.0.ground.cross p.0.ground.shape p.0.ground.timing p.0.rows file e f p.2 (course_too view p.0 q.0 (alike_stages plan node p.0 q.0 p.1 q.1) file (Err f) q.2));
    not_both = λ e text p q.
        no_course_by (asked_of view) p.0.ground.pace p.0.ground.cross q.0.ground.cross p.0.ground.shape p.0.ground.timing p.0.rows file e q.2.0 p.2 (course_too view p.0 q.0 (alike_stages plan node p.0 q.0 p.1 q.1) file (Ok q.2.0) q.2.1);
  }

  windowed_once : (setup : Config) → HasOneOutcome kind (windowed_verdict setup)
  unfolding windowed_verdict
  windowed_once setup = passes_decided kind setup (HasWindowBy setup.pace setup.timing) (IsOutsideWindow setup) (λ e f p q. ap kind (one_window setup e f p q))

  windowed_config_once : (file : Option (List ℕ)) → HasOneOutcome kind (taken_config_verdict Windowed file)
  unfolding taken_config_verdict windowed_config_verdict
  windowed_config_once file = and_then_one kind (config_verdict file) (λ setup. windowed_verdict setup) (config_once kind file) (λ setup. windowed_once setup)

  module _ (along : TellsLimits kind) (places : MergesPlaces kind) (named : List ℕ → Option (List ℕ)) (inputs : List ℕ) (node : Option (List ℕ)) where
    setup_once : (config : List ℕ) (checked : ExaminedText) → HasOneOutcome kind (setup_stage_verdict Windowed named inputs config node checked)
    unfolding setup_stage_verdict
    setup_once config checked = and_then_one kind (taken_config_verdict Windowed (named config)) _ (windowed_config_once (named config)) (λ setup. placed_once kind along places named inputs node checked setup)

    stage_once : (program config : List ℕ) → HasOneOutcome kind (stage_verdict Windowed named program inputs config node)
    unfolding stage_verdict
    stage_once program config = and_then_one kind (program_verdict (named program)) _ (program_decided kind along (named program)) (λ checked. setup_once config checked)

  pub draw_decided : TellsLimits kind → MergesPlaces kind → (named : List ℕ → Option (List ℕ)) (program inputs schedule config : List ℕ) (node : Option (List ℕ)) (view : DrawView) → HasOneKind kind (draw_verdict named program inputs schedule config node view)
  unfolding draw_verdict
  draw_decided along places named program inputs schedule config node view =
      and_then kind (stage_verdict Windowed named program inputs config node) _ (stage_once along places named inputs node program config) (λ plan. plan_once schedule config node view (named schedule) plan)
