-- That a run along the text of a drawn schedule is not refused.
use Rattle.std.proofs.Common.{◌≡◌, ◌≤◌, ◌∙◌, ℕ, nat_lt, Bool, true, false, List, length, Option, Some, None, Result, Ok, Err, refl, sym, ap, subst, arith, inl, inr}
use Rattle.std.specs.Prelude.{if◌then◌else◌}
use Rattle.lt_arch.specs.declared.pace.Pace.{Pace}
use Rattle.lt_arch.specs.declared.shape.Shape.{Shape}
use Rattle.lt_arch.specs.declared.timing.Timing.{Timing}
use Rattle.lt_io.specs.FabricState.{FabricState}
use Rattle.lt_place.specs.declared.layout.Layout.{Layout}
use Rattle.lt_answer.specs.Answered.{AndThen}
use Rattle.lt_front.specs.Flattened.{flat_of}
use Rattle.lt_load_fit.specs.declared.fault.CommandFault.{CommandFault}
use Rattle.lt_load.specs.Plan.{Plan, load_verdict}
use Rattle.lt_load.proofs.OneShape.{one_shape}
use Rattle.lt_run.specs.declared.fault.RunFault.{RunFault}
use Rattle.lt_run.specs.Kinds.{EventsBy, RunEndsBy, fault_by, run_file_verdict, verdict_by}
use Rattle.lt_run.specs.Run.{IsLaidOutBy, ordered_verdict, run_along_verdict}
use Rattle.lt_run.proofs.Unloaded.{one_plan}
use Rattle.lt_load_fit.specs.Rows.{too_many_events}
use Rattle.lt_cli.specs.DrawnShown.{RunsOnText}

-- a schedule file that reads as events is not refused

reads_to_end : {E F T : Type 0} (raise : F → RunFault) (end : E → T → Type 0) (v : Result E F) (events : E) → v ≡ Ok events → (e : RunFault) → RunEndsBy raise end v (Err e) → ⊥
reads_to_end raise end (Ok es) events is e ends = ends
reads_to_end raise end (Err f) events is e ends = cc

file_reads : {T : Type 0} (pace : Pace) (end : EventsBy pace → T → Type 0) (s : Shape) (t : Timing) (rows : ℕ) (bytes : List ℕ) (events : EventsBy pace) → verdict_by pace s t rows bytes ≡ Ok events
    → (file : Option (List ℕ)) → file ≡ Some bytes → (e : RunFault) → run_file_verdict pace end s t rows file (Err e) → ⊥
unfolding run_file_verdict
file_reads pace end s t rows bytes events reads None held e refused = cc
file_reads pace end s t rows bytes events reads (Some others) held e refused =
    let same : others ≡ bytes = cc in
    reads_to_end (fault_by pace) end (verdict_by pace s t rows others) events (ap (λ (b : List ℕ). verdict_by pace s t rows b) same ∙ reads) e refused

module _ (plan : Plan) (l : Layout) (s : Shape) (laid : IsLaidOutBy plan l s) (events : EventsBy plan.setup.pace) (text : List ℕ) (reads : verdict_by plan.setup.pace s plan.setup.timing (length plan.inputs.rows) text ≡ Ok events) where
  along_runs : (fabric : FabricState) (file : Option (List ℕ)) → file ≡ Some text → (e : CommandFault) → run_along_verdict fabric file plan (Err e) → ⊥
  unfolding run_along_verdict
  along_runs fabric file held e (m, z, other, failed) =
      let same : z ≡ s = one_shape (flat_of plan.checked.program) plan.setup.placement m l other.layout laid.layout plan.setup.pace plan.setup.timing z s other.shape laid.shape in
      let read = ap (λ (y : Shape). verdict_by plan.setup.pace y plan.setup.timing (length plan.inputs.rows) text) same ∙ reads in
      file_reads plan.setup.pace _ z plan.setup.timing (length plan.inputs.rows) text events read file held failed.0 failed.1

  pub runs_on : RunsOnText plan text
  unfolding ordered_verdict
  runs_on named program inputs schedule config loaded held new e refused = by refused.0
    where
      by : AndThen (load_verdict named program inputs config) (λ p. run_along_verdict new.fabric (named schedule) p) (Err e) → ⊥
      by (inl first) = (one_plan named program inputs config).faults.not_both e plan first loaded
      by (inr (p, other, along)) =
          let same : p ≡ plan = (one_plan named program inputs config).one_value p plan other loaded in
          along_runs new.fabric (named schedule) held e (subst (λ (q : Plan). run_along_verdict new.fabric (named schedule) q (Err e)) same along)

-- a list that was not refused is not too long
pub within : {D : Type 0} (b : Bool) (size : ℕ) (whole d : D) → nat_lt 5000000 size ≡ b → (if b then Err too_many_events else Ok whole) ≡ Ok d → (size ≤ 5000000) × (d ≡ whole)
within true size whole d many is = cc
within false size whole d few is =
    let same : whole ≡ d = cc in
    (grind (arith, few), sym same)
