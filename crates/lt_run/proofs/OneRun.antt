-- A command leaves one refusal, up to its kind.
use Rattle.std.proofs.Common.{◌≡◌, ◌∙◌, ℕ, List, Option, Some, None, Result, Ok, Err, length, sym, ap, subst}
use Rattle.lt_arch.specs.declared.shape.Shape.{Shape}
use Rattle.lt_arch.specs.declared.timing.Timing.{Timing}
use Rattle.lt_io.specs.FabricState.{FabricState}
use Rattle.lt_place.specs.declared.layout.Layout.{Layout}
use Rattle.lt_arch.specs.declared.pace.Pace.{Pace}
use Rattle.lt_answer.specs.World.{World}
use Rattle.lt_front.specs.Flattened.{flat_of}
use Rattle.lt_answer.proofs.Decided.{HasOneKind, and_then}
use Rattle.lt_load_fit.specs.declared.fault.CommandFault.{CommandFault}
use Rattle.lt_load.specs.Plan.{Plan, load_verdict}
use Rattle.lt_load.proofs.OneLoad.{TellsLimits}
use Rattle.lt_load.proofs.OneCheck.{MergesPlaces, MergesTimings}
use Rattle.lt_load.proofs.OnePlan.{load_decided}
use Rattle.lt_load.proofs.OneShape.{one_shape}
use Rattle.lt_evaluate.specs.declared.outputs.Outputs.{Outputs}
use Rattle.lt_run.specs.declared.fault.RunFault.{RunFault}
use Rattle.lt_run.specs.declared.fault.RunFault.TheVariants.{Read}
use Rattle.lt_run.specs.Kinds.{EventsBy, RunEndsBy, fault_by, run_file_verdict, verdict_by}
use Rattle.lt_run.specs.Run.{IsLaidOutBy, run_along_verdict, run_command_fault, ordered_verdict, placed_run_verdict, run_verdict}

-- a schedule file along which something is replayed

module _ {E F T U : Type 0} (raise : F → RunFault) (end : E → T → Type 0) (end' : E → U → Type 0) where
  one_end : (v : Result E F) (d e : RunFault) → RunEndsBy raise end v (Err d) → RunEndsBy raise end' v (Err e) → d ≡ e
  one_end (Ok events) d e p q = absurd p
  one_end (Err f) d e p q = let here : d ≡ raise f = cc p in let there : e ≡ raise f = cc q in here ∙ sym there

  no_end : (v : Result E F) (d : RunFault) (x : U) → RunEndsBy raise end v (Err d) → RunEndsBy raise end' v (Ok x) → ⊥
  no_end (Ok events) d x p q = p
  no_end (Err f) d x p q = cc

module _ {T U : Type 0} (pace : Pace) (end : EventsBy pace → T → Type 0) (end' : EventsBy pace → U → Type 0) (s : Shape) (t : Timing) (rows : ℕ) where
  -- one refusal is right
  one_refusal : (file : Option (List ℕ)) (d e : RunFault) → run_file_verdict pace end s t rows file (Err d) → run_file_verdict pace end' s t rows file (Err e) → d ≡ e
  unfolding run_file_verdict
  one_refusal None d e p q = let here : d ≡ Read = cc p in let there : e ≡ Read = cc q in here ∙ sym there
  one_refusal (Some bytes) d e p q = one_end (fault_by pace) end end' (verdict_by pace s t rows bytes) d e p q

  -- and then no value is
  no_value : (file : Option (List ℕ)) (d : RunFault) (x : U) → run_file_verdict pace end s t rows file (Err d) → run_file_verdict pace end' s t rows file (Ok x) → ⊥
  unfolding run_file_verdict
  no_value None d x p q = cc
  no_value (Some bytes) d x p q = no_end (fault_by pace) end end' (verdict_by pace s t rows bytes) d x p q

-- layouts of one program under one placement have one shape
module _ (plan : Plan) (l m : Layout) (s z : Shape) (laid : IsLaidOutBy plan l s) (other : IsLaidOutBy plan m z) where
  same_shape : z ≡ s
  same_shape = one_shape (flat_of plan.checked.program) plan.setup.placement m l other.layout laid.layout plan.setup.pace plan.setup.timing z s other.shape laid.shape

module _ {K : Type 0} (kind : CommandFault → K) (fabric : FabricState) (file : Option (List ℕ)) (plan : Plan) where
  abbrev runs : Layout → Shape → Result Outputs CommandFault → Type 0
  runs l s = placed_run_verdict plan.checked.program l s plan.setup.timing plan.setup.pace plan.inputs.rows fabric file

  one_fault : (l m : Layout) (s : Shape) (e f : CommandFault) → runs l s (Err e) → runs m s (Err f) → e ≡ f
  one_fault l m s e f p q = p.2 ∙ ap (run_command_fault s) (one_refusal plan.setup.pace _ _ s plan.setup.timing (length plan.inputs.rows) file p.0 q.0 p.1 q.1) ∙ sym q.2

  along_kind : (e f : CommandFault) → run_along_verdict fabric file plan (Err e) → run_along_verdict fabric file plan (Err f) → kind e ≡ kind f
  unfolding run_along_verdict
  along_kind e f p q =
      ap kind (one_fault p.0 q.0 p.1 e f p.3 (subst (λ (z : Shape). runs q.0 z (Err f)) (same_shape plan p.0 q.0 p.1 q.1 p.2 q.2) q.3))

  along_both : (e : CommandFault) (x : Outputs) → run_along_verdict fabric file plan (Err e) → run_along_verdict fabric file plan (Ok x) → ⊥
  unfolding run_along_verdict
  along_both e x p q =
      no_value plan.setup.pace _ _ p.1 plan.setup.timing (length plan.inputs.rows) file p.3.0 x p.3.1 (subst (λ (z : Shape). runs q.0 z (Ok x)) (same_shape plan p.0 q.0 p.1 q.1 p.2 q.2) q.3)

  pub along_decided : HasOneKind kind (run_along_verdict fabric file plan)
  along_decided = record { one_kind = along_kind; not_both = along_both }

pub ordered_decided : {K : Type 0} (kind : CommandFault → K) → TellsLimits kind → MergesPlaces kind → MergesTimings kind → (named : List ℕ → Option (List ℕ)) (program inputs schedule : List ℕ) (config : Option (List ℕ)) (fabric : FabricState)
    → HasOneKind kind (ordered_verdict named program inputs schedule config fabric)
unfolding ordered_verdict
ordered_decided kind along places timings named program inputs schedule config fabric =
    and_then kind (load_verdict named program inputs config) (λ plan. run_along_verdict fabric (named schedule) plan) (load_decided kind along places timings named program inputs config) (λ plan.
    along_decided kind fabric (named schedule) plan)

pub run_decided : {K : Type 0} (kind : CommandFault → K) → TellsLimits kind → MergesPlaces kind → MergesTimings kind → (named : List ℕ → Option (List ℕ)) (program inputs schedule : List ℕ) (config : Option (List ℕ)) (new : World)
    → HasOneKind kind (run_verdict named program inputs schedule config new)
run_decided kind along places timings named program inputs schedule config new =
    let one = ordered_decided kind along places timings named program inputs schedule config new.fabric in
    record { one_kind = λ e f p q. one.one_kind e f p.0 q.0; not_both = λ e x p q. one.not_both e x p.0 q }
