-- The schedule of a program with its inputs and its setup, behind what was loaded.
use Rattle.std.proofs.Common.{◌≡◌, ℕ, List, [], Option, Some, Result, Ok, Err}
use Rattle.std.specs.Prelude.{IsErrAnd}
use Rattle.lt_base.specs.declared.memory.Or.{Or}
use Rattle.lt_answer.specs.Answered.{Answered, Settles}
use Rattle.lt_answer.specs.World.{World}
use Rattle.lt_answer.proofs.Stages.{errands_all}
use Rattle.lt_load_fit.specs.declared.fault.CommandFault.{CommandFault}
use Rattle.lt_load.specs.Blamed.{command_blame}
use Rattle.lt_load.specs.Errands.{load_errands}
use Rattle.lt_load.specs.Plan.{LoadedPlan, Loads, Plan, load_verdict}
use Rattle.lt_load.proofs.Onward.{not_loaded, then_loaded}
use Rattle.lt_load.proofs.Steps.{untouched}
use Rattle.lt_scheduling.specs.Scheduled.{plan_schedule_verdict, schedule_verdict}
use Rattle.lt_scheduling.specs.Stage.{loaded_schedule_verdict}
use Rattle.lt_scheduling.proofs.Paced.{drawn_content, text_right}

module _ (named : List ℕ → Option (List ℕ)) (program inputs config : List ℕ) (loss seed horizon : ℕ) (jitter : Option ℕ) (a b : World) where
  abbrev text_of : Plan → Result (List ℕ) CommandFault → Type 0
  text_of plan = plan_schedule_verdict loss seed horizon jitter plan

  pub not_scheduled : (e : Or CommandFault) (r : Result (List ℕ) (Or CommandFault)) → IsErrAnd r (λ f. f ≡ e) → Answered {T = LoadedPlan} command_blame (load_errands program inputs (Some config)) (Loads (load_verdict named program inputs (Some config))) a b (Err e)
      → Answered command_blame (load_errands program inputs (Some config)) (schedule_verdict named program inputs config loss seed horizon jitter) a b r
  unfolding schedule_verdict
  not_scheduled e r is first = errands_all a b r (not_loaded (load_verdict named program inputs (Some config)) text_of [] a b e r is first)

  pub scheduled : (k : LoadedPlan) (r : Result (List ℕ) (Or CommandFault)) → Answered command_blame (load_errands program inputs (Some config)) (Loads (load_verdict named program inputs (Some config))) a b (Ok k)
      → Settles (loaded_schedule_verdict loss seed horizon jitter k) r → Answered command_blame (load_errands program inputs (Some config)) (schedule_verdict named program inputs config loss seed horizon jitter) a b r
  unfolding schedule_verdict
  scheduled k r first second =
      errands_all a b r
      (then_loaded (load_verdict named program inputs (Some config)) text_of a b b k r (loaded_schedule_verdict loss seed horizon jitter k) (λ p from o right. text_right loss seed horizon jitter k p from o right) first
      (untouched command_blame (loaded_schedule_verdict loss seed horizon jitter k) b r (drawn_content loss seed horizon jitter k) second))
