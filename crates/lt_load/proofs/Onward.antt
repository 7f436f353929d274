-- A plan that is loaded, and a step after it.
use Rattle.std.proofs.Common.{◌≡◌, List, ◌++◌, Result, Ok, Err, inl, inr, sym, subst}
use Rattle.std.specs.Prelude.{IsErrAnd}
use Rattle.lt_base.specs.declared.memory.Or.{Or}
use Rattle.lt_io.specs.Visits.{Errand}
use Rattle.lt_answer.specs.World.{World}
use Rattle.lt_answer.specs.Answered.{Answered, Verdict, AndThen}
use Rattle.lt_answer.proofs.Stages.{goes_on, stops, widened}
use Rattle.lt_load_fit.specs.declared.fault.CommandFault.{CommandFault}
use Rattle.lt_load.specs.Blamed.{command_blame}
use Rattle.lt_load.specs.Plan.{Plan, LoadedPlan, IsLoadedFrom, Loads}

module _ {U : Type 0} (V : Verdict Plan CommandFault) (next : Plan → Verdict U CommandFault) where
  -- what is right of a step after whatever plan it was loaded from
  abbrev Onward : LoadedPlan → Verdict U CommandFault
  Onward k o = (p : Plan) → IsLoadedFrom p k → next p o

  of_plan : (o : Result U CommandFault) → AndThen (Loads V) Onward o → AndThen V next o
  of_plan (Ok u) (inl q) = absurd q
  of_plan (Ok u) (inr q) = let loads = q.1 in inr (loads.0, loads.1, q.2 loads.0 loads.2)
  of_plan (Err e) (inl q) = inl q
  of_plan (Err e) (inr q) = let loads = q.1 in inr (loads.0, loads.1, q.2 loads.0 loads.2)

  -- nothing is loaded
  pub not_loaded : {es : List Errand} (fs : List Errand) (a b : World) (e : Or CommandFault) (r : Result U (Or CommandFault)) → IsErrAnd r (λ f. f ≡ e) → Answered {T = LoadedPlan} command_blame es (Loads V) a b (Err e) → Answered command_blame (es ++ fs) (AndThen V next) a b r
  not_loaded fs a b e (Ok u) is first = absurd is
  not_loaded {es} fs a b e (Err f) is first =
      subst (λ (g : Or CommandFault). Answered {T = U} command_blame (es ++ fs) (AndThen V next) a b (Err g)) (sym is) (widened (AndThen (Loads V) Onward) (AndThen V next) a b (Err e) of_plan (stops fs a b e first))

  -- a plan is loaded, and the step after it is right of every plan that it may be loaded from
  pub then_loaded : {es fs : List Errand} (a b c : World) (k : LoadedPlan) (r : Result U (Or CommandFault)) (W : Verdict U CommandFault) → ((p : Plan) → IsLoadedFrom p k → (o : Result U CommandFault) → W o → next p o)
      → Answered command_blame es (Loads V) a b (Ok k) → Answered command_blame fs W b c r → Answered command_blame (es ++ fs) (AndThen V next) a c r
  then_loaded {es} {fs} a b c k r W wider first second =
      let onward : Answered command_blame fs (Onward k) b c r = widened W (Onward k) b c r (λ o right p from. wider p from o right) second in
      widened (AndThen (Loads V) Onward) (AndThen V next) a c r of_plan (goes_on a b c k r first onward)
