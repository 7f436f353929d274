-- What is refused is not loaded.
use Rattle.std.proofs.Common.{ℕ, List, Option, Ok, Err, refl}
use Rattle.std.specs.Prelude.{IsTrue}
use Rattle.lt_io.specs.FilesState.{FilesState}
use Rattle.lt_answer.specs.World.{alone}
use Rattle.lt_answer.specs.Answered.{Answered}
use Rattle.lt_answer.proofs.Decided.{HasOneOutcome}
use Rattle.lt_load_fit.specs.declared.fault.CommandFault.{CommandFault}
use Rattle.lt_load.specs.Blamed.{command_blame}
use Rattle.lt_load.specs.Errands.{load_errands}
use Rattle.lt_load.specs.Plan.{LoadedPlan, Loads, load_verdict}
use Rattle.lt_load.proofs.OnePlan.{load_decided}

-- no refusal is told from another
abbrev pub any_kind : CommandFault → Unit {0}
any_kind e = tt

pub one_plan : (named : List ℕ → Option (List ℕ)) (program inputs : List ℕ) (config : Option (List ℕ)) → HasOneOutcome any_kind (load_verdict named program inputs config)
one_plan named program inputs config = load_decided any_kind (λ e f same. refl) (λ f g main main'. refl) (λ f g names names' mixed mixed'. refl) named program inputs config

pub not_refused : (a b : FilesState) (program inputs : List ℕ) (config : Option (List ℕ)) (k : LoadedPlan) → Answered command_blame (load_errands program inputs config) (Loads (load_verdict a.named program inputs config)) (alone a) (alone b) (Ok k)
    → IsTrue a.told → (e : CommandFault) → load_verdict a.named program inputs config (Err e) → ⊥
not_refused a b program inputs config k first told e refused =
    let right = first.exact told first.cause in
    (one_plan a.named program inputs config).faults.not_both e right.0 refused right.1
