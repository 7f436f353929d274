-- How many events the list of the large input has.
use Rattle.std.proofs.Common.{◌≡◌, ℕ, Bool, length, IfOk, Result, subst}
use Rattle.lt_base.specs.declared.memory.Memory.{Memory}
use Rattle.lt_load.specs.Plan.{LoadedPlan}
use Rattle.lt_big_texts.specs.Texts.{horizon_of}
use Rattle.lt_sim.specs.Drawn.{drawn}
use Rattle.lt_sim.specs.Recorded.{IsWithinMost}
use Rattle.lt_big.specs.Stage.{TellsFew}

-- what is told of the list that is drawn for what was loaded
pub tells_at : (k j : LoadedPlan) → k ≡ j → (instants rows horizon : ℕ) → rows ≡ length k.inputs.rows → horizon ≡ horizon_of instants → (result : Result Bool Memory)
    → IfOk result (IsWithinMost (length (drawn k.shape k.timing rows instants horizon))) → IfOk result (TellsFew instants j)
tells_at k j view instants rows horizon counted until result tells =
    subst (λ (q : LoadedPlan). IfOk result (TellsFew instants q)) view
    (subst (λ (h : ℕ). IfOk result (IsWithinMost (length (drawn k.shape k.timing (length k.inputs.rows) instants h)))) until
    (subst (λ (n : ℕ). IfOk result (IsWithinMost (length (drawn k.shape k.timing n instants horizon)))) counted tells))
