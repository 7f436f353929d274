-- The controllers of the first nodes, and one more.
use Rattle.std.proofs.Common.{◌≡◌, ℕ, List, [], ◌∷◌, ◌++◌, length, Some, sym, subst}
use Rattle.std.specs.Prelude.{slice_get}
use Rattle.lt_arch.specs.declared.controller.Controller.{Ghosts as Controls}
use Rattle.lt_arch.specs.declared.timing.Protocol.TheVariants.{TimeBased}
use Rattle.lt_arch.specs.declared.timing.Timing.{Timing}
use Rattle.lt_arch.specs.Readers.{send_of, execute_of}
use Rattle.lt_arch.specs.State.{first_phase}
use Rattle.lt_lead.specs.Controllers.{IsControllerOf}
use Rattle.lt_lead.proofs.OneMore.{one_more}

module _ {C : Type 0} (ctl : Controls C) (t : Timing) where
  -- the controller of the next node
  pub next_controller : (cs more : List C) (c : C) (n : ℕ) → length cs ≡ n → more ≡ cs ++ c ∷ [] → ((k : ℕ) (d : C) → slice_get cs k ≡ Some d → IsControllerOf ctl t k d) →
      ctl.phase c ≡ first_phase t.protocol → ctl.protocol c ≡ t.protocol → (t.protocol ≡ TimeBased → ctl.send c ≡ send_of t n) → (t.protocol ≡ TimeBased → ctl.execute c ≡ execute_of t n) →
      (k : ℕ) (d : C) → slice_get more k ≡ Some d → IsControllerOf ctl t k d
  next_controller cs more c n count is all in_phase of_protocol sends executes =
      subst (λ ds. (k : ℕ) (d : C) → slice_get ds k ≡ Some d → IsControllerOf ctl t k d) (sym is)
      (one_more (λ k d. IsControllerOf ctl t k d) cs c all
      (subst (λ k. IsControllerOf ctl t k c) (sym count) (record { phase_is = in_phase; protocol_is = of_protocol; send_is = sends; execute_is = executes })))
