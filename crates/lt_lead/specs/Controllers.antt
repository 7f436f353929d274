-- The controllers of the nodes, before the first event.
use Rattle.std.specs.Prelude.{◌≡◌, ℕ, List, length, Some, slice_get}
use Rattle.lt_arch.specs.declared.controller.Controller.{Ghosts as Controls}
use Rattle.lt_arch.specs.declared.timing.Timing.{Timing}
use Rattle.lt_arch.specs.declared.timing.Protocol.TheVariants.{TimeBased}
use Rattle.lt_arch.specs.Readers.{send_of, execute_of}
use Rattle.lt_arch.specs.State.{first_phase}

-- the controller is at its protocol's start and, where that counts activations, has the two countdowns of node n
pub record IsControllerOf {C : Type 0} (ctl : Controls C) (t : Timing) (n : ℕ) (c : C) : Type 0 where
  pub phase_is : ctl.phase c ≡ first_phase t.protocol
  pub protocol_is : ctl.protocol c ≡ t.protocol
  pub send_is : t.protocol ≡ TimeBased → ctl.send c ≡ send_of t n
  pub execute_is : t.protocol ≡ TimeBased → ctl.execute c ≡ execute_of t n

-- there is one for each node
pub record AreControllers {C : Type 0} (ctl : Controls C) (t : Timing) (cs : List C) : Type 0 where
  pub count : length cs ≡ length t.nodes
  pub each : (n : ℕ) (c : C) → slice_get cs n ≡ Some c → IsControllerOf ctl t n c
