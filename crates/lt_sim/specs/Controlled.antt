-- The controllers of the nodes.
use Rattle.std.specs.Prelude.{◌≡◌, ℕ, ◌<◌, List, length, slice_index_or}
use Rattle.lt_arch.specs.declared.event.Deed.{Deed}
use Rattle.lt_arch.specs.declared.timing.Timing.{Timing}
use Rattle.lt_arch.specs.declared.timing.Protocol.{Protocol}
use Rattle.lt_arch.specs.declared.timing.Protocol.TheVariants.{BackPressure, TimeBased}
use Rattle.lt_arch.specs.State.{Phase, Wait, Ready, First, Sending, Executing}
use Rattle.lt_arch.specs.Readers.{send_of, execute_of}
use Rattle.lt_arch.specs.Deeds.{phase_after}

-- what is kept of a controller
pub record Controlled : Type 0 where
  pub protocol : Protocol
  pub send : ℕ
  pub execute : ℕ
  pub phase : Phase

-- past the last one nothing is said
abbrev pub no_controller : Controlled
no_controller = record { protocol = BackPressure; send = 1; execute = 1; phase = Wait }

abbrev pub controller_of : List Controlled → (n : ℕ) → Controlled
controller_of cs n = slice_index_or cs n no_controller

-- the controller after a deed
abbrev pub controlled_after : Controlled → Deed → Controlled
controlled_after c deed = record c { phase = phase_after c.send c.execute c.phase deed }

-- back-pressure has no phase with a countdown
abbrev pub IsUncounted : Phase → Type 0
IsUncounted Wait = Unit {0}
IsUncounted Ready = Unit {0}
IsUncounted First = ⊥
IsUncounted (Sending left) = ⊥
IsUncounted (Executing left) = ⊥

-- node n's controller is of the timing's protocol, has its countdowns, and is in this phase
pub record IsControlled (t : Timing) (n : ℕ) (phase : Phase) (c : Controlled) : Type 0 where
  pub phase_is : c.phase ≡ phase
  pub sends : t.protocol ≡ TimeBased → c.send ≡ send_of t n
  pub executes : t.protocol ≡ TimeBased → c.execute ≡ execute_of t n
  pub uncounted : t.protocol ≡ BackPressure → IsUncounted c.phase

-- so it is of each node
pub record AreControlled (t : Timing) (count : ℕ) (phase : ℕ → Phase) (cs : List Controlled) : Type 0 where
  pub size : length cs ≡ count
  pub each : (n : ℕ) → n < count → IsControlled t n (phase n) (controller_of cs n)
