-- An auditor before the first event.
use Rattle.std.specs.Prelude.{◌≡◌, ℕ, ◌<◌, List, length}
use Rattle.lt_arch.specs.declared.timing.Timing.{Timing}
use Rattle.lt_arch.specs.State.{first_phase}
use Rattle.lt_audit.specs.Audit.{MemberState, member_at}
use Rattle.lt_audit.specs.Standing.{IsConfigured}

-- a node of a setup that was never activated
pub record IsAtStart (m : MemberState) (t : Timing) (n : ℕ) : Type 0 where
  pub configured : IsConfigured m t n
  pub phase : m.phase ≡ first_phase t.protocol
  pub executed : m.executed ≡ 0

-- the first nodes of a setup, none of which was activated
pub record MembersAreAtStart (ms : List MemberState) (t : Timing) (count : ℕ) : Type 0 where
  pub size : length ms ≡ count
  pub each : (n : ℕ) → n < count → IsAtStart (member_at ms n) t n
