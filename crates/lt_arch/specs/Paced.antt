-- What a timing has for the protocol's pace.
use Rattle.std.specs.Prelude.{◌≡◌, ◌≢◌, ℕ, ◌<◌, ◌≤◌, length, Option, Some, None}
use Rattle.lt_arch.specs.declared.limits.TheConstants.{GREATEST_COUNTDOWN}
use Rattle.lt_arch.specs.declared.timing.Timing.{Timing}
use Rattle.lt_arch.specs.declared.timing.Protocol.TheVariants.{BackPressure, TimeBased}
use Rattle.lt_arch.specs.Readers.{send_of}
use Rattle.lt_arch.specs.declared.pace.Pace.{Pace}
use Rattle.lt_arch.specs.declared.pace.Pace.TheVariants.{Plain, Lossy, Leader}

-- the most losses in a row on a channel that a setup may allow
abbrev pub most_losses : ℕ
most_losses = 1000

-- node `leader` is one of the nodes, which count their activations, and no other's send countdown ends within the range of times
pub record IsLed (t : Timing) (leader : ℕ) : Type 0 where
  pub leader_in : leader < length t.nodes
  pub counts : t.protocol ≡ TimeBased
  pub follows : (n : ℕ) → n < length t.nodes → n ≢ leader → send_of t n ≡ GREATEST_COUNTDOWN

-- nodes acknowledge what they get, over links of which each loses at most so many messages in a row
pub record IsLossy (t : Timing) (losses : ℕ) : Type 0 where
  pub acknowledges : t.protocol ≡ BackPressure
  pub few : losses ≤ most_losses

-- the node that leads, where one does
abbrev pub leader_of : Pace → Option ℕ
leader_of Plain = None
leader_of (Lossy losses) = None
leader_of (Leader leader) = Some leader

-- how many losses in a row are allowed, where links lose messages
abbrev pub allowed_of : Pace → Option ℕ
allowed_of Plain = None
allowed_of (Lossy losses) = Some losses
allowed_of (Leader leader) = None

-- the timing is one for this pace
pub record FitsPace (pace : Pace) (t : Timing) : Type 0 where
  pub led : (leader : ℕ) → leader_of pace ≡ Some leader → IsLed t leader
  pub lossy : (losses : ℕ) → allowed_of pace ≡ Some losses → IsLossy t losses
