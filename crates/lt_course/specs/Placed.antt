-- Offences at places of a shape.
use Rattle.std.specs.Prelude.{◌<◌, ◌≤◌, ℕ, Option, IfSome}
use Rattle.lt_arch.specs.declared.event.Offence.{Offence}
use Rattle.lt_arch.specs.declared.event.Offence.TheVariants.{AfterEnd, Backwards, NodeOverdue, ChannelOverdue, TooSoon, NothingSent, TooEarly, NoEnd}
use Rattle.lt_arch.specs.declared.limits.TheConstants.{GREATEST_TIME}
use Rattle.lt_arch.specs.declared.shape.Shape.{Shape}
use Rattle.lt_arch.specs.Readers.{node_count, chan_count}

-- the node or the channel of an offence is one of the shape
abbrev pub IsPlacedOffence : Shape → Offence → Type 0
IsPlacedOffence s AfterEnd = Unit {0}
IsPlacedOffence s Backwards = Unit {0}
IsPlacedOffence s (NodeOverdue n) = n < node_count s
IsPlacedOffence s (ChannelOverdue c) = c < chan_count s
IsPlacedOffence s (TooSoon n) = n < node_count s
IsPlacedOffence s (NothingSent c) = c < chan_count s
IsPlacedOffence s (TooEarly c) = c < chan_count s
IsPlacedOffence s NoEnd = Unit {0}

-- within the range of times
abbrev pub IsTimelyLast : Option ℕ → Type 0
IsTimelyLast last = IfSome last (λ at. at ≤ GREATEST_TIME)
