-- The ends of a channel.
use Rattle.std.proofs.Common.{ℕ, ◌<◌}
use Rattle.lt_arch.specs.declared.shape.Shape.{Shape}
use Rattle.lt_arch.specs.Ends.{HasEnds}
use Rattle.lt_arch.specs.Readers.{node_count, chan_count, chan_of}
use Rattle.lt_arch.proofs.Facts.{ends-of}

pub channel_ends : (s : Shape) (c : ℕ) → c < chan_count s → HasEnds (node_count s) (chan_of s c)
channel_ends s c lc = ends-of s c lc
