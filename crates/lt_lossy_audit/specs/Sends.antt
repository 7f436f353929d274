-- Messages sent on many channels.
use Rattle.std.specs.Prelude.{◌≡◌, ℕ, ◌<◌, ◌&&◌, nat_lt, true, List, length}
use Rattle.lt_arch.specs.declared.shape.Shape.{Shape}
use Rattle.lt_arch.specs.Readers.{chan_count}
use Rattle.lt_lossy.specs.State.{LinkState}
use Rattle.lt_lossy.specs.Step.{link_with_message}
use Rattle.lt_lossy.specs.Times.{LossyTimes, AreQueued, queue_at}
use Rattle.lt_lossy.specs.Window.{room}
use Rattle.lt_lossy_audit.specs.declared.seen.Seen.{Seen}
use Rattle.lt_lossy_audit.specs.Links.{link_seen}
use Rattle.lt_lossy_audit.specs.Nodes.{count_seen, sends_seen}

-- the channels on which node n sends have room for one message more, and so have their queues of send times
pub record HasSpaceToSend (s : Shape) (n : ℕ) (x : Seen) (ls : List LinkState) (w : LossyTimes) : Type 0 where
  pub link : (c : ℕ) → c < chan_count s → sends_seen s n x c ≡ true → length (link_seen ls c).transit < room
  pub queue : (c : ℕ) → c < chan_count s → sends_seen s n x c ≡ true → length (queue_at w c) < room

-- on each channel below i on which node n sends it sent what it counts there, and the watch has the send time
pub record SendsSeen (s : Shape) (n : ℕ) (x : Seen) (at i : ℕ) (old new : List LinkState) (w v : LossyTimes) : Type 0 where
  pub same_length : length new ≡ length old
  pub links : (c : ℕ) → c < length old → link_seen new c ≡ link_with_message (nat_lt c i && sends_seen s n x c) (count_seen s x c) at (link_seen old c)
  pub queues : AreQueued (λ c. nat_lt c i && sends_seen s n x c) at w.queues v.queues
  pub watch : v ≡ record w { queues = v.queues }
