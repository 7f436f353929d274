-- What one event over links that lose messages does to what an auditor holds.
use Rattle.std.specs.Prelude.{◌≡◌, ℕ, ◌+◌, true, false, List, slice_set}
use Rattle.lt_arch.specs.declared.event.Event.TheVariants.{Act, Del, End}
use Rattle.lt_arch.specs.Readers.{chan_count}
use Rattle.lt_lossy.specs.declared.event.LossyEvent.{LossyEvent}
use Rattle.lt_lossy.specs.declared.event.LossyEvent.TheVariants.{Plain, Lose}
use Rattle.lt_lossy.specs.State.{LinkState}
use Rattle.lt_lossy.specs.Step.{link_delivered, link_lost}
use Rattle.lt_lossy.specs.Times.{LossyTimes, losses_at, with_end, with_last, with_losses, without_oldest}
use Rattle.lt_lossy_audit.specs.declared.seen.Seen.{Seen}
use Rattle.lt_lossy_audit.specs.Links.{link_seen}
use Rattle.lt_lossy_audit.specs.LossyAudit.{LossyAuditState}
use Rattle.lt_lossy_audit.specs.Nodes.{SeenWakes, hears_all, node_seen}
use Rattle.lt_lossy_audit.specs.Sends.{SendsSeen}

-- node n is activated at a time
pub record LossyAuditActs (a b : LossyAuditState) (n at : ℕ) : Type 0 where
  pub woken : Seen
  pub wakes : SeenWakes (node_seen a.nodes n) woken (hears_all a.shape a.links n (node_seen a.nodes n).executed true (chan_count a.shape))
      (hears_all a.shape a.links n (node_seen a.nodes n).executed false (chan_count a.shape)) a.rows
  -- and sends; the watch has first the send times and then the activation
  pub links : List LinkState
  pub sent : LossyTimes
  pub sends : SendsSeen a.shape n woken at (chan_count a.shape) a.links links a.watch sent
  pub is : b ≡ record a { nodes = slice_set a.nodes n woken; links = links; watch = with_last sent n at }

-- channel c delivers its oldest message at a time, or loses it
abbrev pub LossyAuditDelivers : LossyAuditState → LossyAuditState → (c at : ℕ) → Type 0
LossyAuditDelivers a b c at =
    b ≡ record a { links = slice_set a.links c (link_delivered (link_seen a.links c) (link_seen a.links c).transit); watch = with_losses (without_oldest a.watch c at) c 0 }

abbrev pub LossyAuditLoses : LossyAuditState → LossyAuditState → (c at : ℕ) → Type 0
LossyAuditLoses a b c at =
    b ≡ record a { links = slice_set a.links c (link_lost (link_seen a.links c) (link_seen a.links c).transit); watch = with_losses (without_oldest a.watch c at) c (losses_at a.watch c + 1) }

-- an event without an offence is taken
abbrev pub LossyAuditTakes : LossyAuditState → LossyAuditState → LossyEvent → Type 0
LossyAuditTakes a b (Plain (Act n at)) = LossyAuditActs a b n at
LossyAuditTakes a b (Plain (Del c at)) = LossyAuditDelivers a b c at
LossyAuditTakes a b (Plain (End at)) = b ≡ record a { watch = with_end a.watch at }
LossyAuditTakes a b (Lose c at) = LossyAuditLoses a b c at
