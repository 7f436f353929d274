-- What an auditor holds over links that lose messages, and the lists of events for which it stands.
use Rattle.std.specs.Prelude.{◌≡◌, ℕ, ◌+◌, ◌*◌, ◌^◌, ◌<◌, List, length, Option, None, Some, Result, Ok, Err}
use Rattle.lt_arch.specs.declared.event.Event.TheVariants.{Act, Del, End}
use Rattle.lt_arch.specs.declared.shape.Shape.{Shape}
use Rattle.lt_arch.specs.declared.timing.Timing.{Timing}
use Rattle.lt_arch.specs.Readers.{node_count, chan_count}
use Rattle.lt_arch.specs.Deeds.{deed_at}
use Rattle.lt_arch.specs.Shapes.{HaveSameNodes}
use Rattle.lt_lossy.specs.declared.event.LossyEvent.{LossyEvent}
use Rattle.lt_lossy.specs.declared.event.LossyEvent.TheVariants.{Plain, Lose}
use Rattle.lt_lossy.specs.declared.event.LossyOffence.{LossyOffence}
use Rattle.lt_lossy.specs.State.{LinkState, LossyState, plain_of}
use Rattle.lt_lossy.specs.Schedule.{IsLossyOffenceFree, lossy_reached}
use Rattle.lt_lossy.specs.Times.{LossyTimes, HasLossyTimes}
use Rattle.lt_lossy.specs.Window.{HasWindow}
use Rattle.lt_lossy_audit.specs.declared.seen.Seen.{Seen}
use Rattle.lt_lossy_audit.specs.Links.{link_seen}
use Rattle.lt_lossy_audit.specs.Nodes.{IsSeen, node_seen}

pub record LossyAuditState : Type 0 where
  pub shape : Shape
  -- how many input rows there are
  pub rows : ℕ
  -- the times of activations, and of the messages in transit on each channel
  pub watch : LossyTimes
  pub nodes : List Seen
  pub links : List LinkState

-- what is held is this state of the architecture, where so many losses in a row are allowed
pub record HasLossyState (a : LossyAuditState) (s : Shape) (t : Timing) (limit : ℕ) (st : LossyState) : Type 0 where
  pub shape : a.shape ≡ s
  pub times : HasLossyTimes a.watch s t limit st
  pub node : (n : ℕ) → n < node_count s → IsSeen (node_seen a.nodes n) (st.node n)
  pub link : (c : ℕ) → c < chan_count s → link_seen a.links c ≡ st.link c

-- it stands for these events, with so many input rows: none of them has an offence, and it is where they lead
pub record LossyAuditStands (a : LossyAuditState) (s : Shape) (t : Timing) (limit rows : ℕ) (es : List LossyEvent) : Type 0 where
  pub rows_are : a.rows ≡ rows
  pub free : IsLossyOffenceFree s t limit rows es
  pub state : HasLossyState a s t limit (lossy_reached s t rows es)

-- what is right of an event with this offence, or none
abbrev pub JudgesLossyEvent : Option LossyOffence → Result (Unit {0}) LossyOffence → Type 0
JudgesLossyEvent offence (Ok done) = offence ≡ None
JudgesLossyEvent offence (Err found) = offence ≡ Some found

-- once this event was taken in this state, it knows what the node did that was activated
abbrev pub KnowsLossyDeed : LossyAuditState → Shape → (rows : ℕ) → LossyState → LossyEvent → Type 0
KnowsLossyDeed a s rows st (Plain (Act n at)) = (node_seen a.nodes n).did ≡ deed_at s rows (plain_of st) n
KnowsLossyDeed a s rows st (Plain (Del c at)) = Unit {0}
KnowsLossyDeed a s rows st (Plain (End at)) = Unit {0}
KnowsLossyDeed a s rows st (Lose c at) = Unit {0}

-- what it keeps: all nodes and channels, and some events for which it stands, within a timing with room for all messages
pub record IsKeptLossyAudit (a : LossyAuditState) : Type 0 where
  pub numbered : 2 * (node_count a.shape + chan_count a.shape) < 2 ^ 32
  pub nodes : length a.nodes ≡ node_count a.shape
  pub links : length a.links ≡ chan_count a.shape
  pub timing : Timing
  pub limit : ℕ
  pub limit_fits : limit < 2 ^ 64
  pub events : List LossyEvent
  pub same : HaveSameNodes a.shape timing
  pub window : HasWindow timing
  pub stands : LossyAuditStands a a.shape timing limit a.rows events
