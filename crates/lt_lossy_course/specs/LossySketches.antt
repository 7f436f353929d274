-- What an event is drawn as, by what is read of an auditor before and after it.
use Rattle.std.specs.Prelude.{◌≡◌, ℕ, List}
use Rattle.lt_arch.specs.declared.event.Deed.{Deed}
use Rattle.lt_arch.specs.declared.event.Event.TheVariants.{Act, Del, End}
use Rattle.lt_arch.specs.declared.shape.Shape.{Shape}
use Rattle.lt_lossy.specs.declared.event.LossyEvent.{LossyEvent}
use Rattle.lt_lossy.specs.declared.event.LossyEvent.TheVariants.{Plain, Lose}
use Rattle.lt_lossy.specs.State.{Message}
use Rattle.lt_place_reads.specs.declared.crossing.Crossing.{Crossing}
use Rattle.lt_diagram.specs.declared.picture.Fate.TheVariants.{Delivered, Lost}
use Rattle.lt_tape.specs.declared.stroke.Stroke.{Stroke}
use Rattle.lt_tape.specs.declared.stroke.Stroke.TheVariants.{Point, Line, Edge}
use Rattle.lt_course.specs.Strokes.{sign_of}
use Rattle.lt_lossy_audit.specs.Links.{link_seen}
use Rattle.lt_lossy_audit.specs.LossyAudit.{LossyAuditState}
use Rattle.lt_lossy_audit.specs.Nodes.{node_seen}
use Rattle.lt_lossy_course.specs.declared.sketch.Leaving.{Leaving}
use Rattle.lt_lossy_course.specs.LossyStrokes.{message_arrow, placed_message}

-- the message of a delivery or a loss, as data
abbrev pub left_message : Leaving → Message
left_message x = record { number = x.number; sent_at = x.sent }

-- by its deed, how many instants its node has executed, and the message that leaves its channel
abbrev pub lossy_stroke_by : List Crossing → Shape → (number : ℕ) → Deed → (executed : ℕ) → Leaving → LossyEvent → Stroke
lossy_stroke_by cross s number deed executed x (Plain (Act n at)) = Point (record { event = number; node = n; time = at; sign = sign_of deed executed })
lossy_stroke_by cross s number deed executed x (Plain (Del c at)) = Line (message_arrow cross s c x.newest (left_message x) at (Delivered number))
lossy_stroke_by cross s number deed executed x (Plain (End at)) = Edge at
lossy_stroke_by cross s number deed executed x (Lose c at) = Line (message_arrow cross s c x.newest (left_message x) at (Lost number))

-- an activation comes at a node that has executed so many instants
abbrev pub IsLossyExecuted : LossyAuditState → LossyEvent → (executed : ℕ) → Type 0
IsLossyExecuted a (Plain (Act n at)) executed = executed ≡ (node_seen a.nodes n).executed
IsLossyExecuted a (Plain (Del c at)) executed = Unit {0}
IsLossyExecuted a (Plain (End at)) executed = Unit {0}
IsLossyExecuted a (Lose c at) executed = Unit {0}

-- this is the oldest message of channel c, beside the newest number that it has delivered
pub record IsLeaving (a : LossyAuditState) (c at : ℕ) (x : Leaving) : Type 0 where
  pub newest : x.newest ≡ (link_seen a.links c).newest
  pub message : left_message x ≡ placed_message at (link_seen a.links c).transit 0

-- a delivery or a loss takes this message
abbrev pub TakesLeaving : LossyAuditState → LossyEvent → Leaving → Type 0
TakesLeaving a (Plain (Act n at)) x = Unit {0}
TakesLeaving a (Plain (Del c at)) x = IsLeaving a c at x
TakesLeaving a (Plain (End at)) x = Unit {0}
TakesLeaving a (Lose c at) x = IsLeaving a c at x

-- an activation did this deed
abbrev pub IsLossyDeedDone : LossyAuditState → LossyEvent → Deed → Type 0
IsLossyDeedDone a (Plain (Act n at)) deed = deed ≡ (node_seen a.nodes n).did
IsLossyDeedDone a (Plain (Del c at)) deed = Unit {0}
IsLossyDeedDone a (Plain (End at)) deed = Unit {0}
IsLossyDeedDone a (Lose c at) deed = Unit {0}
