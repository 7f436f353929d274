-- What is read for an offence, of strokes and of an auditor.
use Rattle.std.specs.Prelude.{◌<◌, ℕ, List, Option, None, slice_index_or}
use Rattle.lt_arch.specs.declared.event.Offence.{Offence}
use Rattle.lt_arch.specs.declared.event.Offence.TheVariants.{AfterEnd, Backwards, NodeOverdue, ChannelOverdue, TooSoon, NothingSent, TooEarly, NoEnd}
use Rattle.lt_arch.specs.declared.shape.Shape.{Shape}
use Rattle.lt_arch.specs.Readers.{chan_count}
use Rattle.lt_lossy.specs.declared.event.LossyOffence.{LossyOffence}
use Rattle.lt_lossy.specs.declared.event.LossyOffence.TheVariants.{Common, TooManyLost}
use Rattle.lt_tape.specs.declared.stroke.Stroke.{Stroke}
use Rattle.lt_course.specs.Lasts.{last_mark_for}
use Rattle.lt_course.specs.Placed.{IsPlacedOffence}
use Rattle.lt_lossy_audit.specs.Links.{link_seen, link_send_times}
use Rattle.lt_lossy_audit.specs.LossyAudit.{LossyAuditState}

-- the node or the channel of an offence is one of the shape
abbrev pub IsLossyPlacedOffence : Shape → LossyOffence → Type 0
IsLossyPlacedOffence s (Common o) = IsPlacedOffence s o
IsLossyPlacedOffence s (TooManyLost c) = c < chan_count s

-- when the node of an offence was activated last
abbrev pub lossy_mark_for : List Stroke → LossyOffence → Option ℕ
lossy_mark_for xs (Common o) = last_mark_for xs o
lossy_mark_for xs (TooManyLost c) = None

-- when the oldest message in transit on channel c was sent
abbrev pub first_time_on : LossyAuditState → (c : ℕ) → ℕ
first_time_on a c = slice_index_or (link_send_times (link_seen a.links c)) 0 0

-- and on the channel of an offence
abbrev pub common_oldest_read : LossyAuditState → Offence → ℕ
common_oldest_read a AfterEnd = 0
common_oldest_read a Backwards = 0
common_oldest_read a (NodeOverdue n) = 0
common_oldest_read a (ChannelOverdue c) = first_time_on a c
common_oldest_read a (TooSoon n) = 0
common_oldest_read a (NothingSent c) = 0
common_oldest_read a (TooEarly c) = first_time_on a c
common_oldest_read a NoEnd = 0

abbrev pub lossy_oldest_read : LossyAuditState → LossyOffence → ℕ
lossy_oldest_read a (Common o) = common_oldest_read a o
lossy_oldest_read a (TooManyLost c) = first_time_on a c
