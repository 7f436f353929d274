-- When a node was activated last, by what events are drawn as, and what is read of an auditor for an offence.
use Rattle.std.specs.Prelude.{ℕ, List, Option, None}
use Rattle.lt_arch.specs.declared.event.Offence.{Offence}
use Rattle.lt_arch.specs.declared.event.Offence.TheVariants.{AfterEnd, Backwards, NodeOverdue, ChannelOverdue, TooSoon, NothingSent, TooEarly, NoEnd}
use Rattle.lt_audit.specs.Audit.{AuditState, chan_at}
use Rattle.lt_tape.specs.declared.stroke.Stroke.{Stroke}
use Rattle.lt_tape.specs.Times.{last_mark}
use Rattle.lt_course.specs.Strokes.{first_sent_or}

-- when the node of an offence was activated last
abbrev pub last_mark_for : List Stroke → Offence → Option ℕ
last_mark_for xs AfterEnd = None
last_mark_for xs Backwards = None
last_mark_for xs (NodeOverdue n) = last_mark n xs
last_mark_for xs (ChannelOverdue c) = None
last_mark_for xs (TooSoon n) = last_mark n xs
last_mark_for xs (NothingSent c) = None
last_mark_for xs (TooEarly c) = None
last_mark_for xs NoEnd = None

-- when the oldest message in transit on the channel of an offence was sent
abbrev pub oldest_read : AuditState → Offence → ℕ
oldest_read a AfterEnd = 0
oldest_read a Backwards = 0
oldest_read a (NodeOverdue n) = 0
oldest_read a (ChannelOverdue c) = first_sent_or 0 (chan_at a.chans c).transit
oldest_read a (TooSoon n) = 0
oldest_read a (NothingSent c) = 0
oldest_read a (TooEarly c) = first_sent_or 0 (chan_at a.chans c).transit
oldest_read a NoEnd = 0
