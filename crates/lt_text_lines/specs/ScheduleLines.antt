-- The lines of refused schedules, without their line feeds.
use Rattle.std.specs.Prelude.{ℕ, List, [], ◌++◌, codes, Option, Some, None, slice_get}
use Rattle.std.specs.Fmt.{decimal}
use Rattle.lt_arch.specs.declared.chan.Chan.{Chan}
use Rattle.lt_arch.specs.declared.chan.ChanKind.{ChanKind}
use Rattle.lt_arch.specs.declared.chan.ChanKind.TheVariants.{Data, Ack}
use Rattle.lt_arch.specs.declared.event.Offence.{Offence}
use Rattle.lt_arch.specs.declared.event.Offence.TheVariants.{AfterEnd, Backwards, NodeOverdue, ChannelOverdue, TooSoon, NothingSent, TooEarly, NoEnd}
use Rattle.lt_arch.specs.declared.shape.Shape.{Shape}
use Rattle.lt_lossy.specs.declared.event.LossyOffence.{LossyOffence}
use Rattle.lt_lossy.specs.declared.event.LossyOffence.TheVariants.{Common, TooManyLost}
use Rattle.lt_rows.specs.declared.fault.RowFault.{RowFault}
use Rattle.lt_rows.specs.declared.fault.RowFault.TheVariants.{Header, Time, Kind, UnknownPlace, NotCsv, TooMany}

-- a kind's number and name
abbrev pub row_kind_text : RowFault → List ℕ
row_kind_text Header = codes "1 Header"
row_kind_text Time = codes "2 Time"
row_kind_text Kind = codes "3 Kind"
row_kind_text UnknownPlace = codes "4 UnknownPlace"
row_kind_text NotCsv = codes "5 NotCsv"
row_kind_text TooMany = codes "6 TooMany"

abbrev pub row_line : ℕ → RowFault → List ℕ
row_line row TooMany = codes "limit: events 5000000"
row_line row fault = codes "schedule " ++ row_kind_text fault ++ codes " at row " ++ decimal row

abbrev pub offence_name : Offence → List ℕ
offence_name AfterEnd = codes "AfterEnd"
offence_name Backwards = codes "Backwards"
offence_name (NodeOverdue n) = codes "NodeOverdue"
offence_name (ChannelOverdue c) = codes "ChannelOverdue"
offence_name (TooSoon n) = codes "TooSoon"
offence_name (NothingSent c) = codes "NothingSent"
offence_name (TooEarly c) = codes "TooEarly"
offence_name NoEnd = codes "NoEnd"

abbrev pub name_or_none : Option (List ℕ) → List ℕ
name_or_none None = []
name_or_none (Some name) = name

abbrev pub name_of_node : Shape → ℕ → List ℕ
name_of_node s n = name_or_none (slice_get s.nodes n)

-- a space and the node's name
abbrev pub spaced_node_text : Shape → ℕ → List ℕ
spaced_node_text s n = codes " " ++ name_of_node s n

abbrev pub spaced_kind_text : ChanKind → List ℕ
spaced_kind_text Data = codes " data "
spaced_kind_text Ack = codes " ack "

-- a space, the channel's kind, a space and its ends
abbrev pub spaced_ends_text : Shape → Chan → List ℕ
spaced_ends_text s c = spaced_kind_text c.kind ++ name_of_node s c.from ++ codes ">" ++ name_of_node s c.to

abbrev pub ends_or_none : Shape → Option Chan → List ℕ
ends_or_none s None = []
ends_or_none s (Some c) = spaced_ends_text s c

abbrev pub channel_text : Shape → ℕ → List ℕ
channel_text s c = ends_or_none s (slice_get s.channels c)

abbrev pub offence_place_text : Shape → Offence → List ℕ
offence_place_text s AfterEnd = []
offence_place_text s Backwards = []
offence_place_text s (NodeOverdue n) = spaced_node_text s n
offence_place_text s (ChannelOverdue c) = channel_text s c
offence_place_text s (TooSoon n) = spaced_node_text s n
offence_place_text s (NothingSent c) = channel_text s c
offence_place_text s (TooEarly c) = channel_text s c
offence_place_text s NoEnd = []

abbrev pub offence_line : Shape → (event : ℕ) → Offence → List ℕ
offence_line s event offence = codes "schedule offence at event " ++ decimal event ++ codes ": " ++ offence_name offence ++ offence_place_text s offence

-- the same where links lose messages
abbrev pub lossy_line : Shape → (event : ℕ) → LossyOffence → List ℕ
lossy_line s event (Common offence) = offence_line s event offence
lossy_line s event (TooManyLost c) = codes "schedule offence at event " ++ decimal event ++ codes ": TooManyLost" ++ channel_text s c
