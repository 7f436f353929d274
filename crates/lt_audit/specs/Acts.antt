-- What one event does to what an auditor holds.
use Rattle.std.specs.Prelude.{◌≡◌, ℕ, ◌+◌, ◌-◌, ◌^◌, ◌<◌, ◌≤◌, ◌==◌, ◌&&◌, ◌||◌, min, not, nat_lt, nat_le, Bool, true, false, List, map, length, Option, Some, None, slice_set, slice_index_or, if◌then◌else◌}
use Rattle.lt_arch.specs.declared.chan.Chan.{Chan}
use Rattle.lt_arch.specs.declared.event.Deed.{Deed}
use Rattle.lt_arch.specs.declared.event.Deed.TheVariants.{Nothing, Execute, Send}
use Rattle.lt_arch.specs.declared.event.Event.{Event}
use Rattle.lt_arch.specs.declared.event.Event.TheVariants.{Act, Del, End}
use Rattle.lt_arch.specs.declared.timing.Protocol.{Protocol}
use Rattle.lt_arch.specs.State.{ChanState}
use Rattle.lt_arch.specs.Readers.{is_data, is_back_pressure, no_chan}
use Rattle.lt_arch.specs.Deeds.{deed_of, phase_after, all_below, some_below}
use Rattle.lt_arch.specs.Step.{is_execute, is_send, with_sent, with_delivered}
use Rattle.lt_arch.specs.Times.{Times, sent_in}
use Rattle.lt_link.specs.Ports.{is_to}
use Rattle.lt_audit.specs.declared.hearing.Heard.{Heard}
use Rattle.lt_audit.specs.declared.miss.Miss.{Miss}
use Rattle.lt_audit.specs.Audit.{MemberState, LineState, AuditState, member_at, line_at, chan_at, kept_of, oldest}

abbrev pub audited_chan : List Chan → (c : ℕ) → Chan
audited_chan cs c = slice_index_or cs c no_chan

-- a channel leads to node n, or from it, and carries data, or acknowledgements
abbrev pub is_data_to : Chan → (n : ℕ) → Bool
is_data_to ch n = (ch.to == n) && is_data ch.kind

abbrev pub is_ack_to : Chan → (n : ℕ) → Bool
is_ack_to ch n = (ch.to == n) && not (is_data ch.kind)

abbrev pub is_data_from : Chan → (n : ℕ) → Bool
is_data_from ch n = (ch.from == n) && is_data ch.kind

abbrev pub is_ack_from : Chan → (n : ℕ) → Bool
is_ack_from ch n = (ch.from == n) && not (is_data ch.kind)

-- a deed of node n sends on a channel
abbrev pub is_sent_on : Protocol → (n : ℕ) → Deed → Chan → Bool
is_sent_on p n deed ch = (is_send deed && is_data_from ch n) || (is_execute deed && (is_back_pressure p && is_ack_from ch n))

-- channel c has delivered at least so many messages
abbrev pub has_delivered : List ChanState → (executed c : ℕ) → Bool
has_delivered ls executed c = nat_le executed (chan_at ls c).delivered

-- c is no such channel to node n, or it has delivered so many messages
abbrev pub delivered_or_other : List Chan → List ChanState → (n : ℕ) → Bool → (executed c : ℕ) → Bool
delivered_or_other cs ls n kind executed c = not (is_to cs n kind c) || has_delivered ls executed c

-- c is such a channel to node n, and it has delivered so many messages
abbrev pub delivered_one : List Chan → List ChanState → (n : ℕ) → Bool → (executed c : ℕ) → Bool
delivered_one cs ls n kind executed c = is_to cs n kind c && has_delivered ls executed c

-- what a node hears that has executed so many instants, of the channels below i
abbrev pub heard_below : List Chan → List ChanState → (n executed i : ℕ) → Heard
heard_below cs ls n executed i = record {
  all_in = all_below (λ c. not (is_data_to (audited_chan cs c) n) || has_delivered ls executed c) i;
  any_in = some_below (λ c. is_data_to (audited_chan cs c) n && has_delivered ls executed c) i;
  all_ack = all_below (λ c. not (is_ack_to (audited_chan cs c) n) || has_delivered ls executed c) i;
}

-- a node was activated
pub record MemberWakes (old new : MemberState) (heard : Heard) (rows : ℕ) (deed : Deed) : Type 0 where
  pub deed_is : deed ≡ deed_of old.phase heard.all_in heard.any_in heard.all_ack (nat_lt old.executed rows)
  pub protocol : new.protocol ≡ old.protocol
  pub send : new.send ≡ old.send
  pub execute : new.execute ≡ old.execute
  pub phase : new.phase ≡ phase_after old.send old.execute old.phase deed
  pub executed : new.executed ≡ (if is_execute deed then old.executed + 1 else old.executed)
  pub within : new.executed ≤ rows
  pub did : new.did ≡ deed

-- channels whose messages are the same, and in which there is no less room
pub record SameLines (old new : List LineState) : Type 0 where
  pub same_length : length new ≡ length old
  pub kept : map kept_of new ≡ map kept_of old
  pub grows : (c : ℕ) → (line_at old c).room ≤ (line_at new c).room

-- there is room on each channel from node n, below i
abbrev pub LinesHaveRoom : List Chan → List LineState → (n i : ℕ) → Type 0
LinesHaveRoom cs ls n i = (c : ℕ) → c < i → (audited_chan cs c).from ≡ n → 0 < (line_at ls c).room

-- there is room on each of these channels below i
abbrev pub HasRoomOn : (on : ℕ → Bool) → List LineState → (i : ℕ) → Type 0
HasRoomOn on ls i = (c : ℕ) → c < i → on c ≡ true → 0 < (line_at ls c).room

-- some channel from node n has no room left
pub record HasFullLine (cs : List Chan) (ls : List LineState) (n : ℕ) : Type 0 where
  pub chan : ℕ
  pub within : chan < length cs
  pub leads : (audited_chan cs chan).from ≡ n
  pub full : (line_at ls chan).room ≡ 0

-- a message was sent at a time on each of these channels below i, and the watch has the oldest of each channel
pub record SentBelow (on : ℕ → Bool) (at i : ℕ) (old new : List LineState) (w v : Times) : Type 0 where
  pub same_length : length new ≡ length old
  pub lines : (c : ℕ) → c < length old → kept_of (line_at new c) ≡ with_sent (nat_lt c i && on c) at (kept_of (line_at old c))
  pub room : (c : ℕ) → i ≤ c → (line_at new c).room ≡ (line_at old c).room
  pub watch : v ≡ record w { sends = v.sends }
  pub sends : length v.sends ≡ length w.sends
  pub oldest_are : (c : ℕ) → c < length old → sent_in v c ≡ oldest (line_at new c).transit

-- channel c brings data to a node that has executed so many instants, and has delivered another number of messages
abbrev pub is_off : List Chan → List ChanState → (n executed c : ℕ) → Bool
is_off cs ls n executed c = is_data_to (audited_chan cs c) n && not ((chan_at ls c).delivered == executed)

-- the lowest such channel, if there is one
abbrev pub IsLowestOff : List Chan → List ChanState → (n executed : ℕ) → Option ℕ → Type 0
IsLowestOff cs ls n executed None = (c : ℕ) → c < length cs → is_off cs ls n executed c ≡ false
IsLowestOff cs ls n executed (Some k) = (k < length cs) × (is_off cs ls n executed k ≡ true) × ((c : ℕ) → c < k → is_off cs ls n executed c ≡ false)

-- what is noted of an execution of node n, whose event has this number
pub record IsMissOf (cs : List Chan) (ls : List ChanState) (n executed number : ℕ) (m : Miss) : Type 0 where
  pub channel : IsLowestOff cs ls n executed (Some m.channel)
  pub event : m.event ≡ number
  pub node : m.node ≡ n
  pub instant : m.instant ≡ executed
  pub delivered : m.delivered ≡ (chan_at ls m.channel).delivered

-- what is noted of a deed of node n, where nothing was before: the miss of an execution, if it makes one
abbrev pub Notes : List Chan → List ChanState → (n executed number : ℕ) → Deed → Option Miss → Type 0
Notes cs ls n executed number Nothing found = found ≡ None
Notes cs ls n executed number Send found = found ≡ None
Notes cs ls n executed number Execute None = IsLowestOff cs ls n executed None
Notes cs ls n executed number Execute (Some m) = IsMissOf cs ls n executed number m

-- the first miss stays
abbrev pub NotesFirst : List Chan → List ChanState → (n executed number : ℕ) → Deed → (before after : Option Miss) → Type 0
NotesFirst cs ls n executed number deed (Some m) after = after ≡ Some m
NotesFirst cs ls n executed number deed None after = Notes cs ls n executed number deed after

-- the number of the next event, as far as a number of 32 bits goes
abbrev pub next_number : (taken : ℕ) → ℕ
next_number taken = min (taken + 1) (2 ^ 32 - 1)

-- node n is activated at a time
pub record AuditActs (a b : AuditState) (n at : ℕ) : Type 0 where
  pub shape : b.shape ≡ a.shape
  pub protocol : b.protocol ≡ a.protocol
  pub rows : b.rows ≡ a.rows
  pub deed : Deed
  pub woken : MemberState
  pub wakes : MemberWakes (member_at a.members n) woken (heard_below a.shape.channels a.chans n (member_at a.members n).executed (length a.shape.channels)) a.rows deed
  pub members : b.members ≡ slice_set a.members n woken
  pub chan_length : length b.chans ≡ length a.chans
  pub chan : (c : ℕ) → c < length a.chans → chan_at b.chans c ≡ with_sent (is_sent_on a.protocol n deed (audited_chan a.shape.channels c)) at (chan_at a.chans c)
  pub sends : List (Option ℕ)
  pub watch : b.watch ≡ record a.watch { lasts = slice_set a.watch.lasts n (Some at); sends = sends; latest = Some at }
  pub send_length : length sends ≡ length a.watch.sends
  pub oldest_are : (c : ℕ) → c < length a.chans → slice_index_or sends c None ≡ oldest (chan_at b.chans c).transit
  pub first : NotesFirst a.shape.channels a.chans n (member_at a.members n).executed (next_number a.taken) deed a.first b.first

-- channel c delivers its oldest message at a time
pub record AuditDelivers (a b : AuditState) (c at : ℕ) : Type 0 where
  pub shape : b.shape ≡ a.shape
  pub protocol : b.protocol ≡ a.protocol
  pub rows : b.rows ≡ a.rows
  pub members : b.members ≡ a.members
  pub chans : b.chans ≡ slice_set a.chans c (with_delivered (chan_at a.chans c) (chan_at a.chans c).transit)
  pub watch : b.watch ≡ record a.watch { sends = slice_set a.watch.sends c (oldest (chan_at b.chans c).transit); latest = Some at }
  pub first : b.first ≡ a.first

-- an event without an offence is taken
abbrev pub AuditTakes : AuditState → AuditState → Event → Type 0
AuditTakes a b (Act n at) = AuditActs a b n at
AuditTakes a b (Del c at) = AuditDelivers a b c at
AuditTakes a b (End at) = b ≡ record a { watch = record a.watch { latest = Some at; horizon = Some at }; taken = b.taken }
