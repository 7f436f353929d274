-- What an auditor holds.
use Rattle.std.specs.Prelude.{◌≡◌, ℕ, ◌+◌, ◌-◌, ◌*◌, ◌^◌, ◌<◌, ◌≤◌, List, [], ◌∷◌, length, Option, Some, None, All, Bool, slice_index_or, if◌then◌else◌}
use Rattle.lt_arch.specs.declared.event.Deed.{Deed}
use Rattle.lt_arch.specs.declared.event.Deed.TheVariants.{Nothing}
use Rattle.lt_arch.specs.declared.limits.TheConstants.{GREATEST_TIME}
use Rattle.lt_arch.specs.declared.timing.Protocol.{Protocol}
use Rattle.lt_arch.specs.declared.timing.Protocol.TheVariants.{BackPressure}
use Rattle.lt_arch.specs.declared.shape.Shape.{Shape}
use Rattle.lt_arch.specs.State.{Phase, Wait, ChanState, unsent}
use Rattle.lt_arch.specs.Readers.{node_count, chan_count, from_of, carries_data}
use Rattle.lt_arch.specs.Times.{Times, sent_in}
use Rattle.lt_audit.specs.declared.miss.Miss.{Miss}

-- a node: its controller's protocol, countdowns and phase, how many instants it has executed, and what it did when it was activated last
pub record MemberState : Type 0 where
  pub protocol : Protocol
  pub send : ℕ
  pub execute : ℕ
  pub phase : Phase
  pub executed : ℕ
  pub did : Deed

-- a channel: how many messages it has delivered, the send times of those in transit, and for how many more there is room
pub record LineState : Type 0 where
  pub delivered : ℕ
  pub transit : List ℕ
  pub room : ℕ

-- what counts of a channel
abbrev pub kept_of : LineState → ChanState
kept_of line = record { delivered = line.delivered; transit = line.transit }

pub record AuditState : Type 0 where
  pub shape : Shape
  pub protocol : Protocol
  pub rows : ℕ
  -- the times of activations, and of the oldest message in transit on each channel
  pub watch : Times
  pub members : List MemberState
  pub chans : List ChanState
  -- how many events were taken, as far as a number of 32 bits goes
  pub taken : ℕ
  pub first : Option Miss

-- past the last node and channel nothing is said
abbrev pub no_member : MemberState
no_member = record { protocol = BackPressure; send = 0; execute = 0; phase = Wait; executed = 0; did = Nothing }

abbrev pub no_line : LineState
no_line = record { delivered = 0; transit = []; room = 0 }

abbrev pub no_chan_state : ChanState
no_chan_state = record { delivered = 0; transit = [] }

abbrev pub member_at : List MemberState → (n : ℕ) → MemberState
member_at ms n = slice_index_or ms n no_member

abbrev pub line_at : List LineState → (c : ℕ) → LineState
line_at ls c = slice_index_or ls c no_line

abbrev pub chan_at : List ChanState → (c : ℕ) → ChanState
chan_at cs c = slice_index_or cs c no_chan_state

-- the send time of the oldest message in transit
abbrev pub oldest : List ℕ → Option ℕ
oldest [] = None
oldest (sent ∷ later) = Some sent

-- how many messages a node has sent on a channel: of data one for each send, of acknowledgements one for each instant
abbrev pub sent_by_member : MemberState → (is_data : Bool) → ℕ
sent_by_member m is_data = if is_data then m.executed - unsent m.phase else m.executed

-- what it keeps
pub record IsKeptAudit (a : AuditState) : Type 0 where
  pub numbered : 2 * (node_count a.shape + chan_count a.shape) < 2 ^ 32
  pub members : length a.members ≡ node_count a.shape
  pub chans : length a.chans ≡ chan_count a.shape
  pub lasts : length a.watch.lasts ≡ node_count a.shape
  pub sends : length a.watch.sends ≡ chan_count a.shape
  -- no node has executed more instants than there are input rows, nor sent more often than executed
  pub within : (n : ℕ) → n < node_count a.shape → (member_at a.members n).executed ≤ a.rows
  pub unsent : (n : ℕ) → n < node_count a.shape → unsent (member_at a.members n).phase ≤ (member_at a.members n).executed
  pub rows_fit : a.rows < 2 ^ 32
  -- the watch has the oldest message of each channel
  pub oldest_are : (c : ℕ) → c < chan_count a.shape → sent_in a.watch c ≡ oldest (chan_at a.chans c).transit
  pub timely : (c : ℕ) → c < chan_count a.shape → All (λ at. at ≤ GREATEST_TIME) (chan_at a.chans c).transit
  -- no more messages are delivered or in transit than were sent
  pub counted : (c : ℕ) → c < chan_count a.shape → (chan_at a.chans c).delivered + length (chan_at a.chans c).transit ≤ sent_by_member (member_at a.members (from_of a.shape c)) (carries_data a.shape c)
  pub taken_fits : a.taken < 2 ^ 32
