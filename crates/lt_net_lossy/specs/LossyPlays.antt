-- What a net along a schedule over links that lose messages keeps.
use Rattle.std.specs.Prelude.{◌≡◌, ℕ, suc, ◌+◌, ◌<◌, ◌^◌, Bool, true, false, List, [], ◌∷◌, length, take, map, Option, Some, None, IsTrue, slice_get, slice_index_or}
use Rattle.lt_base.specs.declared.value.Value.{Value}
use Rattle.lt_base.specs.Inputs.{InputTable}
use Rattle.lt_arch.specs.declared.event.Event.TheVariants.{Act, Del, End}
use Rattle.lt_arch.specs.declared.shape.Shape.{Shape}
use Rattle.lt_arch.specs.declared.timing.Timing.{Timing}
use Rattle.lt_arch.specs.Readers.{node_count, chan_count, from_of, to_of, carries_data}
use Rattle.lt_io.specs.declared.message.Message.{Message}
use Rattle.lt_io.specs.FabricState.{FabricState, KeepsFabric}
use Rattle.lt_link.specs.Bits.{bit_of}
use Rattle.lt_lossy.specs.declared.event.LossyEvent.{LossyEvent}
use Rattle.lt_lossy.specs.declared.event.LossyEvent.TheVariants.{Plain, Lose}
use Rattle.lt_net_bench.specs.Given.{FitsPart}
use Rattle.lt_net_bench.specs.Own.{PayloadsAreOwn, AreFronts}
use Rattle.lt_net_node.specs.Payloads.{row_at}
use Rattle.lt_net_bench.specs.Standing.{HasOwnValues}
use Rattle.lt_place.specs.declared.layout.Layout.{Layout}
use Rattle.lt_lossy.specs.Schedule.{lossy_reached}
use Rattle.lt_net_lossy.specs.Event.{is_unread}
use Rattle.lt_net_lossy.specs.Net.{LossyBenchState, LossyLists}
use Rattle.lt_net_lossy.specs.NetModel.{LossyNetState}
use Rattle.lt_net_lossy.specs.Kept.{IsFixedLossy}
use Rattle.lt_net_lossy.specs.Laws.{StandsWith}
use Rattle.lt_net_lossy.specs.Taken.{HasLossyKinds, SameLossyStatic}
use Rattle.lt_net_start.specs.Reads.{CanRead}
use Rattle.lt_net.specs.declared.replayed.Replayed.{Replayed}
use Rattle.lt_net_lossy.specs.Holds.{AreSent}
use Rattle.lt_net_lossy.specs.Told.{fates_of, came, without_copies, messages_of, ExecutesAt, EndsInCopy}
use Rattle.lt_machine.specs.declared.machine.Machine.{Ghosts as Machines}
use Rattle.lt_arch.specs.declared.controller.Controller.{Ghosts as Controls}

-- the row of the acting node's next instant
abbrev pub lossy_row_for : {C M : Type 0} → LossyBenchState C M → List (List Value) → LossyEvent → Option (List Value)
lossy_row_for net inputs (Plain (Act n at)) = slice_get inputs (slice_index_or net.executed n 0)
lossy_row_for net inputs (Plain (Del c at)) = None
lossy_row_for net inputs (Plain (End at)) = None
lossy_row_for net inputs (Lose c at) = None

-- what is known of the whole play: the net is one of a placed program, and every row of inputs fits every part
pub record IsFedLossy {C M : Type 0} (net : LossyBenchState C M) (inputs : List (List Value)) : Type 0 where
  pub fixed : IsFixedLossy net.layout net.shape net.timing
  pub rows : net.rows ≡ length inputs
  pub counts : length net.executed ≡ node_count net.shape
  pub fit : (n k : ℕ) → n < node_count net.shape → k < length inputs → FitsPart net.layout n (row_at inputs k)
  pub few_nodes : node_count net.shape < 2 ^ 32
  pub few_channels : chan_count net.shape < 2 ^ 32

-- the bit of the last of these messages, and before the first one `last`
abbrev pub last_bit : (last : Bool) → List Message → Bool
last_bit last [] = last
last_bit last (m ∷ ms) = last_bit m.bit ms

-- what is told of one channel, by the fates of the messages that left it: so many new ones were delivered, and the last one that was delivered
-- has the bit of the newest number
pub record TellsAt (fates : List Bool) (newest : ℕ) (sent delivered transit : List Message) : Type 0 where
  pub taken : length delivered ≡ length fates
  pub counted : length (without_copies false (came fates delivered)) ≡ newest
  pub total : length sent ≡ length fates + length transit
  pub last : last_bit false (came fates delivered) ≡ bit_of newest

-- what is told of each channel
abbrev pub TellsEach : Shape → LossyLists → FabricState → Type 0
TellsEach s ls fabric = (c : ℕ) → c < chan_count s → TellsAt (fates_of c ls.events) (length (ls.got c)) (fabric.sent c) (fabric.delivered c) (fabric.transit c)

-- what is told of all channels
pub record TellsLossy (s : Shape) (t : Timing) (rows : ℕ) (ls : LossyLists) (fabric : FabricState) : Type 0 where
  pub each : TellsEach s ls fabric
  -- what instants that were executed ran on
  pub ran_on : (i n k : ℕ) → ExecutesAt s t rows ls.events i n (suc k) →
      (suc k < ((lossy_reached s t rows ls.events).node n).executed) × ((c : ℕ) → c < chan_count s → carries_data s c ≡ true → to_of s c ≡ n → EndsInCopy s t rows (take i ls.events) c (suc k) (fabric.delivered c) (slice_index_or (ls.got c) k []))
  -- and what the next ones would run on
  pub unread : (c k : ℕ) → c < chan_count s → is_unread s (lossy_reached s t rows ls.events) c ≡ true → length (ls.got c) ≡ suc k → EndsInCopy s t rows ls.events c (suc k) (fabric.delivered c) (slice_index_or (ls.got c) k [])

-- on channel c, if it carries data, the payload of message k + 1 has its sender's own values of instant k, which that has executed
abbrev pub IsOwnSoFar : Layout → Shape → LossyLists → (c k : ℕ) → List Value → Type 0
IsOwnSoFar l s ls c k payload =
    carries_data s c ≡ true → (k < length (ls.inputs (from_of s c))) × HasOwnValues l s ls.inputs ls.got (from_of s c) (to_of s c) k payload

-- what was sent on each channel
pub record SentSoFar (l : Layout) (s : Shape) (t : Timing) (rows : ℕ) (ls : LossyLists) (fabric : FabricState) : Type 0 where
  pub each : (c : ℕ) → c < chan_count s → AreSent (IsOwnSoFar l s ls c) (messages_of s t rows c ls.events) (fabric.sent c)

-- the net and its fabric stand for these lists, which are those of these events on these inputs
pub record KeepsLossy {C M : Type 0} (ctl : Controls C) (mch : Machines M) (inputs : List (List Value)) (read : List LossyEvent) (net : LossyBenchState C M) (fabric : FabricState) (ls : LossyLists) : Type 0 where
  pub stood : StandsWith ctl mch net ls fabric
  pub events : ls.events ≡ read
  pub fronts : AreFronts net.shape ls.inputs inputs
  pub kinds : HasLossyKinds net fabric
  pub own : IsTrue fabric.faithful → PayloadsAreOwn net.layout net.shape ls.inputs ls.got
  pub tells : IsTrue fabric.told → TellsLossy net.shape net.timing net.rows ls fabric
  pub sent : IsTrue fabric.told → SentSoFar net.layout net.shape net.timing net.rows ls fabric

-- the net runs, and stands for some lists of these events
pub record PlaysLossy {C M : Type 0} (ctl : Controls C) (mch : Machines M) (inputs : List (List Value)) (before : List LossyEvent) (net : LossyNetState C M) (fabric : FabricState) : Type 0 where
  pub running : net.stopped ≡ None
  pub fed : IsFedLossy net.bench inputs
  pub kept : (ls : LossyLists) × KeepsLossy ctl mch inputs before net.bench fabric ls

-- so it does on inputs that it can read
pub record IsPlayingLossy {C M : Type 0} (ctl : Controls C) (mch : Machines M) (inputs : InputTable) (width : ℕ) (room : List Value) (before : List LossyEvent) (net : LossyNetState C M) (fabric : FabricState) : Type 0 where
  pub reads : CanRead inputs width room
  pub plays : PlaysLossy ctl mch inputs.rows before net fabric

-- what no event changes
pub record KeepsLossyPlay {C M : Type 0} (old new : LossyNetState C M) (inputs later : List (List Value)) (fabric fabric' : FabricState) : Type 0 where
  pub fixed : SameLossyStatic old.bench new.bench
  pub inputs_are : later ≡ inputs
  pub fabric_kept : KeepsFabric fabric fabric'
  -- the count of a sound fabric stays
  pub steady : IsTrue fabric.sound → fabric'.faults ≡ fabric.faults

-- what is taken from a net: the cells of its outputs, its horizon, its machines and its layout
pub record IsTakenFrom {C M : Type 0} (net : LossyBenchState C M) (taken : Replayed M) : Type 0 where
  pub cells : taken.cells ≡ map (λ track. track.cells) net.tracks
  pub horizon : net.watch.horizon ≡ Some taken.horizon
  pub machines : taken.machines ≡ net.machines
  pub layout : taken.layout ≡ net.layout
