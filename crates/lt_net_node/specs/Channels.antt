-- The channels of a layout.
use Rattle.std.specs.Prelude.{◌≡◌, ◌⊎◌, ℕ, zero, suc, ◌<◌, ◌≤◌, ◌*◌, ◌==◌, Bool, true, false, not, List, [], ◌∷◌, ◌++◌, length, AllPairs}
use Rattle.std.specs.List.{list_any}
use Rattle.lt_arch.specs.declared.chan.Chan.{Chan}
use Rattle.lt_arch.specs.declared.chan.ChanKind.{ChanKind}
use Rattle.lt_arch.specs.declared.chan.ChanKind.TheVariants.{Data, Ack}
use Rattle.lt_arch.specs.declared.timing.Protocol.{Protocol}
use Rattle.lt_arch.specs.declared.timing.Timing.{Timing}
use Rattle.lt_arch.specs.declared.timing.Protocol.TheVariants.{BackPressure, TimeBased}
use Rattle.lt_arch.specs.declared.shape.Shape.{Shape}
use Rattle.lt_arch.specs.Readers.{node_count, chan_count, from_of, to_of, carries_data}
use Rattle.lt_arch.specs.Shapes.{IsBackPressureShape, IsTimeBasedShape, HaveSameNodes}
use Rattle.lt_norm.specs.Flat.{Originated}
use Rattle.lt_place_reads.specs.declared.crossing.Crossing.{Crossing}
use Rattle.lt_place.specs.declared.layout.Layout.{Layout}
use Rattle.lt_place.specs.Layout.{IsPlaced, crossing_of}
use Rattle.lt_net_node.specs.Layout.{joins}
use Rattle.lt_net_node.specs.Payloads.{channel_between, types_for}

-- from which node to which there is a channel of a kind. Under back-pressure there is one for data where something crosses, and one for
-- acknowledgements the other way. Under the time-based protocol there is one for data from each node to each other, and no other
abbrev pub has_channel : List Crossing → Protocol → ChanKind → (i j : ℕ) → Bool
has_channel cross BackPressure Data i j = list_any (joins i j) cross
has_channel cross BackPressure Ack i j = list_any (joins j i) cross
has_channel cross TimeBased Data i j = not (i == j)
has_channel cross TimeBased Ack i j = false

-- a channel of a kind from node i to node j
abbrev pub channel : ChanKind → (i j : ℕ) → Chan
channel kind i j = record { from = i; to = j; kind = kind }

-- a list with one more channel at its end, or as it was
abbrev pub push_channel_if : Bool → Chan → List Chan → List Chan
push_channel_if true ch cs = cs ++ ch ∷ []
push_channel_if false ch cs = cs

-- a list, and then the channels of a kind from node i to the nodes below n
abbrev pub chans_from : (has : ChanKind → ℕ → ℕ → Bool) (kind : ChanKind) (i n : ℕ) → List Chan → List Chan
chans_from has kind i zero cs = cs
chans_from has kind i (suc j) cs = push_channel_if (has kind i j) (channel kind i j) (chans_from has kind i j cs)

-- a list, and then the channels of a kind from the nodes below m, each to nodes below n
abbrev pub chans_below : (has : ChanKind → ℕ → ℕ → Bool) (kind : ChanKind) (n m : ℕ) → List Chan → List Chan
chans_below has kind n zero cs = cs
chans_below has kind n (suc i) cs = chans_from has kind i n (chans_below has kind n i cs)

-- those for data by sender and then by receiver, and those for acknowledgements after them
abbrev pub all_chans : (has : ChanKind → ℕ → ℕ → Bool) (n : ℕ) → List Chan
all_chans has n = chans_below has Ack n n (chans_below has Data n n [])

-- the channels of a layout's shape under a protocol, in order
abbrev pub channels_of : Layout → Protocol → List Chan
channels_of l p = all_chans (has_channel l.cross p) (length l.names)

-- the shape of a layout under a protocol
pub record IsShapeOf (l : Layout) (p : Protocol) (s : Shape) : Type 0 where
  pub nodes : s.nodes ≡ l.names
  pub channels : s.channels ≡ channels_of l p

-- In which order channels stand.

-- data stands before acknowledgements
abbrev pub kind_rank : ChanKind → ℕ
kind_rank Data = 0
kind_rank Ack = 1

-- the channel stands before those of a kind from node i to node j
abbrev pub StandsBefore : ChanKind → (i j : ℕ) → Chan → Type 0
StandsBefore kind i j ch = (kind_rank ch.kind < kind_rank kind) ⊎ ((kind_rank ch.kind ≡ kind_rank kind) × ((ch.from < i) ⊎ ((ch.from ≡ i) × (ch.to < j))))

-- channel a stands before channel b
abbrev pub IsBefore : Chan → Chan → Type 0
IsBefore a b = StandsBefore b.kind b.from b.to a

-- What follows of the shape of a layout.

-- something crosses between the ends of channel c
abbrev pub IsCrossed : Layout → Shape → (c : ℕ) → Type 0
IsCrossed l s c = (k : ℕ) × (k < length l.cross) × ((crossing_of l k).from ≡ from_of s c) × ((crossing_of l k).to ≡ to_of s c)

-- each crossing has its data channel
pub record HasChannels (l : Layout) (s : Shape) : Type 0 where
  pub nodes : node_count s ≡ length l.nodes
  pub ends : (c : ℕ) → c < chan_count s → from_of s c < length l.nodes
  pub there : (c : ℕ) → c < length l.cross → channel_between s (crossing_of l c).from (crossing_of l c).to < chan_count s
  pub carries : (c : ℕ) → c < length l.cross → carries_data s (channel_between s (crossing_of l c).from (crossing_of l c).to) ≡ true
  -- an ordered pair of nodes has at most one data channel
  pub once : (c d : ℕ) → c < chan_count s → d < chan_count s → carries_data s c ≡ true → carries_data s d ≡ true → from_of s c ≡ from_of s d → to_of s c ≡ to_of s d → c ≡ d
  pub from : (c : ℕ) → c < length l.cross → from_of s (channel_between s (crossing_of l c).from (crossing_of l c).to) ≡ (crossing_of l c).from
  pub to : (c : ℕ) → c < length l.cross → to_of s (channel_between s (crossing_of l c).from (crossing_of l c).to) ≡ (crossing_of l c).to

-- what a net over the layout, and the protocol, ask of the shape
pub record FitsLayout (l : Layout) (p : Protocol) (s : Shape) : Type 0 where
  -- each crossing has its data channel, and an ordered pair of nodes has at most one
  pub channels : HasChannels l s
  -- a timing of as many nodes as the layout has is one for the shape
  pub timed : (t : Timing) → length t.nodes ≡ length l.names → HaveSameNodes s t
  -- each data channel has its acknowledgement channel, and each of these its data channel
  pub back_pressure : p ≡ BackPressure → IsBackPressureShape s
  -- under the time-based protocol there is no acknowledgement channel
  pub only_data : p ≡ TimeBased → (c : ℕ) → c < chan_count s → carries_data s c ≡ true
  -- under back-pressure there is a data channel only where something crosses
  pub crossed : p ≡ BackPressure → (c : ℕ) → c < chan_count s → carries_data s c ≡ true → IsCrossed l s c
  -- data channels come first, by sender and then receiver, and then the acknowledgement channels, by their own
  pub ordered : AllPairs IsBefore s.channels
  -- each kind has at most one for each ordered pair of nodes
  pub few : chan_count s ≤ 2 * (length l.names * length l.names)
  -- where nothing crosses the payload is empty
  pub empty : (c : ℕ) → (IsCrossed l s c → ⊥) → types_for l s c ≡ []

-- the shape of a placed layout fits it, and under the time-based protocol there is a data channel from each node to each other
abbrev pub ShapesFit : Type 0
ShapesFit = (f : Originated) (l : Layout) (p : Protocol) (s : Shape) → IsPlaced f l → IsShapeOf l p s → FitsLayout l p s × (p ≡ TimeBased → IsTimeBasedShape s)
