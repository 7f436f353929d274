-- Which channel joins two nodes, and what it carries.
use Rattle.std.specs.Prelude.{ℕ, zero, suc, Bool, ◌&&◌, ◌==◌, List, [], length, if◌then◌else◌, slice_index_or, position, unwrap_or, map, filter}
use Rattle.lt_base.specs.declared.value.Value.{Value}
use Rattle.lt_base.specs.declared.value.Ty.{Ty}
use Rattle.lt_base.specs.Value.{ty_of}
use Rattle.lt_arch.specs.declared.shape.Shape.{Shape}
use Rattle.lt_arch.specs.declared.chan.Chan.{Chan}
use Rattle.lt_arch.specs.Readers.{is_data, from_of, to_of, carries_data}
use Rattle.lt_place.specs.declared.layout.Layout.{Layout}
use Rattle.lt_net_node.specs.Layout.{joins}
use Rattle.lt_net_node.specs.Local.{Messages}

-- a channel carries data from node i to node j
abbrev pub carries_between : ℕ → ℕ → Chan → Bool
carries_between i j ch = is_data ch.kind && ((ch.from == i) && (ch.to == j))

-- the data channel between two nodes
unfoldable pub channel_between : Shape → ℕ → ℕ → ℕ
channel_between s i j = unwrap_or (position (carries_between i j) s.channels) (length s.channels)

-- the payloads between two nodes
abbrev pub payloads_between : Shape → (ℕ → List (List Value)) → Messages
payloads_between s got i j = got (channel_between s i j)

-- the row of instant k, and past the last one no values
abbrev pub row_at : List (List Value) → ℕ → List Value
row_at rows k = slice_index_or rows k []

-- message number k of a data channel, where number 0 are the literals of its crossings
abbrev pub message_of : Layout → Shape → (ℕ → List (List Value)) → ℕ → ℕ → List Value
message_of l s got c zero = map (λ cr. cr.first) (filter (joins (from_of s c) (to_of s c)) l.cross)
message_of l s got c (suc k) = slice_index_or (got c) k []

-- the types of the payloads of a channel: those of its crossings, in order, and none on an acknowledgement channel
abbrev pub types_for : Layout → Shape → (c : ℕ) → List Ty
types_for l s c = if carries_data s c then map (λ cr. ty_of cr.first) (filter (joins (from_of s c) (to_of s c)) l.cross) else []
