-- What a node and a channel have before the first event.
use Rattle.std.specs.Prelude.{◌≡◌, ℕ, ◌≤◌, ◌==◌, Bool, false, List, [], length, map, filter, take, position, unwrap_or, Some, slice_get, slice_index_or, if◌then◌else◌}
use Rattle.std.specs.List.{list_any, count_by}
use Rattle.lt_base.specs.declared.value.Value.{Value}
use Rattle.lt_base.specs.declared.value.Ty.{Ty}
use Rattle.lt_base.specs.Value.{ty_of}
use Rattle.lt_arch.specs.declared.chan.Chan.{Chan}
use Rattle.lt_arch.specs.declared.shape.Shape.{Shape}
use Rattle.lt_arch.specs.declared.timing.Timing.{Timing}
use Rattle.lt_arch.specs.Greatest.{greatest}
use Rattle.lt_arch.specs.State.{first_phase}
use Rattle.lt_arch.specs.Readers.{node_count, is_data}
use Rattle.lt_link.specs.Inbox.{InboxState}
use Rattle.lt_place_reads.specs.declared.crossing.Crossing.{Crossing}
use Rattle.lt_place.specs.declared.layout.Part.{Part}
use Rattle.lt_place.specs.declared.layout.Layout.{Layout}
use Rattle.lt_place.specs.Layout.{part_of, no_part, no_crossing}
use Rattle.lt_net_node.specs.declared.route.Route.{Route}
use Rattle.lt_net_bench.specs.declared.exit.Exit.{Exit}
use Rattle.lt_net_node.specs.Layout.{joins}
use Rattle.lt_net_node.specs.Payloads.{carries_between}
use Rattle.lt_net_bench.specs.Track.{TrackState}
use Rattle.lt_machine.specs.declared.machine.Machine.{Ghosts as Machines}
use Rattle.lt_arch.specs.declared.controller.Controller.{Ghosts as Controls}

-- The messages before the first ones.

-- the literals of what crosses on a channel, in order, and none on an acknowledgement channel
abbrev pub literals_on : List Crossing → Chan → List Value
literals_on cross ch = if is_data ch.kind then map (λ cr. cr.first) (filter (joins ch.from ch.to) cross) else []

-- their types
abbrev pub types_on : List Crossing → Chan → List Ty
types_on cross ch = map ty_of (literals_on cross ch)

-- the types of the payloads of all channels
abbrev pub kinds_for : Layout → Shape → List (List Ty)
kinds_for l s = map (types_on l.cross) s.channels

-- an inbox with these literals, which are fresh on a data channel
abbrev pub first_inbox : List Crossing → Chan → InboxState
first_inbox cross ch = record { payload = literals_on cross ch; bit = false; read = is_data ch.kind }

-- Where values go.

-- the place of a variable among those that a part gives out
abbrev pub place_among : List ℕ → (v : ℕ) → ℕ
place_among outs v = unwrap_or (position (λ u. u == v) outs) 0

-- the data channel between two nodes
abbrev pub between_in : List Chan → (i j : ℕ) → ℕ
between_in cs i j = unwrap_or (position (carries_between i j) cs) (length cs)

-- the route of a crossing behind those that stand before it
abbrev pub route_for : List Part → List Chan → (earlier : List Crossing) → Crossing → Route
route_for nodes cs earlier cr =
    record { out = place_among (slice_index_or nodes cr.from no_part).outs cr.var; channel = between_in cs cr.from cr.to; place = count_by (joins cr.from cr.to) earlier }

-- the route of crossing c of a layout
abbrev pub route_to : Layout → List Chan → (c : ℕ) → Route
route_to l cs c = route_for l.nodes cs (take c l.cross) (slice_index_or l.cross c no_crossing)

-- a part gives a variable out
abbrev pub gives_out : (v : ℕ) → Part → Bool
gives_out v q = list_any (λ u. u == v) q.outs

-- the first node whose part gives it out
abbrev pub giver : List Part → (v : ℕ) → ℕ
giver nodes v = unwrap_or (position (gives_out v) nodes) 0

-- the exit of an output
abbrev pub exit_for : List Part → (v : ℕ) → Exit
exit_for nodes v = record { node = giver nodes v; out = place_among (slice_index_or nodes (giver nodes v) no_part).outs v }

-- Room.

-- as many values as the widest part is fed with, and as many as may cross on a channel
abbrev pub most_fed : List Part → ℕ
most_fed nodes = greatest (λ n. length (slice_index_or nodes n no_part).feeds) (length nodes)

-- as many cells as the widest part gives out
abbrev pub most_given : List Part → ℕ
most_given nodes = greatest (λ n. length (slice_index_or nodes n no_part).outs) (length nodes)

-- no cells, with room for one a row and no more
pub record IsBlank (rows : ℕ) (t : TrackState) : Type 0 where
  pub empty : t.cells ≡ []
  pub room : t.room ≡ rows

-- Machines and controllers.

-- one machine for each node, of its part: it has made no step, and has one left for each row
pub record AreReady {M : Type 0} (mch : Machines M) (l : Layout) (rows : ℕ) (ms : List M) : Type 0 where
  pub count : length ms ≡ length l.nodes
  pub stand : (n : ℕ) (m : M) → slice_get ms n ≡ Some m → mch.stands m (part_of l n).flat.func []
  pub unmade : (n : ℕ) (m : M) → slice_get ms n ≡ Some m → mch.made m ≡ 0
  pub enough : (n : ℕ) (m : M) → slice_get ms n ≡ Some m → rows ≤ mch.left m

-- one controller for each node, at the protocol's start
pub record ControllersAreAtStart {C : Type 0} (ctl : Controls C) (s : Shape) (t : Timing) (cs : List C) : Type 0 where
  pub count : length cs ≡ node_count s
  pub phases : (n : ℕ) (c : C) → slice_get cs n ≡ Some c → ctl.phase c ≡ first_phase t.protocol
