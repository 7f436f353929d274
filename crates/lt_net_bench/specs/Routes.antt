-- Where values go, and what is put there.
use Rattle.std.specs.Prelude.{◌≡◌, ℕ, zero, suc, ◌<◌, ◌==◌, Bool, true, false, List, [], ◌∷◌, ◌++◌, length, Some, slice_get, slice_index_or, slice_set}
use Rattle.lt_base.specs.declared.value.Value.{Value}
use Rattle.lt_base.specs.declared.value.Cell.{Cell}
use Rattle.lt_base.specs.declared.value.Cell.TheVariants.{Absent, Here}
use Rattle.lt_arch.specs.declared.shape.Shape.{Shape}
use Rattle.lt_place_reads.specs.declared.crossing.Crossing.{Crossing}
use Rattle.lt_place.specs.declared.layout.Layout.{Layout}
use Rattle.lt_place.specs.Layout.{part_of, crossing_of, no_crossing}
use Rattle.lt_net_node.specs.declared.route.Route.{Route}
use Rattle.lt_net_bench.specs.declared.exit.Exit.{Exit}
use Rattle.lt_net_node.specs.Layout.{crossing_place}
use Rattle.lt_net_node.specs.Payloads.{channel_between}
use Rattle.lt_net_node.specs.Fed.{route_of}
use Rattle.lt_net_bench.specs.Track.{TrackState, track_at}

-- past the last exit
abbrev pub no_exit : Exit
no_exit = record { node = 0; out = 0 }

-- the exit of output y
abbrev pub exit_of : List Exit → (y : ℕ) → Exit
exit_of exits y = slice_index_or exits y no_exit

-- a route for each crossing
pub record AreRoutes (l : Layout) (s : Shape) (routes : List Route) : Type 0 where
  pub size : length routes ≡ length l.cross
  pub outs : (c : ℕ) → c < length l.cross → slice_get (part_of l (crossing_of l c).from).outs (route_of routes c).out ≡ Some (crossing_of l c).var
  pub channels : (c : ℕ) → c < length l.cross → (route_of routes c).channel ≡ channel_between s (crossing_of l c).from (crossing_of l c).to
  pub places : (c : ℕ) → c < length l.cross → (route_of routes c).place ≡ crossing_place l c

-- an exit for each output
pub record AreExits (l : Layout) (exits : List Exit) : Type 0 where
  pub size : length exits ≡ length l.outs
  pub nodes : (y : ℕ) → y < length l.outs → (exit_of exits y).node < length l.nodes
  pub outs : (y : ℕ) → y < length l.outs → slice_get (part_of l (exit_of exits y).node).outs (exit_of exits y).out ≡ Some (slice_index_or l.outs y 0)

-- a cell's value is put into the payload of a channel, if the cell has one
abbrev pub put_cell : Cell → (channel place : ℕ) → List (List Value) → List (List Value)
put_cell Absent channel place ps = ps
put_cell (Here v) channel place ps = slice_set ps channel (slice_set (slice_index_or ps channel []) place v)

-- the payloads with a crossing's value, if the node sends it
abbrev pub put_if : Bool → (outs : List Cell) → Route → List (List Value) → List (List Value)
put_if false outs r ps = ps
put_if true outs r ps = put_cell (slice_index_or outs r.out Absent) r.channel r.place ps

-- the payloads with the values of the first n crossings that node i sends
abbrev pub filled : List Crossing → List Route → (i : ℕ) → (outs : List Cell) → (n : ℕ) → List (List Value) → List (List Value)
filled cross routes i outs zero ps = ps
filled cross routes i outs (suc c) ps = put_if ((slice_index_or cross c no_crossing).from == i) outs (route_of routes c) (filled cross routes i outs c ps)

-- the tracks with an output's cell, if the node gives it out
abbrev pub push_cell_if : Bool → (y : ℕ) → Cell → List TrackState → List TrackState
push_cell_if false y cell ts = ts
push_cell_if true y cell ts = slice_set ts y (record (track_at ts y) { cells = (track_at ts y).cells ++ cell ∷ [] })

-- the tracks with the cells of the first n outputs, where node i gives them out
abbrev pub tracked : List Exit → (i : ℕ) → (outs : List Cell) → (n : ℕ) → List TrackState → List TrackState
tracked exits i outs zero ts = ts
tracked exits i outs (suc y) ts = push_cell_if ((exit_of exits y).node == i) y (slice_index_or outs (exit_of exits y).out Absent) (tracked exits i outs y ts)

-- What a step needs of the tables.

-- the route of each crossing that node i sends has one of so many outputs
abbrev pub RoutesHaveOuts : List Crossing → List Route → (i outs : ℕ) → Type 0
RoutesHaveOuts cross routes i outs = (c : ℕ) → c < length cross → ((slice_index_or cross c no_crossing).from == i) ≡ true → (route_of routes c).out < outs

-- it leads to one of these payloads
abbrev pub RoutesHaveChannels : List Crossing → List Route → (i : ℕ) → List (List Value) → Type 0
RoutesHaveChannels cross routes i ps = (c : ℕ) → c < length cross → ((slice_index_or cross c no_crossing).from == i) ≡ true → (route_of routes c).channel < length ps

-- and to a place in it
abbrev pub RoutesHavePlaces : List Crossing → List Route → (i : ℕ) → List (List Value) → Type 0
RoutesHavePlaces cross routes i ps =
    (c : ℕ) → c < length cross → ((slice_index_or cross c no_crossing).from == i) ≡ true → (route_of routes c).place < length (slice_index_or ps (route_of routes c).channel [])

-- each exit of node i has one of so many outputs
abbrev pub ExitsHaveOuts : List Exit → (i outs : ℕ) → Type 0
ExitsHaveOuts exits i outs = (y : ℕ) → y < length exits → ((exit_of exits y).node == i) ≡ true → (exit_of exits y).out < outs

-- and a track with room for a cell
abbrev pub ExitsHaveRoom : List Exit → (i : ℕ) → List TrackState → Type 0
ExitsHaveRoom exits i ts = (y : ℕ) → y < length exits → ((exit_of exits y).node == i) ≡ true → length (track_at ts y).cells < (track_at ts y).room
