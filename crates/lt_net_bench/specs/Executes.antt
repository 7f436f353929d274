-- Where the outputs of a step go; a node that runs its next instant.
use Rattle.std.specs.Prelude.{◌≡◌, ℕ, ◌+◌, ◌<◌, ◌≤◌, ◌==◌, true, List, [], length, map, Some, slice_get, slice_index_or, slice_set}
use Rattle.lt_base.specs.declared.value.Value.{Value}
use Rattle.lt_base.specs.declared.value.Cell.{Cell}
use Rattle.lt_net_node.specs.Steps.{MachineSteps}
use Rattle.lt_net_node.specs.Wakes.{Bits, bits_of}
use Rattle.lt_place_reads.specs.declared.crossing.Crossing.{Crossing}
use Rattle.lt_place.specs.declared.layout.Feed.{Feed}
use Rattle.lt_place.specs.declared.layout.Part.{Part}
use Rattle.lt_link.specs.Inbox.{InboxState}
use Rattle.lt_place.specs.Layout.{part_of, no_crossing}
use Rattle.lt_net_node.specs.Freshness.{TakenUpTo}
use Rattle.lt_link.specs.Ports.{is_to, HasPorts}
use Rattle.lt_net_bench.specs.Bench.{BenchState}
use Rattle.lt_net_node.specs.Fed.{route_of, fed_by, CanFeed}
use Rattle.lt_net_bench.specs.Routes.{exit_of, filled, tracked}
use Rattle.lt_net_bench.specs.Track.{TrackState, track_at}
use Rattle.lt_net_node.specs.declared.route.Route.{Route}
use Rattle.lt_net_bench.specs.declared.exit.Exit.{Exit}
use Rattle.lt_machine.specs.declared.machine.Machine.{Ghosts as Machines}

-- a machine made a step, and what it gave out was put into payloads and tracks
pub record MachineRuns {M : Type 0} (mch : Machines M) (before after : M) (ins : List Value) (many : ℕ) (cross : List Crossing) (routes : List Route) (exits : List Exit) (i : ℕ)
    (buffers buffers' : List (List Value)) (tracks tracks' : List TrackState) : Type 0 where
  pub outs : List Cell
  pub count : length outs ≡ many
  pub steps : MachineSteps mch before after ins outs
  pub buffers_are : buffers' ≡ filled cross routes i outs (length cross) buffers
  pub tracks_are : tracks' ≡ tracked exits i outs (length exits) tracks

-- a part's machine made a step on what the part is fed with, on this row and by these inboxes, and its outputs were put where they go
abbrev pub PartRuns : {M : Type 0} (mch : Machines M) → Part → List Crossing → List Route → List Exit → List InboxState → (row : List Value) → (i : ℕ) →
    (before after : M) → (buffers buffers' : List (List Value)) → (tracks tracks' : List TrackState) → Type 0
PartRuns mch part cross routes exits inboxes row i before after buffers buffers' tracks tracks' =
    MachineRuns mch before after (map (fed_by routes inboxes row) part.feeds) (length part.outs) cross routes exits i buffers buffers' tracks tracks'

-- what node n's controller is told
abbrev pub bits_at : {C M : Type 0} → BenchState C M → (n : ℕ) → Bits
bits_at p n = bits_of p.shape.channels p.inboxes p.executed p.rows n

-- what a node's part is fed with
abbrev pub ins_of : {C M : Type 0} → BenchState C M → (n : ℕ) → (row : List Value) → List Value
ins_of p n row = map (fed_by p.routes p.inboxes row) (part_of p.layout n).feeds

-- node n can run an instant on this row: its machine has a step left and is as wide as the part, and all that it is fed with is
-- there, as is room for all that it gives out
pub record CanExecute {C M : Type 0} (mch : Machines M) (p : BenchState C M) (n : ℕ) (row : List Value) : Type 0 where
  pub node : n < length p.layout.nodes
  pub machine : n < length p.machines
  pub count : n < length p.executed
  pub more : slice_index_or p.executed n 0 < p.rows
  pub has_left : (m : M) → slice_get p.machines n ≡ Some m → 0 < mch.left m
  pub wide : (m : M) → slice_get p.machines n ≡ Some m → mch.inputs m ≡ length (part_of p.layout n).feeds
  pub long : (m : M) → slice_get p.machines n ≡ Some m → mch.outputs m ≡ length (part_of p.layout n).outs
  pub room : length (part_of p.layout n).feeds ≤ p.values
  pub room_out : length (part_of p.layout n).outs ≤ p.outs
  pub feeds : (x : ℕ) (d : Feed) → slice_get (part_of p.layout n).feeds x ≡ Some d → CanFeed p.routes p.inboxes row d
  pub routes : length p.routes ≡ length p.layout.cross
  pub crossing_outs : (c : ℕ) → c < length p.layout.cross → ((slice_index_or p.layout.cross c no_crossing).from == n) ≡ true → (route_of p.routes c).out < length (part_of p.layout n).outs
  pub channels : (c : ℕ) → c < length p.layout.cross → ((slice_index_or p.layout.cross c no_crossing).from == n) ≡ true → (route_of p.routes c).channel < length p.buffers
  pub places : (c : ℕ) → c < length p.layout.cross → ((slice_index_or p.layout.cross c no_crossing).from == n) ≡ true → (route_of p.routes c).place < length (slice_index_or p.buffers (route_of p.routes c).channel [])
  pub exits : length p.exits ≡ length p.tracks
  pub exit_outs : (y : ℕ) → y < length p.exits → ((exit_of p.exits y).node == n) ≡ true → (exit_of p.exits y).out < length (part_of p.layout n).outs
  pub track_room : (y : ℕ) → y < length p.exits → ((exit_of p.exits y).node == n) ≡ true → length (track_at p.tracks y).cells < (track_at p.tracks y).room
  pub inboxes : length p.inboxes ≡ length p.shape.channels
  pub ports : HasPorts p.shape.channels n p.ports

-- only what an instant changes is new: machines, counts, inboxes, payloads and cells
abbrev pub ChangesByInstant : {C M : Type 0} → (old new : BenchState C M) → Type 0
ChangesByInstant old new = new ≡ record old { machines = new.machines; executed = new.executed; inboxes = new.inboxes; buffers = new.buffers; tracks = new.tracks }

-- node n ran it
pub record Executes {C M : Type 0} (mch : Machines M) (old new : BenchState C M) (n : ℕ) (row : List Value) : Type 0 where
  pub before : M
  pub there : slice_get old.machines n ≡ Some before
  pub after : M
  pub outs : List Cell
  pub count : length outs ≡ length (part_of old.layout n).outs
  pub steps : MachineSteps mch before after (ins_of old n row) outs
  pub machines : new.machines ≡ slice_set old.machines n after
  pub executed : new.executed ≡ slice_set old.executed n (slice_index_or old.executed n 0 + 1)
  pub buffers : new.buffers ≡ filled old.layout.cross old.routes n outs (length old.layout.cross) old.buffers
  pub tracks : new.tracks ≡ tracked old.exits n outs (length old.exits) old.tracks
  pub taken : TakenUpTo (length old.shape.channels) (is_to old.shape.channels n true) old.inboxes new.inboxes
