-- Each event without an offence leaves a net that stands for the lists with its entries, and a fabric that has in transit what the next state says.
use Rattle.std.specs.Prelude.{◌≡◌, ℕ, ◌+◌, ◌<◌, false, List, [], ◌∷◌, length, Option, Some, slice_get, slice_set, take, slice_index_or}
use Rattle.lt_base.specs.declared.value.Value.{Value}
use Rattle.lt_base.specs.Meaning.{stream_of}
use Rattle.lt_arch.specs.declared.event.Deed.TheVariants.{Execute}
use Rattle.lt_arch.specs.declared.event.Event.TheVariants.{Act, Del, End}
use Rattle.lt_arch.specs.State.{NodeState}
use Rattle.lt_arch.specs.Readers.{node_count, chan_count}
use Rattle.lt_arch.specs.Step.{is_execute, woken}
use Rattle.lt_io.specs.declared.message.Message.{Message}
use Rattle.lt_io.specs.FabricState.{FabricState, Delivers}
use Rattle.lt_link.specs.Bits.{differ}
use Rattle.lt_link.specs.Inbox.{InboxState}
use Rattle.lt_lossy.specs.declared.event.LossyEvent.{LossyEvent}
use Rattle.lt_lossy.specs.declared.event.LossyEvent.TheVariants.{Plain, Lose}
use Rattle.lt_lossy.specs.State.{plain_of}
use Rattle.lt_lossy.specs.Events.{IsLossyPlacedIn}
use Rattle.lt_lossy.specs.Times.{LossyTimes, losses_at, without_oldest, with_losses, with_end}
use Rattle.lt_place.specs.Layout.{PartGives, part_of}
use Rattle.lt_net_node.specs.Acts.{takes_on, MarkedOn}
use Rattle.lt_net_bench.specs.Executes.{Executes}
use Rattle.lt_net_bench.specs.Given.{FitsPart}
use Rattle.lt_net_node.specs.Local.{local_stream}
use Rattle.lt_net_bench.specs.Own.{PayloadsAreOwn, AreFronts}
use Rattle.lt_net_node.specs.Payloads.{payloads_between, row_at}
use Rattle.lt_net_bench.specs.Bench.{BenchState}
use Rattle.lt_net_bench.specs.Room.{HasSpace}
use Rattle.lt_net_bench.specs.Track.{track_at}
use Rattle.lt_net_bench.specs.Whole.{RowsCoverInputs}
use Rattle.lt_net_lossy.specs.Net.{LossyBenchState, LossyLists, bench_of_lossy, lossy_state_of}
use Rattle.lt_net_lossy.specs.Stands.{StandsLossy}
use Rattle.lt_net_lossy.specs.Holds.{HoldsLossy, SendsLossy}
use Rattle.lt_net_lossy.specs.Event.{PassesLossy, LossyGoesOn, lossy_deed_by, brings_new}
use Rattle.lt_net_lossy.specs.Kept.{IsFixedLossy, HasLossySizes}
use Rattle.lt_net_lossy.specs.Receives.{with_latest}
use Rattle.lt_net_lossy.specs.Changes.{Posts, posts_on, sent_after, NotesAct, IsWoken}
use Rattle.lt_machine.specs.declared.machine.Machine.{Ghosts as Machines}
use Rattle.lt_arch.specs.declared.controller.Controller.{Ghosts as Controls}

-- node n after its activation
abbrev pub woken_in : {C M : Type 0} → LossyBenchState C M → LossyLists → (n at : ℕ) → NodeState
woken_in net ls n at = woken net.shape net.timing net.rows (plain_of (lossy_state_of net ls)) n at

-- a net that stands for lists, and a fabric that has in transit what their state says
pub record StandsWith {C M : Type 0} (ctl : Controls C) (mch : Machines M) (net : LossyBenchState C M) (ls : LossyLists) (fabric : FabricState) : Type 0 where
  pub standing : StandsLossy ctl mch net ls
  pub holds : HoldsLossy net ls fabric

-- what an activation of node n leaves, in which it sends again over a fabric
pub record KeepsAct {C M : Type 0} (ctl : Controls C) (mch : Machines M) (net : LossyBenchState C M) (ls next : LossyLists) (row : Option (List Value)) (fabric fabric' : FabricState) (n at : ℕ) : Type 0 where
  -- where it does not execute
  pub idle : is_execute (lossy_deed_by net ls (Plain (Act n at))) ≡ false → (w : LossyTimes) → NotesAct net.shape n at (woken_in net ls n at) net.watch w →
      (cs : List C) → IsWoken ctl n (woken_in net ls n at).phase net.controllers cs → (ibs : List InboxState) → MarkedOn (takes_on net.shape n (lossy_deed_by net ls (Plain (Act n at)))) net.inboxes ibs →
      (posted : List (List Value)) → Posts (posts_on net.shape n (lossy_deed_by net ls (Plain (Act n at)))) net.buffers net.posted posted → SendsLossy net.shape n (woken_in net ls n at) posted fabric fabric' →
      StandsWith ctl mch (record net { watch = w; controllers = cs; inboxes = ibs; sent = sent_after net.sent n (lossy_deed_by net ls (Plain (Act n at))); posted = posted }) next fabric'
  -- where it executes
  pub instant : lossy_deed_by net ls (Plain (Act n at)) ≡ Execute → (w : LossyTimes) → NotesAct net.shape n at (woken_in net ls n at) net.watch w →
      (cs : List C) → IsWoken ctl n (woken_in net ls n at).phase net.controllers cs → (input : List Value) → row ≡ Some input → FitsPart net.layout n input → HasSpace (bench_of_lossy net) →
      (mid : BenchState C M) (ex : Executes mch (record (bench_of_lossy net) { controllers = cs }) mid n input) → SendsLossy net.shape n (woken_in net ls n at) net.posted fabric fabric' →
      StandsWith ctl mch (record net { watch = w; controllers = cs; machines = slice_set net.machines n ex.after; executed = mid.executed; inboxes = mid.inboxes; tracks = mid.tracks; buffers = mid.buffers }) next fabric'

-- what a delivery of a message on channel ch leaves, whose inbox was b
pub record KeepsDel {C M : Type 0} (ctl : Controls C) (mch : Machines M) (net : LossyBenchState C M) (ls next : LossyLists) (payload : List Value) (fabric' : FabricState) (ch at : ℕ) (m : Message) (b : InboxState) : Type 0 where
  -- the message is new exactly where its bit differs from that of the inbox
  pub told : brings_new (lossy_state_of net ls) ch ≡ differ m.bit b.bit
  -- it goes into the inbox, unless it is a copy of one that was read
  pub arrival : payload ≡ m.payload →
      StandsWith ctl mch (record net { inboxes = slice_set net.inboxes ch (with_latest b payload m.bit); watch = with_losses (without_oldest net.watch ch at) ch 0 }) next fabric'

-- what every event leaves
pub record KeepsStanding {C M : Type 0} (ctl : Controls C) (mch : Machines M) (net : LossyBenchState C M) (ls next : LossyLists) (row : Option (List Value)) (payload : List Value) (fabric : FabricState) : Type 0 where
  pub activation : (n at : ℕ) (fabric' : FabricState) → PassesLossy net ls (Plain (Act n at)) → n < node_count net.shape → LossyGoesOn net ls next (Plain (Act n at)) row payload → KeepsAct ctl mch net ls next row fabric fabric' n at
  pub delivery : (ch at : ℕ) (m : Message) (fabric' : FabricState) (b : InboxState) → PassesLossy net ls (Plain (Del ch at)) → ch < chan_count net.shape → LossyGoesOn net ls next (Plain (Del ch at)) row payload → Delivers fabric fabric' ch m →
      slice_get net.inboxes ch ≡ Some b → KeepsDel ctl mch net ls next payload fabric' ch at m b
  -- a loss takes the message from the fabric, and drops it
  pub loss : (ch at : ℕ) (m : Message) (fabric' : FabricState) → PassesLossy net ls (Lose ch at) → ch < chan_count net.shape → LossyGoesOn net ls next (Lose ch at) row payload → Delivers fabric fabric' ch m →
      StandsWith ctl mch (record net { watch = with_losses (without_oldest net.watch ch at) ch (losses_at net.watch ch + 1) }) next fabric'
  pub ending : (at : ℕ) → PassesLossy net ls (Plain (End at)) → LossyGoesOn net ls next (Plain (End at)) row payload → StandsWith ctl mch (record net { watch = with_end net.watch at }) next fabric

-- where a net stands, and the fabric has in transit what its state says, both are so after every event without an offence
abbrev pub EventsKeep : {C M : Type 0} (ctl : Controls C) (mch : Machines M) → Type 0
EventsKeep {C} {M} ctl mch =
    (net : LossyBenchState C M) (ls next : LossyLists) (row : Option (List Value)) (payload : List Value) (fabric : FabricState) → IsFixedLossy net.layout net.shape net.timing → HasLossySizes net →
    StandsWith ctl mch net ls fabric → KeepsStanding ctl mch net ls next row payload fabric

-- Over a faithful fabric.

-- a delivery hands over the payload that is oldest in transit
abbrev pub BringsFrom : {C M : Type 0} → LossyBenchState C M → LossyLists → FabricState → LossyEvent → List Value → Type 0
BringsFrom net ls fabric (Plain (Act n at)) payload = Unit {0}
BringsFrom net ls fabric (Plain (Del ch at)) payload = (m : Message) × (later : List Message) × (fabric.transit ch ≡ m ∷ later) × (payload ≡ m.payload)
BringsFrom net ls fabric (Plain (End at)) payload = Unit {0}
BringsFrom net ls fabric (Lose ch at) payload = Unit {0}

-- the payloads that were delivered stay their senders' own
abbrev pub EventsKeepOwn : {C M : Type 0} (ctl : Controls C) (mch : Machines M) → Type 0
EventsKeepOwn {C} {M} ctl mch =
    (net : LossyBenchState C M) (ls next : LossyLists) (row : Option (List Value)) (payload : List Value) (fabric : FabricState) (e : LossyEvent) → IsFixedLossy net.layout net.shape net.timing →
    StandsWith ctl mch net ls fabric → PayloadsAreOwn net.layout net.shape ls.inputs ls.got → IsLossyPlacedIn net.shape e → LossyGoesOn net ls next e row payload → BringsFrom net ls fabric e payload →
    PayloadsAreOwn net.layout net.shape next.inputs next.got

-- and the cells of an output are then a front of its stream in the whole, as many as its node has executed instants
abbrev pub LossyCellsAreFronts : {C M : Type 0} (ctl : Controls C) (mch : Machines M) → Type 0
LossyCellsAreFronts {C} {M} ctl mch =
    (net : LossyBenchState C M) (ls : LossyLists) (fixed : IsFixedLossy net.layout net.shape net.timing) → StandsLossy ctl mch net ls → PayloadsAreOwn net.layout net.shape ls.inputs ls.got →
    (rows : List (List Value)) → RowsCoverInputs fixed.whole rows → AreFronts net.shape ls.inputs rows → (y n x : ℕ) → y < length net.layout.outs → n < length net.layout.nodes → PartGives (part_of net.layout n) (slice_index_or net.layout.outs y 0) x →
    (track_at net.tracks y).cells ≡ take ((lossy_state_of net ls).node n).executed (stream_of [] fixed.whole rows (slice_index_or net.layout.outs y 0))

-- what a node saw of a crossing at an executed instant, over any fabric: the literal at instant 0, and at instant k from then on the value of
-- the copy of message k that was delivered last before
abbrev pub LossyCellsAreLocal : {C M : Type 0} (ctl : Controls C) (mch : Machines M) → Type 0
LossyCellsAreLocal {C} {M} ctl mch =
    (net : LossyBenchState C M) (ls : LossyLists) → IsFixedLossy net.layout net.shape net.timing → StandsLossy ctl mch net ls →
    (y n x : ℕ) → y < length net.layout.outs → n < length net.layout.nodes → PartGives (part_of net.layout n) (slice_index_or net.layout.outs y 0) x →
    (track_at net.tracks y).cells ≡ local_stream net.layout (payloads_between net.shape ls.got) n (row_at (ls.inputs n)) ((lossy_state_of net ls).node n).executed x
