-- What an event that was taken leaves.
use Rattle.std.specs.Prelude.{◌≡◌, ◌↔◌, ℕ, ◌<◌, IsTrue, List, length, Option, Some, Result, Err}
use denote.Bor.{Bor}
use Rattle.lt_base.specs.declared.value.Value.{Value}
use Rattle.lt_arch.specs.Readers.{chan_count, from_of, to_of}
use Rattle.lt_arch.specs.declared.event.Event.TheVariants.{Act, Del, End}
use Rattle.lt_io.specs.declared.message.Message.{Message}
use Rattle.lt_io.specs.FabricState.{FabricState, Delivers, OpensFabric, SameLists, channel_kind}
use Rattle.lt_lossy.specs.declared.event.LossyEvent.{LossyEvent}
use Rattle.lt_lossy.specs.declared.event.LossyEvent.TheVariants.{Plain, Lose}
use Rattle.lt_net_bench.specs.Own.{PayloadsAreOwn}
use Rattle.lt_net_node.specs.Payloads.{types_for}
use Rattle.lt_net.specs.Event.{given_row}
use Rattle.lt_net_bench.specs.Room.{HasSpace}
use Rattle.lt_net_bench.specs.Standing.{HasOwnValues}
use Rattle.lt_net_lossy.specs.Net.{LossyBenchState, LossyLists, bench_of_lossy, lossy_state_of}
use Rattle.lt_net_lossy.specs.NetModel.{LossyNetState}
use Rattle.lt_net_lossy.specs.Event.{LossyGoesOn}
use Rattle.lt_net_lossy.specs.Kept.{IsFixedLossy, HasLossySizes}
use Rattle.lt_net_lossy.specs.Holds.{SendsLossy}
use Rattle.lt_net_lossy.specs.Laws.{StandsWith, woken_in}
use Rattle.lt_machine.specs.declared.machine.Machine.{Ghosts as Machines}
use Rattle.lt_arch.specs.declared.controller.Controller.{Ghosts as Controls}
use Rattle.lt_arch.specs.declared.shape.Shape.{Shape}
use Rattle.lt_place.specs.declared.layout.Layout.{Layout}
use Rattle.lt_net_bench.specs.Starts.{kinds_for}
use Rattle.lt_lossy.specs.declared.event.LossyOffence.{LossyOffence}
use Rattle.lt_lossy.specs.Step.{lossy_offence}
use Rattle.lt_net_lossy.specs.declared.fault.LossyFault.{LossyFault}
use Rattle.lt_net_lossy.specs.declared.fault.LossyFault.TheVariants as fault
use Rattle.lt_net_lossy.specs.Stands.{StandsLossy}
use Rattle.lt_net_lossy.specs.Starts.{no_lossy_lists}
use Rattle.lt_net_lossy.specs.Halts.{HasHaltedLossy}

-- a net stands for some lists, and the fabric has in transit what their state says
abbrev pub LossyHeld : {C M : Type 0} (ctl : Controls C) (mch : Machines M) → LossyBenchState C M → FabricState → Type 0
LossyHeld ctl mch net fabric = (ls : LossyLists) × StandsWith ctl mch net ls fabric

-- over a fabric opened with the channels of the layout it stands for no lists
abbrev pub StandsOpened : {C M : Type 0} (ctl : Controls C) (mch : Machines M) → Layout → Shape → LossyBenchState C M → Type 0
StandsOpened ctl mch l s net = (old new : FabricState) → OpensFabric old new (kinds_for l s) → StandsWith ctl mch net no_lossy_lists new

-- an answer is an offence exactly where the event has it, for all lists for which the net stands
abbrev pub TellsLossyOffence : {C M : Type 0} (ctl : Controls C) (mch : Machines M) → LossyBenchState C M → LossyEvent → Result (Unit {0}) LossyFault → Type 0
TellsLossyOffence ctl mch net e result =
    (ls : LossyLists) → StandsLossy ctl mch net ls → (o : LossyOffence) → (result ≡ Err (fault.Offence o)) ↔ (lossy_offence net.shape net.timing net.watch.limit (lossy_state_of net ls) e ≡ Some o)

-- what a fault left, for all lists for which the net stood
abbrev pub LeavesHaltedLossy : {C M : Type 0} (ctl : Controls C) (mch : Machines M) → (old new : LossyBenchState C M) → LossyEvent → Option (List Value) → Type 0
LeavesHaltedLossy ctl mch old new e row = (ls : LossyLists) → StandsLossy ctl mch old ls → HasHaltedLossy mch new ls e row

-- the fabric has the shape's channels, with the types of their payloads
pub record HasLossyKinds {C M : Type 0} (net : LossyBenchState C M) (fabric : FabricState) : Type 0 where
  pub count : length fabric.kinds ≡ chan_count net.shape
  pub each : (c : ℕ) → c < chan_count net.shape → channel_kind fabric c ≡ types_for net.layout net.shape c

-- what no event changes
pub record SameLossyStatic {C M : Type 0} (old new : LossyBenchState C M) : Type 0 where
  pub layout : new.layout ≡ old.layout
  pub shape : new.shape ≡ old.shape
  pub timing : new.timing ≡ old.timing
  pub rows : new.rows ≡ old.rows
  pub limit : new.watch.limit ≡ old.watch.limit

-- all that a net keeps besides what it stands for
pub record IsKeptLossy {C M : Type 0} (net : LossyBenchState C M) : Type 0 where
  pub fixed : IsFixedLossy net.layout net.shape net.timing
  pub sized : HasLossySizes net
  pub space : HasSpace (bench_of_lossy net)

-- what an event did to the fabric, and the payload that a delivery took from it: an activation sends on each channel from its node where that
-- has a number to send
abbrev pub CarriedLossy : {C M : Type 0} → (old new : LossyBenchState C M) → LossyLists → LossyEvent → (fabric fabric' : FabricState) → (payload : List Value) → Type 0
CarriedLossy old new ls (Plain (Act n at)) fabric fabric' payload = SendsLossy old.shape n (woken_in old ls n at) new.posted fabric fabric'
CarriedLossy old new ls (Plain (Del c at)) fabric fabric' payload = (m : Message) × (m.payload ≡ payload) × Delivers fabric fabric' c m
CarriedLossy old new ls (Plain (End at)) fabric fabric' payload = SameLists fabric fabric'
CarriedLossy old new ls (Lose c at) fabric fabric' payload = (m : Message) × Delivers fabric fabric' c m

-- payloads with their senders' own values of instants that these have executed have them by later lists too
abbrev pub OwnStays : Layout → Shape → (ls next : LossyLists) → Type 0
OwnStays l s ls next =
    (c k : ℕ) (p : List Value) → c < chan_count s → k < length (ls.inputs (from_of s c)) →
    HasOwnValues l s ls.inputs ls.got (from_of s c) (to_of s c) k p → HasOwnValues l s next.inputs next.got (from_of s c) (to_of s c) k p

-- an event was taken: for all lists for which the net stood over the fabric, it stands for those with the event's entries, and over a
-- faithful fabric the payloads that were delivered stay their senders' own
pub record IsTakenLossy {C M : Type 0} (ctl : Controls C) (mch : Machines M) (old new : LossyBenchState C M) (e : LossyEvent) (row : Option (List Value)) (fabric fabric' : FabricState) : Type 0 where
  pub payload : List Value
  pub goes : (ls next : LossyLists) → StandsWith ctl mch old ls fabric → LossyGoesOn old ls next e row payload → StandsWith ctl mch new next fabric'
  pub carried : (ls next : LossyLists) → StandsWith ctl mch old ls fabric → LossyGoesOn old ls next e row payload → CarriedLossy old new ls e fabric fabric' payload
  pub own : IsTrue fabric.faithful → (ls next : LossyLists) → StandsWith ctl mch old ls fabric → LossyGoesOn old ls next e row payload → PayloadsAreOwn old.layout old.shape ls.inputs ls.got → PayloadsAreOwn old.layout old.shape next.inputs next.got
  -- a sender's own values of an instant that it has executed stay its own
  pub stays : (ls next : LossyLists) → StandsWith ctl mch old ls fabric → LossyGoesOn old ls next e row payload → OwnStays old.layout old.shape ls next
  pub kept : IsKeptLossy new
  pub static : SameLossyStatic old new
  pub kinds : fabric'.kinds ≡ fabric.kinds

-- where this row was given
abbrev pub TakesGiven : {C M : Type 0} (ctl : Controls C) (mch : Machines M) → (old new : LossyBenchState C M) → LossyEvent → Option (Bor (List Value)) → (fabric fabric' : FabricState) → Type 0
TakesGiven ctl mch old new e row fabric fabric' = IsTakenLossy ctl mch old new e (given_row row) fabric fabric'

-- a net took it
abbrev pub Takes : {C M : Type 0} (ctl : Controls C) (mch : Machines M) → (old new : LossyNetState C M) → LossyEvent → Option (Bor (List Value)) → (fabric fabric' : FabricState) → Type 0
Takes ctl mch old new e row fabric fabric' = TakesGiven ctl mch old.bench new.bench e row fabric fabric'

-- an activation of node n
abbrev pub TakesAct : {C M : Type 0} (ctl : Controls C) (mch : Machines M) → (old new : LossyBenchState C M) → (n at : ℕ) → Option (Bor (List Value)) → (fabric fabric' : FabricState) → Type 0
TakesAct ctl mch old new n at row fabric fabric' = TakesGiven ctl mch old new (Plain (Act n at)) row fabric fabric'

-- an event that needs no row, whatever row is given
abbrev pub TakesRowless : {C M : Type 0} (ctl : Controls C) (mch : Machines M) → (old new : LossyBenchState C M) → LossyEvent → (fabric fabric' : FabricState) → Type 0
TakesRowless ctl mch old new e fabric fabric' = (row : Option (List Value)) → IsTakenLossy ctl mch old new e row fabric fabric'
