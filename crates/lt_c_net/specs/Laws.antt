-- What a store keeps of its node: from the start, over deliveries and over activations; and which bits it hands out.
use Rattle.std.specs.Prelude.{◌≡◌, ℕ, ◌+◌, ◌<◌, Bool, true, false, List, [], ◌∷◌, length, map, filter, replicate, Some, slice_get, slice_index_or, nat_lt, if◌then◌else◌}
use Rattle.lt_base.specs.declared.value.Value.{Value}
use Rattle.lt_base.specs.Typing.{input_types, AllFit}
use Rattle.lt_arch.specs.declared.chan.Chan.{Chan}
use Rattle.lt_arch.specs.declared.event.Deed.{Deed}
use Rattle.lt_arch.specs.declared.event.Deed.TheVariants.{Execute}
use Rattle.lt_arch.specs.declared.timing.Timing.{Timing}
use Rattle.lt_arch.specs.State.{State, Phase, Wait, Ready, First, Sending, Executing, sent_of, executed_of}
use Rattle.lt_arch.specs.Readers.{node_count, chan_count}
use Rattle.lt_io.specs.FabricState.{FabricState}
use Rattle.lt_place_reads.specs.declared.crossing.Crossing.{Crossing}
use Rattle.lt_place.specs.declared.layout.Feed.{Feed}
use Rattle.lt_place.specs.declared.layout.Feed.TheVariants.{Cross}
use Rattle.lt_place.specs.Layout.{part_of, crossing_of}
use Rattle.lt_net_node.specs.Channels.{HasChannels}
use Rattle.lt_net_node.specs.Fed.{CanFeed}
use Rattle.lt_link.specs.Ports.{is_to}
use Rattle.lt_net_node.specs.Layout.{joins}
use Rattle.lt_net_node.specs.Wakes.{Wakes}
use Rattle.lt_net_bench.specs.Bench.{BenchState}
use Rattle.lt_net_bench.specs.Executes.{ins_of, bits_at}
use Rattle.lt_net_bench.specs.Routes.{AreRoutes}
use Rattle.lt_net_bench.specs.Standing.{StandsAt}
use Rattle.lt_net_bench.specs.Starts.{first_inbox, ControllersAreAtStart}
use Rattle.lt_net.specs.Receives.{Receives}
use Rattle.lt_net.specs.Sends.{message_on}
use Rattle.lt_step.specs.Code.{StepCode}
use Rattle.lt_c.specs.Tree.{did, sent, executed, Statement, both, perform}
use Rattle.lt_c.specs.Meaning.{Store, of_truth, store_left}
use Rattle.lt_c_step.specs.declared.sources.Source.{Source}
use Rattle.lt_c_step.specs.declared.sources.Output.{Output}
use Rattle.lt_c_step.specs.Part.{part_step}
use Rattle.lt_c_step.specs.Translate.{of_firsts}
use Rattle.lt_c_control.specs.Control.{pressure, counting, deed_number, IsCounting}
use Rattle.lt_c_control.specs.Inboxes.{FirstData, delivering, acknowledging, starting, DifferInNode}
use Rattle.lt_c_net.specs.Stands.{sender, NodeStands, offered, Packet, Carries, handed, ListsSenders, OneEach}
use Rattle.lt_c_net.specs.Moves.{IsCodeOfNode, Moves, rows_after, own_row}
use Rattle.lt_machine.specs.declared.machine.Machine.{Ghosts as Machines}
use Rattle.lt_arch.specs.declared.controller.Controller.{Ghosts as Controls}

-- ---- the start

-- the first values of what crosses from node j to node n
abbrev pub literals_of : List Crossing → (n j : ℕ) → List Value
literals_of cross n j = map (λ cr. cr.first) (filter (joins j n) cross)

-- so those from each of these nodes
abbrev pub firsts_from : List Crossing → (n : ℕ) → (ins : List ℕ) → List FirstData
firsts_from cross n ins = map (λ j. record { from_node = j; firsts = literals_of cross n j }) ins

-- what an emitted node does before the first event
abbrev pub init_of : StepCode → List FirstData → (acks : List ℕ) → (counts : Bool) → Statement
init_of code ds acks counts = both (of_firsts code.keeps) (starting ds acks counts)

-- what IsInitial says of inboxes and counts, with controllers at their protocol's start: the store that init leaves stands there
abbrev pub StartsStand : {C M : Type 0} → (ctl : Controls C) (mch : Machines M) → Type 0
StartsStand {C} {M} ctl mch =
    (p : BenchState C M) (t : Timing) (n : ℕ) (code : StepCode) (ins acks : List ℕ) (counts : Bool) (m : Store) → n < node_count p.shape → ControllersAreAtStart ctl p.shape t p.controllers →
    p.executed ≡ replicate (node_count p.shape) 0 → p.inboxes ≡ map (first_inbox p.layout.cross) p.shape.channels →
    ListsSenders p.shape.channels n true ins → ListsSenders p.shape.channels n false acks → DifferInNode (firsts_from p.layout.cross n ins) →
    NodeStands ctl p n code [] (store_left (init_of code (firsts_from p.layout.cross n ins) acks counts) m)

-- ---- deliveries

-- what the store of node n is after channel ch has delivered so many values: the message is put into the inbox that it is for
abbrev pub taken_in : List Chan → (n ch count : ℕ) → Packet → Store → Store
taken_in cs n ch count k m =
    if is_to cs n true ch then store_left (delivering (sender cs ch) count) (handed k m) else (if is_to cs n false ch then store_left (acknowledging (sender cs ch)) (handed k m) else m)

-- only inboxes have changed
pub record SameNodes {C M : Type 0} (p q : BenchState C M) : Type 0 where
  pub layout : q.layout ≡ p.layout
  pub shape : q.shape ≡ p.shape
  pub controllers : q.controllers ≡ p.controllers
  pub executed : q.executed ≡ p.executed

-- a delivery on any channel keeps each node's store standing
abbrev pub DeliveriesKeep : {C M : Type 0} → (ctl : Controls C) (mch : Machines M) → Type 0
DeliveriesKeep {C} {M} ctl mch =
    (p q : BenchState C M) (n ch : ℕ) (code : StepCode) (rows : List (List Value)) (m : Store) (old new : FabricState) →
    OneEach p.shape.channels n true → OneEach p.shape.channels n false → ch < length p.shape.channels → ch < length p.inboxes →
    SameNodes p q → (r : Receives p.inboxes q.inboxes old new ch) → (k : Packet) → Carries k r.message →
    NodeStands ctl p n code rows m → NodeStands ctl q n code rows (taken_in p.shape.channels n ch (length r.message.payload) k m)

-- ---- activations

-- all that the part is fed with is there, comes over the routes, and fits it
pub record IsFed {C M : Type 0} (p : BenchState C M) (n : ℕ) (row : List Value) (rows : List (List Value)) : Type 0 where
  pub fit : AllFit (input_types (part_of p.layout n).flat.func) (map (map Some) (ins_of p n row ∷ rows))
  pub feeds : (x : ℕ) (d : Feed) → slice_get (part_of p.layout n).feeds x ≡ Some d → CanFeed p.routes p.inboxes row d
  pub crosses : (x c : ℕ) → slice_get (part_of p.layout n).feeds x ≡ Some (Cross c) → (c < length p.layout.cross) × ((crossing_of p.layout c).to ≡ n)
  pub routes : AreRoutes p.layout p.shape p.routes
  pub channels : HasChannels p.layout p.shape

-- an activation of node n: its controller woke, and the bench did its deed
pub record Acts {C M : Type 0} (ctl : Controls C) (mch : Machines M) (p q : BenchState C M) (n : ℕ) (row : List Value) (rows : List (List Value)) (deed : Deed) : Type 0 where
  pub shape : q.shape ≡ p.shape
  pub node : n < length p.executed
  pub wakes : Wakes ctl p.controllers q.controllers n (bits_at p n) deed
  pub moves : Moves mch p q n row deed
  pub is_fed : deed ≡ Execute → IsFed p n row rows

-- the controller of node n is of this protocol
abbrev pub IsPressing : Phase → Type 0
IsPressing Wait = Unit {0}
IsPressing Ready = Unit {0}
IsPressing First = ⊥
IsPressing (Sending k) = ⊥
IsPressing (Executing k) = ⊥

-- the store after an activation stands where the bench does after it, and says what was done
pub record StandsAfter {C M : Type 0} (ctl : Controls C) (p q : BenchState C M) (n : ℕ) (row : List Value) (code : StepCode) (rows : List (List Value)) (deed : Deed) (m : Store) : Type 0 where
  pub is_there : NodeStands ctl q n code (rows_after p n row deed rows) m
  pub deed_is : m did ≡ deed_number deed

abbrev pub PressingKeeps : {C M : Type 0} → (ctl : Controls C) (mch : Machines M) → Type 0
PressingKeeps {C} {M} ctl mch =
    (p q : BenchState C M) (n : ℕ) (code : StepCode) (ins acks : List ℕ) (ss : List Source) (os : List Output) (rows : List (List Value)) (row : List Value) (deed : Deed) (m : Store) →
    IsCodeOfNode p.layout p.shape n code ins acks ss os → ((c : C) → slice_get p.controllers n ≡ Some c → IsPressing (ctl.phase c)) →
    Acts ctl mch p q n row rows deed → NodeStands ctl p n code rows m →
    StandsAfter ctl p q n row code rows deed (store_left (pressure ins acks (perform (part_step ss os code))) (offered (nat_lt (slice_index_or p.executed n 0) p.rows) (own_row p.layout n row) m))

-- the countdowns in the file are the controller's
abbrev pub CountingKeeps : {C M : Type 0} → (ctl : Controls C) (mch : Machines M) → Type 0
CountingKeeps {C} {M} ctl mch =
    (p q : BenchState C M) (n : ℕ) (code : StepCode) (ins : List ℕ) (ss : List Source) (os : List Output) (rows : List (List Value)) (row : List Value) (deed : Deed) (m : Store) (sends executes : ℕ) →
    IsCodeOfNode p.layout p.shape n code ins [] ss os → ((c : C) → slice_get p.controllers n ≡ Some c → IsCounting (ctl.phase c) × (ctl.send c ≡ sends) × (ctl.execute c ≡ executes)) →
    Acts ctl mch p q n row rows deed → NodeStands ctl p n code rows m →
    StandsAfter ctl p q n row code rows deed (store_left (counting sends executes ins (perform (part_step ss os code))) (offered (nat_lt (slice_index_or p.executed n 0) p.rows) (own_row p.layout n row) m))

-- ---- what is handed out

-- the bits of what the node sends are those of its net: after a send that of its data, after an execution that of its
-- acknowledgements, where the channel has delivered all messages but this one
abbrev pub BitsAgree : {C M : Type 0} → (ctl : Controls C) (mch : Machines M) → Type 0
BitsAgree {C} {M} ctl mch =
    (p : BenchState C M) (st : State) (inputs got : ℕ → List (List Value)) (n c : ℕ) (code : StepCode) (rows : List (List Value)) (m : Store) →
    StandsAt ctl mch p st inputs got → length p.inboxes ≡ chan_count p.shape → n < node_count p.shape → c < chan_count p.shape → NodeStands ctl p n code rows m →
    ((st.chan c).delivered + 1 ≡ sent_of st n → m sent ≡ of_truth (message_on p.buffers p.inboxes c).bit)
    × ((st.chan c).delivered + 1 ≡ executed_of st n → m executed ≡ of_truth (message_on p.buffers p.inboxes c).bit)
