-- A store and the lists for which its bench stands.
use Rattle.std.specs.Prelude.{◌≡◌, ℕ, ◌<◌, true, false, List, [], length, Some, slice_get, slice_index_or, nat_lt}
use Rattle.lt_base.specs.declared.value.Value.{Value}
use Rattle.lt_base.specs.Program.{Function}
use Rattle.lt_arch.specs.declared.event.Deed.{Deed}
use Rattle.lt_arch.specs.declared.event.Deed.TheVariants.{Nothing, Execute, Send}
use Rattle.lt_arch.specs.declared.shape.Shape.{Shape}
use Rattle.lt_arch.specs.State.{State, Phase}
use Rattle.lt_arch.specs.Readers.{node_count, chan_count}
use Rattle.lt_io.specs.FabricState.{FabricState}
use Rattle.lt_place.specs.declared.layout.Layout.{Layout}
use Rattle.lt_net_node.specs.Channels.{HasChannels}
use Rattle.lt_net_node.specs.Layout.{IsLaidOut}
use Rattle.lt_net_node.specs.Local.{fed_row, upto}
use Rattle.lt_net_node.specs.Payloads.{payloads_between, row_at}
use Rattle.lt_net_node.specs.Wakes.{Wakes}
use Rattle.lt_net_bench.specs.Changes.{ActsOn, IsAhead, GrowsByRow, Gets}
use Rattle.lt_net_bench.specs.Executes.{bits_at}
use Rattle.lt_net_bench.specs.Given.{FitsPart}
use Rattle.lt_net_bench.specs.Bench.{BenchState}
use Rattle.lt_net_bench.specs.Room.{HasSizes}
use Rattle.lt_net_bench.specs.Routes.{AreRoutes}
use Rattle.lt_net_bench.specs.Standing.{StandsAt}
use Rattle.lt_net.specs.Receives.{Receives}
use Rattle.lt_step.specs.Code.{StepCode}
use Rattle.lt_c.specs.Tree.{did, perform}
use Rattle.lt_c.specs.Meaning.{Store, store_left}
use Rattle.lt_c_step.specs.declared.sources.Source.{Source}
use Rattle.lt_c_step.specs.declared.sources.Output.{Output}
use Rattle.lt_c_step.specs.Part.{part_step}
use Rattle.lt_c_control.specs.Control.{pressure, counting, deed_number, IsCounting}
use Rattle.lt_c_net.specs.Stands.{NodeStands, offered, Packet, Carries, OneEach}
use Rattle.lt_c_net.specs.Moves.{IsCodeOfNode, Moves, own_row}
use Rattle.lt_c_net.specs.Laws.{SameNodes, taken_in, IsPressing}
use Rattle.lt_machine.specs.declared.machine.Machine.{Ghosts as Machines}
use Rattle.lt_arch.specs.declared.controller.Controller.{Ghosts as Controls}

-- what the part of node n was fed with so far, newest first, by its input rows and by the payloads that were delivered
abbrev pub rows_of_node : Layout → Shape → (inputs got : ℕ → List (List Value)) → (n : ℕ) → List (List Value)
rows_of_node l s inputs got n = upto (λ k. fed_row l (payloads_between s got) n (row_at (inputs n) k) k) (length (inputs n))

-- the store of node n is where these lists lead
abbrev pub NodeFollows : {C M : Type 0} → (ctl : Controls C) → BenchState C M → (inputs got : ℕ → List (List Value)) → (n : ℕ) → StepCode → Store → Type 0
NodeFollows ctl p inputs got n code m = NodeStands ctl p n code (rows_of_node p.layout p.shape inputs got n) m

-- a delivery, where the bench stood for lists and its channel's list grew
abbrev pub DeliveriesFollow : {C M : Type 0} → (ctl : Controls C) (mch : Machines M) → Type 0
DeliveriesFollow {C} {M} ctl mch =
    (p q : BenchState C M) (st : State) (inputs got got' : ℕ → List (List Value)) (n ch : ℕ) (code : StepCode) (m : Store) (old new : FabricState) (f : Function) →
    IsLaidOut f p.layout → HasChannels p.layout p.shape → StandsAt ctl mch p st inputs got → IsAhead p.shape st → n < length p.layout.nodes →
    OneEach p.shape.channels n true → OneEach p.shape.channels n false → ch < chan_count p.shape → ch < length p.inboxes →
    SameNodes p q → (r : Receives p.inboxes q.inboxes old new ch) → (k : Packet) → Carries k r.message → Gets got got' ch r.message.payload →
    NodeFollows ctl p inputs got n code m → NodeFollows ctl q inputs got' n code (taken_in p.shape.channels n ch (length r.message.payload) k m)

-- the lists of rows with what a deed of node n takes
abbrev pub OwnRowsGo : Layout → (n : ℕ) → (row : List Value) → Deed → (old new : ℕ → List (List Value)) → Type 0
OwnRowsGo l n row Nothing old new = new n ≡ old n
OwnRowsGo l n row Send old new = new n ≡ old n
OwnRowsGo l n row Execute old new = GrowsByRow old new n row × FitsPart l n row

-- an activation of a bench that stood for lists
pub record ActsListed {C M : Type 0} (ctl : Controls C) (mch : Machines M) (p q : BenchState C M) (inputs inputs' got : ℕ → List (List Value)) (n : ℕ) (row : List Value) (deed : Deed) : Type 0 where
  pub whole : Function
  pub laid : IsLaidOut whole p.layout
  pub channels : HasChannels p.layout p.shape
  pub routes : AreRoutes p.layout p.shape p.routes
  pub sized : HasSizes p
  pub node : n < node_count p.shape
  -- the state, and what the activation did to it
  pub st : State
  pub st' : State
  pub woken : Phase
  pub stood : StandsAt ctl mch p st inputs got
  pub acts : ActsOn n deed woken st st'
  pub ahead : IsAhead p.shape st
  pub ahead_next : IsAhead p.shape st'
  pub goes : OwnRowsGo p.layout n row deed inputs inputs'
  -- what the bench did
  pub layout : q.layout ≡ p.layout
  pub shape : q.shape ≡ p.shape
  pub wakes : Wakes ctl p.controllers q.controllers n (bits_at p n) deed
  pub moves : Moves mch p q n row deed

-- after it the store follows the lists with the deed's row, and says what was done
abbrev pub FollowsAfter : {C M : Type 0} → (ctl : Controls C) → BenchState C M → (inputs got : ℕ → List (List Value)) → (n : ℕ) → StepCode → Deed → Store → Type 0
FollowsAfter ctl q inputs got n code deed m = NodeFollows ctl q inputs got n code m × (m did ≡ deed_number deed)

abbrev pub PressingFollows : {C M : Type 0} → (ctl : Controls C) (mch : Machines M) → Type 0
PressingFollows {C} {M} ctl mch =
    (p q : BenchState C M) (inputs inputs' got : ℕ → List (List Value)) (n : ℕ) (code : StepCode) (ins acks : List ℕ) (ss : List Source) (os : List Output) (row : List Value) (deed : Deed) (m : Store) →
    IsCodeOfNode p.layout p.shape n code ins acks ss os → ((c : C) → slice_get p.controllers n ≡ Some c → IsPressing (ctl.phase c)) →
    ActsListed ctl mch p q inputs inputs' got n row deed → NodeFollows ctl p inputs got n code m →
    FollowsAfter ctl q inputs' got n code deed (store_left (pressure ins acks (perform (part_step ss os code))) (offered (nat_lt (slice_index_or p.executed n 0) p.rows) (own_row p.layout n row) m))

abbrev pub CountingFollows : {C M : Type 0} → (ctl : Controls C) (mch : Machines M) → Type 0
CountingFollows {C} {M} ctl mch =
    (p q : BenchState C M) (inputs inputs' got : ℕ → List (List Value)) (n : ℕ) (code : StepCode) (ins : List ℕ) (ss : List Source) (os : List Output) (row : List Value) (deed : Deed) (m : Store) (sends executes : ℕ) →
    IsCodeOfNode p.layout p.shape n code ins [] ss os → ((c : C) → slice_get p.controllers n ≡ Some c → IsCounting (ctl.phase c) × (ctl.send c ≡ sends) × (ctl.execute c ≡ executes)) →
    ActsListed ctl mch p q inputs inputs' got n row deed → NodeFollows ctl p inputs got n code m →
    FollowsAfter ctl q inputs' got n code deed (store_left (counting sends executes ins (perform (part_step ss os code))) (offered (nat_lt (slice_index_or p.executed n 0) p.rows) (own_row p.layout n row) m))
