-- What an emitted node tells: the messages of its net, and the cells of its streams.
use Rattle.std.specs.Prelude.{◌≡◌, ℕ, ◌<◌, true, false, List, [], ◌∷◌, ◌++◌, length, Some, slice_get, slice_index_or, nat_lt}
use Rattle.lt_base.specs.declared.value.Value.{Value}
use Rattle.lt_base.specs.Meaning.{clock_of}
use Rattle.lt_arch.specs.declared.event.Event.TheVariants.{Act}
use Rattle.lt_arch.specs.declared.event.Deed.TheVariants.{Execute, Send}
use Rattle.lt_arch.specs.declared.timing.Protocol.TheVariants.{BackPressure}
use Rattle.lt_arch.specs.Readers.{node_count, chan_count, from_of, to_of, carries_data}
use Rattle.lt_arch.specs.Deeds.{deed_at}
use Rattle.lt_place.specs.Layout.{part_of}
use Rattle.lt_net_node.specs.Local.{local_stream}
use Rattle.lt_net_node.specs.Payloads.{payloads_between, row_at}
use Rattle.lt_net_bench.specs.Bench.{BenchState}
use Rattle.lt_net.specs.Net.{TimedBenchState, Lists, bench_of, reached_state}
use Rattle.lt_net.specs.Event.{SameStatic}
use Rattle.lt_net.specs.Sends.{message_on}
use Rattle.lt_step.specs.Code.{StepCode}
use Rattle.lt_c.specs.Tree.{perform}
use Rattle.lt_c.specs.Meaning.{Store, store_left}
use Rattle.lt_c_step.specs.declared.sources.Source.{Source}
use Rattle.lt_c_step.specs.declared.sources.Output.{Output}
use Rattle.lt_c_step.specs.Part.{part_step}
use Rattle.lt_c_control.specs.Control.{pressure, counting, IsCounting}
use Rattle.lt_c_net.specs.Stands.{Carries, offered}
use Rattle.lt_c_net.specs.Moves.{IsCodeOfNode, own_row}
use Rattle.lt_c_net.specs.Laws.{IsPressing}
use Rattle.lt_c_net.specs.Lists.{NodeFollows, ActsListed}
use Rattle.lt_c_net.specs.Nets.{IsNet}
use Rattle.lt_c_net.specs.Emitted.{NodeCode, IsEmittedNode, packet_for, answer_packet, told_cell}
use Rattle.lt_machine.specs.declared.machine.Machine.{Ghosts as Machines}
use Rattle.lt_arch.specs.declared.controller.Controller.{Ghosts as Controls}

-- after a send the packet for a node is the net's message to it, with its bit and its values, and after an execution the acknowledgement is that of the net
abbrev pub PacketsAgree : {C M : Type 0} → (ctl : Controls C) (mch : Machines M) → Type 0
PacketsAgree {C} {M} ctl mch =
    (net later : TimedBenchState C M) (ls next : Lists) (n at c : ℕ) (node : NodeCode) (m : Store) →
    IsNet ctl mch later next → SameStatic net later → next.events ≡ ls.events ++ Act n at ∷ [] → n < node_count net.shape → c < chan_count net.shape → from_of net.shape c ≡ n →
    IsEmittedNode net.layout net.shape n node → NodeFollows ctl (bench_of later) next.inputs next.got n node.code m →
    (carries_data net.shape c ≡ true → deed_at net.shape net.rows (reached_state net ls) n ≡ Send → Carries (packet_for node (to_of net.shape c) m) (message_on later.buffers later.inboxes c))
    × (carries_data net.shape c ≡ false → net.timing.protocol ≡ BackPressure → deed_at net.shape net.rows (reached_state net ls) n ≡ Execute → Carries (answer_packet m) (message_on later.buffers later.inboxes c))

-- where an activation has executed an instant, the store tells of each output the next cell of its stream
abbrev pub TellsNextCells : {C M : Type 0} → BenchState C M → (inputs inputs' got : ℕ → List (List Value)) → (n : ℕ) → List Output → Store → Type 0
TellsNextCells p inputs inputs' got n os m =
    (i x : ℕ) → x < length (part_of p.layout n).flat.func.decls → slice_get os i ≡ Some (record { output_number = x; from_slot = x; guard = clock_of (part_of p.layout n).flat.func.decls x }) →
    local_stream p.layout (payloads_between p.shape got) n (row_at (inputs' n)) (length (inputs' n)) x
    ≡ local_stream p.layout (payloads_between p.shape got) n (row_at (inputs n)) (length (inputs n)) x ++ told_cell (part_of p.layout n).flat.func.decls x m ∷ []

abbrev pub PressingTells : {C M : Type 0} → (ctl : Controls C) (mch : Machines M) → Type 0
PressingTells {C} {M} ctl mch =
    (p q : BenchState C M) (inputs inputs' got : ℕ → List (List Value)) (n : ℕ) (code : StepCode) (ins acks : List ℕ) (ss : List Source) (os : List Output) (row : List Value) (m : Store) →
    IsCodeOfNode p.layout p.shape n code ins acks ss os → ((c : C) → slice_get p.controllers n ≡ Some c → IsPressing (ctl.phase c)) →
    ActsListed ctl mch p q inputs inputs' got n row Execute → NodeFollows ctl p inputs got n code m →
    TellsNextCells p inputs inputs' got n os (store_left (pressure ins acks (perform (part_step ss os code))) (offered (nat_lt (slice_index_or p.executed n 0) p.rows) (own_row p.layout n row) m))

abbrev pub CountingTells : {C M : Type 0} → (ctl : Controls C) (mch : Machines M) → Type 0
CountingTells {C} {M} ctl mch =
    (p q : BenchState C M) (inputs inputs' got : ℕ → List (List Value)) (n : ℕ) (code : StepCode) (ins : List ℕ) (ss : List Source) (os : List Output) (row : List Value) (m : Store) (sends executes : ℕ) →
    IsCodeOfNode p.layout p.shape n code ins [] ss os → ((c : C) → slice_get p.controllers n ≡ Some c → IsCounting (ctl.phase c) × (ctl.send c ≡ sends) × (ctl.execute c ≡ executes)) →
    ActsListed ctl mch p q inputs inputs' got n row Execute → NodeFollows ctl p inputs got n code m →
    TellsNextCells p inputs inputs' got n os (store_left (counting sends executes ins (perform (part_step ss os code))) (offered (nat_lt (slice_index_or p.executed n 0) p.rows) (own_row p.layout n row) m))
