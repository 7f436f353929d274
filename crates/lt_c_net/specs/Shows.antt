-- What a store hands out: the values of messages, and the cells of outputs.
use Rattle.std.specs.Prelude.{◌≡◌, ℕ, suc, ◌<◌, pos, nat_lt, List, [], ◌∷◌, ◌++◌, length, slice_index_or}
use Rattle.lt_base.specs.declared.value.Value.{Value}
use Rattle.lt_base.specs.Program.{Function}
use Rattle.lt_arch.specs.declared.event.Deed.TheVariants.{Execute}
use Rattle.lt_arch.specs.State.{State}
use Rattle.lt_place.specs.Layout.{PartGives, part_of, crossing_of}
use Rattle.lt_net_node.specs.Channels.{HasChannels}
use Rattle.lt_net_node.specs.Layout.{IsLaidOut, crossing_place}
use Rattle.lt_net_node.specs.Local.{local_stream}
use Rattle.lt_net_node.specs.Payloads.{payloads_between, row_at, channel_between}
use Rattle.lt_net_bench.specs.Bench.{BenchState}
use Rattle.lt_net_bench.specs.Standing.{StandsAt}
use Rattle.lt_net.specs.Sends.{message_on}
use Rattle.lt_step.specs.Code.{StepCode}
use Rattle.lt_c.specs.Tree.{slot, did}
use Rattle.lt_c.specs.Meaning.{Store, stored, store_left}
use Rattle.lt_c_step.specs.Laws.{shown}
use Rattle.lt_c.specs.Literals.{c_number}
use Rattle.lt_c_step.specs.declared.sources.Source.{Source}
use Rattle.lt_c_step.specs.declared.sources.Output.{Output}
use Rattle.lt_c_step.specs.Part.{before_outputs}
use Rattle.lt_c_net.specs.Stands.{offered}
use Rattle.lt_c_net.specs.Moves.{IsCodeOfNode, own_row}
use Rattle.lt_c_net.specs.Lists.{NodeFollows, ActsListed}
use Rattle.lt_machine.specs.declared.machine.Machine.{Ghosts as Machines}
use Rattle.lt_arch.specs.declared.controller.Controller.{Ghosts as Controls}

-- once a node has executed an instant, the slot of what crosses has the value that stands in the message of its channel
abbrev pub ValuesAgree : {C M : Type 0} → (ctl : Controls C) (mch : Machines M) → Type 0
ValuesAgree {C} {M} ctl mch =
    (p : BenchState C M) (st : State) (inputs got : ℕ → List (List Value)) (n k c x : ℕ) (code : StepCode) (ins acks : List ℕ) (ss : List Source) (os : List Output) (m : Store) (f : Function) →
    IsLaidOut f p.layout → HasChannels p.layout p.shape → StandsAt ctl mch p st inputs got → n < length p.layout.nodes →
    IsCodeOfNode p.layout p.shape n code ins acks ss os → NodeFollows ctl p inputs got n code m → length (inputs n) ≡ suc k →
    c < length p.layout.cross → (crossing_of p.layout c).from ≡ n → PartGives (part_of p.layout n) (crossing_of p.layout c).var x →
    m (slot x) ≡ c_number (slice_index_or (message_on p.buffers p.inboxes (channel_between p.shape (crossing_of p.layout c).from (crossing_of p.layout c).to)).payload (crossing_place p.layout c) (crossing_of p.layout c).first)

-- where an activation executes, each variable shows, when outputs are read, the next cell of its stream
abbrev pub OutputsAgree : {C M : Type 0} → (ctl : Controls C) (mch : Machines M) → Type 0
OutputsAgree {C} {M} ctl mch =
    (p q : BenchState C M) (inputs inputs' got : ℕ → List (List Value)) (n y : ℕ) (code : StepCode) (ins acks : List ℕ) (ss : List Source) (os : List Output) (row : List Value) (m : Store) →
    IsCodeOfNode p.layout p.shape n code ins acks ss os → ActsListed ctl mch p q inputs inputs' got n row Execute → NodeFollows ctl p inputs got n code m →
    y < length (part_of p.layout n).flat.func.decls →
    local_stream p.layout (payloads_between p.shape got) n (row_at (inputs' n)) (length (inputs' n)) y
    ≡ local_stream p.layout (payloads_between p.shape got) n (row_at (inputs n)) (length (inputs n)) y
    ++ shown (part_of p.layout n).flat.func.decls y (store_left (before_outputs ss code) (stored (offered (nat_lt (slice_index_or p.executed n 0) p.rows) (own_row p.layout n row) m) did (pos 0))) ∷ []
