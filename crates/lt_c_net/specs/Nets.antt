-- The stores of all nodes of a net, from event to event.
use Rattle.std.specs.Prelude.{◌≡◌, ℕ, ◌<◌, ◌≤◌, ◌==◌, List, [], length, Some, None, slice_get, slice_index_or, nat_lt, if◌then◌else◌}
use Rattle.lt_base.specs.declared.value.Value.{Value}
use Rattle.lt_arch.specs.declared.event.Event.TheVariants.{Act, Del}
use Rattle.lt_arch.specs.declared.event.Deed.TheVariants.{Execute}
use Rattle.lt_arch.specs.declared.limits.TheConstants.{GREATEST_TIME}
use Rattle.lt_arch.specs.Readers.{node_count, chan_count}
use Rattle.lt_arch.specs.Deeds.{deed_at}
use Rattle.lt_arch.specs.Step.{offence_of}
use Rattle.lt_io.specs.FabricState.{FabricState}
use Rattle.lt_net_node.specs.Wakes.{Wakes}
use Rattle.lt_net_bench.specs.Executes.{bits_at}
use Rattle.lt_net_bench.specs.Given.{FitsPart}
use Rattle.lt_net.specs.Net.{TimedBenchState, Lists, bench_of, reached_state}
use Rattle.lt_net.specs.Stands.{NetStands}
use Rattle.lt_net.specs.Kept.{IsFixed, IsSized, NetHasRoom}
use Rattle.lt_net.specs.Event.{ListsGoOn, SameStatic}
use Rattle.lt_net.specs.Receives.{Receives}
use Rattle.lt_step.specs.Code.{StepCode}
use Rattle.lt_c.specs.Tree.{perform}
use Rattle.lt_c.specs.Meaning.{Store, store_left}
use Rattle.lt_c_step.specs.declared.sources.Source.{Source}
use Rattle.lt_c_step.specs.declared.sources.Output.{Output}
use Rattle.lt_c_step.specs.Part.{part_step}
use Rattle.lt_c_control.specs.Control.{pressure, counting, IsCounting}
use Rattle.lt_c_net.specs.Stands.{offered, Packet, Carries}
use Rattle.lt_c_net.specs.Moves.{IsCodeOfNode, Moves, own_row}
use Rattle.lt_c_net.specs.Laws.{taken_in, IsPressing}
use Rattle.lt_c_net.specs.Lists.{NodeFollows}
use Rattle.lt_machine.specs.declared.machine.Machine.{Ghosts as Machines}
use Rattle.lt_arch.specs.declared.controller.Controller.{Ghosts as Controls}

-- each node's store is where the net's lists lead
abbrev pub NetFollows : {C M : Type 0} → (ctl : Controls C) → TimedBenchState C M → Lists → (codes : ℕ → StepCode) → (stores : ℕ → Store) → Type 0
NetFollows ctl net ls codes stores = (i : ℕ) → i < node_count net.shape → NodeFollows ctl (bench_of net) ls.inputs ls.got i (codes i) (stores i)

-- the stores with another one for one node
abbrev pub with_store : (n : ℕ) → Store → (stores : ℕ → Store) → ℕ → Store
with_store n m stores i = if i == n then m else stores i

-- what a net that stands for lists has
pub record IsNet {C M : Type 0} (ctl : Controls C) (mch : Machines M) (net : TimedBenchState C M) (ls : Lists) : Type 0 where
  pub fixed : IsFixed net.layout net.shape net.timing net.rows
  pub sized : IsSized net
  pub room : NetHasRoom net
  pub stood : NetStands ctl mch net ls

-- node n was activated, without an offence; row is the input row of its next instant
pub record NetActs {C M : Type 0} (ctl : Controls C) (mch : Machines M) (net later : TimedBenchState C M) (ls next : Lists) (n at : ℕ) (row : List Value) : Type 0 where
  pub is_net : IsNet ctl mch net ls
  pub node : n < node_count net.shape
  pub timely : at ≤ GREATEST_TIME
  pub clean : offence_of net.shape net.timing (reached_state net ls) (Act n at) ≡ None
  pub goes : ListsGoOn net ls next (Act n at) (Some row) []
  pub fits : deed_at net.shape net.rows (reached_state net ls) n ≡ Execute → FitsPart net.layout n row
  pub static : SameStatic net later
  pub wakes : Wakes ctl net.controllers later.controllers n (bits_at (bench_of net) n) (deed_at net.shape net.rows (reached_state net ls) n)
  pub moves : Moves mch (bench_of net) (bench_of later) n row (deed_at net.shape net.rows (reached_state net ls) n)

abbrev pub PressingNet : {C M : Type 0} → (ctl : Controls C) (mch : Machines M) → Type 0
PressingNet {C} {M} ctl mch =
    (net later : TimedBenchState C M) (ls next : Lists) (n at : ℕ) (row : List Value) (codes : ℕ → StepCode) (stores : ℕ → Store) (ins acks : List ℕ) (ss : List Source) (os : List Output) →
    NetActs ctl mch net later ls next n at row → IsCodeOfNode net.layout net.shape n (codes n) ins acks ss os →
    ((c : C) → slice_get net.controllers n ≡ Some c → IsPressing (ctl.phase c)) → NetFollows ctl net ls codes stores →
    NetFollows ctl later next codes (with_store n (store_left (pressure ins acks (perform (part_step ss os (codes n)))) (offered (nat_lt (slice_index_or net.executed n 0) net.rows) (own_row net.layout n row) (stores n))) stores)

abbrev pub CountingNet : {C M : Type 0} → (ctl : Controls C) (mch : Machines M) → Type 0
CountingNet {C} {M} ctl mch =
    (net later : TimedBenchState C M) (ls next : Lists) (n at : ℕ) (row : List Value) (codes : ℕ → StepCode) (stores : ℕ → Store) (ins : List ℕ) (ss : List Source) (os : List Output) (sends executes : ℕ) →
    NetActs ctl mch net later ls next n at row → IsCodeOfNode net.layout net.shape n (codes n) ins [] ss os →
    ((c : C) → slice_get net.controllers n ≡ Some c → IsCounting (ctl.phase c) × (ctl.send c ≡ sends) × (ctl.execute c ≡ executes)) → NetFollows ctl net ls codes stores →
    NetFollows ctl later next codes (with_store n (store_left (counting sends executes ins (perform (part_step ss os (codes n)))) (offered (nat_lt (slice_index_or net.executed n 0) net.rows) (own_row net.layout n row) (stores n))) stores)

-- channel ch delivered the oldest message of its transit
pub record NetDelivers {C M : Type 0} (ctl : Controls C) (mch : Machines M) (net later : TimedBenchState C M) (ls next : Lists) (ch at : ℕ) (old new : FabricState) : Type 0 where
  pub is_net : IsNet ctl mch net ls
  pub channel : ch < chan_count net.shape
  pub receives : Receives net.inboxes later.inboxes old new ch
  pub goes : ListsGoOn net ls next (Del ch at) None receives.message.payload
  pub static : SameStatic net later
  pub controllers : later.controllers ≡ net.controllers
  pub executed : later.executed ≡ net.executed

abbrev pub DeliveryNet : {C M : Type 0} → (ctl : Controls C) (mch : Machines M) → Type 0
DeliveryNet {C} {M} ctl mch =
    (net later : TimedBenchState C M) (ls next : Lists) (ch at : ℕ) (codes : ℕ → StepCode) (stores : ℕ → Store) (old new : FabricState) →
    (d : NetDelivers ctl mch net later ls next ch at old new) → (k : Packet) → Carries k d.receives.message → NetFollows ctl net ls codes stores →
    NetFollows ctl later next codes (λ i. taken_in net.shape.channels i ch (length d.receives.message.payload) k (stores i))
