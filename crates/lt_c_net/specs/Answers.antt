-- What a net says of the deed and of the bits of an activation.
use Rattle.std.specs.Prelude.{◌≡◌, ℕ, ◌<◌, true, false, List, ◌∷◌, ◌++◌, []}
use Rattle.lt_arch.specs.declared.event.Event.TheVariants.{Act}
use Rattle.lt_arch.specs.declared.event.Deed.{Deed}
use Rattle.lt_arch.specs.declared.event.Deed.TheVariants.{Execute, Send}
use Rattle.lt_arch.specs.declared.timing.Protocol.TheVariants.{BackPressure}
use Rattle.lt_arch.specs.Readers.{node_count, chan_count, from_of, carries_data}
use Rattle.lt_arch.specs.Deeds.{deed_at}
use Rattle.lt_net_node.specs.Wakes.{Wakes}
use Rattle.lt_net_bench.specs.Executes.{bits_at}
use Rattle.lt_net.specs.Net.{TimedBenchState, Lists, bench_of, reached_state}
use Rattle.lt_net.specs.Event.{SameStatic}
use Rattle.lt_net.specs.Sends.{message_on}
use Rattle.lt_step.specs.Code.{StepCode}
use Rattle.lt_c.specs.Tree.{sent, executed}
use Rattle.lt_c.specs.Meaning.{Store, of_truth}
use Rattle.lt_c_net.specs.Lists.{NodeFollows}
use Rattle.lt_c_net.specs.Nets.{IsNet}
use Rattle.lt_machine.specs.declared.machine.Machine.{Ghosts as Machines}
use Rattle.lt_arch.specs.declared.controller.Controller.{Ghosts as Controls}

-- the deed that a controller answers by the bits of its inboxes is the one of the architecture
abbrev pub DeedsAgree : {C M : Type 0} → (ctl : Controls C) (mch : Machines M) → Type 0
DeedsAgree {C} {M} ctl mch =
    (net : TimedBenchState C M) (ls : Lists) (n : ℕ) (controllers : List C) (deed : Deed) → IsNet ctl mch net ls → n < node_count net.shape →
    Wakes ctl net.controllers controllers n (bits_at (bench_of net) n) deed →
    deed ≡ deed_at net.shape net.rows (reached_state net ls) n

-- after a send the bit of the node's data is that of the net's message, and after an execution so is that of its acknowledgements
abbrev pub BitsInNet : {C M : Type 0} → (ctl : Controls C) (mch : Machines M) → Type 0
BitsInNet {C} {M} ctl mch =
    (net later : TimedBenchState C M) (ls next : Lists) (n at c : ℕ) (code : StepCode) (m : Store) →
    IsNet ctl mch later next → SameStatic net later → next.events ≡ ls.events ++ Act n at ∷ [] →
    n < node_count net.shape → c < chan_count net.shape → from_of net.shape c ≡ n → NodeFollows ctl (bench_of later) next.inputs next.got n code m →
    (carries_data net.shape c ≡ true → deed_at net.shape net.rows (reached_state net ls) n ≡ Send → m sent ≡ of_truth (message_on later.buffers later.inboxes c).bit)
    × (carries_data net.shape c ≡ false → net.timing.protocol ≡ BackPressure → deed_at net.shape net.rows (reached_state net ls) n ≡ Execute → m executed ≡ of_truth (message_on later.buffers later.inboxes c).bit)
