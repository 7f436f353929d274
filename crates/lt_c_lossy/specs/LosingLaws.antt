-- What a store keeps of the architecture over links that lose messages, event by event, and what it hands out.
use Rattle.std.specs.Prelude.{◌≡◌, ◌≢◌, ℕ, ◌+◌, ◌<◌, List, [], ◌∷◌, ◌++◌, length, take, slice_index_or, if◌then◌else◌}
use Rattle.std.specs.List.{AllByRecursion}
use Rattle.lt_base.specs.Meaning.{stream_of}
use Rattle.lt_arch.specs.declared.event.Event.TheVariants.{Act, Del}
use Rattle.lt_arch.specs.declared.event.Deed.{Deed}
use Rattle.lt_arch.specs.declared.event.Deed.TheVariants.{Execute}
use Rattle.lt_arch.specs.State.{NodeState}
use Rattle.lt_arch.specs.Readers.{node_count, chan_count}
use Rattle.lt_arch.specs.Deeds.{deed_at}
use Rattle.lt_arch.specs.Step.{woken}
use Rattle.lt_lossy.specs.declared.event.LossyEvent.{LossyEvent}
use Rattle.lt_lossy.specs.declared.event.LossyEvent.TheVariants.{Plain, Lose}
use Rattle.lt_lossy.specs.Events.{IsLossyEventOf}
use Rattle.lt_lossy.specs.State.{Message, LossyState, lossy_start, plain_of, number_on}
use Rattle.lt_lossy.specs.Step.{sends_number, lossy_after}
use Rattle.lt_lossy.specs.Schedule.{lossy_reached, IsLossyOffenceFree}
use Rattle.lt_norm.specs.Flat.{Originated}
use Rattle.lt_place.specs.Layout.{part_of}
use Rattle.lt_c.specs.Tree.{did}
use Rattle.lt_c.specs.Meaning.{Store, store_left}
use Rattle.lt_c_control.specs.Control.{deed_number}
use Rattle.lt_c_net.specs.Stands.{Packet}
use Rattle.lt_c_net.specs.Emitted.{told_cell}
use Rattle.lt_c_net.specs.Runs.{NodesRunning, value_count}
use Rattle.lt_c_net.specs.WholeRuns.{GivesOutput}
use Rattle.lt_c_lossy.specs.Losing.{losing_init, taken_newer}
use Rattle.lt_c_lossy.specs.LosingStands.{LosingAt, CarriesNumber, CarryNumbers}
use Rattle.lt_c_lossy.specs.LosingRuns.{LosingDeployment, acted_losing, put_again, losing_run}
use Rattle.lt_c_lossy.specs.LosingWholeRuns.{IsDeployedLosing}

-- the state after these events
abbrev pub state_after : LosingDeployment → List LossyEvent → LossyState
state_after d es = lossy_reached d.base.shape d.base.timing (length d.base.inputs) es

-- and after one more
abbrev pub next_after : LosingDeployment → List LossyEvent → LossyEvent → LossyState
next_after d es e = lossy_after d.base.shape d.base.timing (length d.base.inputs) (state_after d es) e

-- the events so far have no offence
abbrev pub NoneSoFar : LosingDeployment → (losses : ℕ) → List LossyEvent → Type 0
NoneSoFar d losses es = IsLossyOffenceFree d.base.shape d.base.timing losses (length d.base.inputs) es

-- the store of node n is where a state has it
abbrev pub IsLosingAt : Originated → LosingDeployment → LossyState → (n : ℕ) → Store → Type 0
IsLosingAt f d st n m = LosingAt f.func d.base.layout d.base.shape d.base.inputs st n (d.base.nodes n).code m

-- ---- the start

-- what init leaves stands for the start, whatever the memory held before
abbrev pub LosingStarts : Type 0
LosingStarts =
    (f : Originated) (losses : ℕ) (d : LosingDeployment) → IsDeployedLosing f losses d → (n : ℕ) → n < node_count d.base.shape → (memory : Store) →
    IsLosingAt f d lossy_start n (store_left (losing_init d.base.layout n (d.base.nodes n)) memory)

-- ---- deliveries and losses

-- the delivery of a packet that is the oldest message of a channel keeps each node's store, and so does the loss of one, with which nothing is done
pub record LosingDelivers : Type 0 where
  pub delivery : (f : Originated) (losses : ℕ) (d : LosingDeployment) → IsDeployedLosing f losses d → (es : List LossyEvent) → NoneSoFar d losses es →
      (n c at : ℕ) → n < node_count d.base.shape → c < chan_count d.base.shape → (k : Packet) (oldest : Message) (later : List Message) → ((state_after d es).link c).transit ≡ oldest ∷ later →
      CarriesNumber f.func d.base.layout d.base.shape d.base.inputs c oldest.number k → (m : Store) → IsLosingAt f d (state_after d es) n m →
      IsLosingAt f d (next_after d es (Plain (Del c at))) n (taken_newer d.base.shape.channels n c (value_count d.base c) k m)
  pub loss : (f : Originated) (d : LosingDeployment) (st : LossyState) (n c at : ℕ) (m : Store) → IsLosingAt f d st n m →
      IsLosingAt f d (lossy_after d.base.shape d.base.timing (length d.base.inputs) st (Lose c at)) n m

-- ---- activations

-- the deed of node n at its next activation
abbrev pub next_deed : LosingDeployment → List LossyEvent → (n : ℕ) → Deed
next_deed d es n = deed_at d.base.shape (length d.base.inputs) (plain_of (state_after d es)) n

-- node n after it
abbrev pub next_node : LosingDeployment → List LossyEvent → (n at : ℕ) → NodeState
next_node d es n at = woken d.base.shape d.base.timing (length d.base.inputs) (plain_of (state_after d es)) n at

-- an activation leaves the store where the next state has the node, and says what was done
pub record LosingActs : Type 0 where
  pub own : (f : Originated) (losses : ℕ) (d : LosingDeployment) → IsDeployedLosing f losses d → (es : List LossyEvent) → NoneSoFar d losses es →
      (n at : ℕ) → n < node_count d.base.shape → (m : Store) → IsLosingAt f d (state_after d es) n m →
      IsLosingAt f d (next_after d es (Plain (Act n at))) n (acted_losing d n ((state_after d es).node n).executed m)
      × (acted_losing d n ((state_after d es).node n).executed m did ≡ deed_number (next_deed d es n))
  -- and the stores of all other nodes
  pub others : (f : Originated) (d : LosingDeployment) (st : LossyState) (n i at : ℕ) → i ≢ n → (m : Store) → IsLosingAt f d st i m →
      IsLosingAt f d (lossy_after d.base.shape d.base.timing (length d.base.inputs) st (Plain (Act n at))) i m

-- ---- what is handed out

-- the message of this number and time, if it is sent
abbrev pub sent_if : LosingDeployment → (n at c : ℕ) → NodeState → List Message
sent_if d n at c v = if sends_number d.base.shape n v c then record { number = number_on d.base.shape v c; sent_at = at } ∷ [] else []

-- a store that is where a state has node n puts on each channel from the node the message of the number that the node counts there, and on
-- others none
abbrev pub NumbersHandedOut : Type 0
NumbersHandedOut =
    (f : Originated) (losses : ℕ) (d : LosingDeployment) → IsDeployedLosing f losses d → (st : LossyState) (n at c : ℕ) → n < node_count d.base.shape → c < chan_count d.base.shape → (m : Store) → IsLosingAt f d st n m →
    CarryNumbers f.func d.base.layout d.base.shape d.base.inputs c (put_again d n m c) (sent_if d n at c (st.node n))

-- where an activation executes an instant, the store tells of each output that the node gives the next cell of its stream in the whole program
abbrev pub LosingTells : Type 0
LosingTells =
    (f : Originated) (losses : ℕ) (d : LosingDeployment) → IsDeployedLosing f losses d → (es : List LossyEvent) → NoneSoFar d losses es →
    (n : ℕ) → n < node_count d.base.shape → (m : Store) → IsLosingAt f d (state_after d es) n m → next_deed d es n ≡ Execute → (y x : ℕ) → GivesOutput d.base y n x →
    let count : ℕ = ((state_after d es).node n).executed in
    take (count + 1) (stream_of [] f.func d.base.inputs (slice_index_or d.base.layout.outs y 0))
    ≡ take count (stream_of [] f.func d.base.inputs (slice_index_or d.base.layout.outs y 0)) ++ told_cell (part_of d.base.layout n).flat.func.decls x (acted_losing d n count m) ∷ []

-- ---- whole runs

-- emitted nodes and their links are where a state has them: the stores; what is under way on each channel, which is what the state has in
-- transit there; how many rows each node has used; and what was shown of each output
pub record RunStands (f : Originated) (d : LosingDeployment) (st : LossyState) (w : NodesRunning) : Type 0 where
  pub nodes : (i : ℕ) → i < node_count d.base.shape → IsLosingAt f d st i (w.stores i)
  pub packets : (c : ℕ) → c < chan_count d.base.shape → CarryNumbers f.func d.base.layout d.base.shape d.base.inputs c (w.under_way c) (st.link c).transit
  pub used : (i : ℕ) → i < node_count d.base.shape → w.used i ≡ (st.node i).executed
  pub shown : (y i x : ℕ) → GivesOutput d.base y i x → w.shown_so_far i x ≡ take (st.node i).executed (stream_of [] f.func d.base.inputs (slice_index_or d.base.layout.outs y 0))

-- so it is along every list of events without an offence
abbrev pub LosingRunStands : Type 0
LosingRunStands =
    (f : Originated) (losses : ℕ) (d : LosingDeployment) → IsDeployedLosing f losses d → (memory : ℕ → Store) (events : List LossyEvent) → AllByRecursion (IsLossyEventOf d.base.shape) events → NoneSoFar d losses events →
    RunStands f d (state_after d events) (losing_run d memory events)
