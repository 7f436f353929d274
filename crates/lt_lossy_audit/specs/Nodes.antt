-- A node under back-pressure, as its activations show it: what it hears, does and sends.
use Rattle.std.specs.Prelude.{◌≡◌, ℕ, ◌+◌, ◌-◌, ◌==◌, ◌&&◌, ◌||◌, not, nat_lt, nat_le, Bool, true, false, List, slice_index_or, if◌then◌else◌}
use Rattle.lt_base.specs.Truths.{same_truth}
use Rattle.lt_arch.specs.declared.event.Deed.TheVariants.{Nothing}
use Rattle.lt_arch.specs.declared.shape.Shape.{Shape}
use Rattle.lt_arch.specs.State.{Phase, Wait, Ready, NodeState, unsent}
use Rattle.lt_arch.specs.Readers.{from_of, to_of, carries_data}
use Rattle.lt_arch.specs.Deeds.{deed_of, phase_after, all_below}
use Rattle.lt_arch.specs.Step.{is_execute}
use Rattle.lt_lossy.specs.State.{LinkState}
use Rattle.lt_lossy_audit.specs.declared.seen.Seen.{Seen}
use Rattle.lt_lossy_audit.specs.Links.{link_seen}

-- its phase, by whether it has executed an instant that it has not sent
abbrev pub phase_seen : Bool → Phase
phase_seen true = Ready
phase_seen false = Wait

-- how many instants it has sent
abbrev pub sent_seen : Seen → ℕ
sent_seen x = x.executed - unsent (phase_seen x.ready)

-- past the last node nothing is said
abbrev pub nothing_seen : Seen
nothing_seen = record { ready = false; executed = 0; did = Nothing }

abbrev pub node_seen : List Seen → (n : ℕ) → Seen
node_seen xs n = slice_index_or xs n nothing_seen

-- this is seen of a node in this state
pub record IsSeen (x : Seen) (v : NodeState) : Type 0 where
  pub phase : phase_seen x.ready ≡ v.phase
  pub executed : x.executed ≡ v.executed

-- channel c leads to node n and carries data, or acknowledgements
abbrev pub brings_to : Shape → (n : ℕ) → (data_kind : Bool) → (c : ℕ) → Bool
brings_to s n data_kind c = (to_of s c == n) && same_truth data_kind (carries_data s c)

-- each of these below i has delivered a message of this number or a newer one
abbrev pub hears_all : Shape → List LinkState → (n number : ℕ) → (data_kind : Bool) → (i : ℕ) → Bool
hears_all s ls n number data_kind i = all_below (λ c. not (brings_to s n data_kind c) || nat_le number (link_seen ls c).newest) i

-- a node was activated that heard this; whether some channel to it is fresh makes no difference
pub record SeenWakes (old new : Seen) (all_in all_ack : Bool) (rows : ℕ) : Type 0 where
  pub did : (some : Bool) → new.did ≡ deed_of (phase_seen old.ready) all_in some all_ack (nat_lt old.executed rows)
  pub phase : (p q : ℕ) → phase_seen new.ready ≡ phase_after p q (phase_seen old.ready) new.did
  pub executed : new.executed ≡ (if is_execute new.did then old.executed + 1 else old.executed)

-- what it counts on channel c
abbrev pub count_seen : Shape → Seen → (c : ℕ) → ℕ
count_seen s x c = if carries_data s c then sent_seen x else x.executed

-- node n sends there
abbrev pub sends_seen : Shape → (n : ℕ) → Seen → (c : ℕ) → Bool
sends_seen s n x c = (from_of s c == n) && nat_lt 0 (count_seen s x c)
