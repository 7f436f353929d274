-- The other nodes, the lists of senders, and the phases of protocols.
use Rattle.std.specs.Prelude.{◌≢◌, ℕ, ◌<◌, ◌≤◌, ◌^◌, ◌==◌, ◌&&◌, Bool, List}
use Rattle.std.specs.List.{list_any}
use Rattle.lt_base.specs.declared.value.Value.{Value}
use Rattle.lt_arch.specs.declared.chan.Chan.{Chan}
use Rattle.lt_arch.specs.declared.event.Deed.{Deed}
use Rattle.lt_arch.specs.declared.shape.Shape.{Shape}
use Rattle.lt_arch.specs.State.{Phase}
use Rattle.lt_arch.specs.Readers.{node_count, is_data}
use Rattle.lt_arch.specs.Deeds.{deed_of, phase_after}
use Rattle.lt_link.specs.Ports.{numbers}
use Rattle.lt_base.specs.Truths.{same_truth}
use Rattle.lt_net_bench.specs.Bench.{BenchState}
use Rattle.lt_step.specs.Code.{StepCode}
use Rattle.lt_c.specs.Meaning.{Store}
use Rattle.lt_c_control.specs.Control.{IsCounting}
use Rattle.lt_c_net.specs.Stands.{NodeStands, ListsSenders, OneEach}
use Rattle.lt_c_net.specs.Laws.{Acts, IsPressing}
use Rattle.lt_machine.specs.declared.machine.Machine.{Ghosts as Machines}
use Rattle.lt_arch.specs.declared.controller.Controller.{Ghosts as Controls}

-- an activation of one node keeps the stores of all others standing as they are
abbrev pub OthersStay : {C M : Type 0} → (ctl : Controls C) (mch : Machines M) → Type 0
OthersStay {C} {M} ctl mch =
    (p q : BenchState C M) (n i : ℕ) (code : StepCode) (own rows : List (List Value)) (row : List Value) (deed : Deed) (m : Store) → i ≢ n →
    Acts ctl mch p q n row own deed → NodeStands ctl p i code rows m → NodeStands ctl q i code rows m

-- a channel of a kind leads from node j to node n
abbrev pub leads : (j n : ℕ) → (kind : Bool) → Chan → Bool
leads j n kind ch = (ch.from == j) && ((ch.to == n) && same_truth kind (is_data ch.kind))

-- the nodes, in order, from which one does: those that an emitted file names
abbrev pub senders_to : Shape → (n : ℕ) → (kind : Bool) → List ℕ
senders_to s n kind = numbers (λ j. list_any (leads j n kind) s.channels) (node_count s)

-- what deliveries and activations ask of the shape holds of each
abbrev pub ShapesServe : Type 0
ShapesServe = (s : Shape) (n : ℕ) (kind : Bool) → ListsSenders s.channels n kind (senders_to s n kind) × OneEach s.channels n kind

-- the phases of a protocol lead to each other
pub record PhasesStay : Type 0 where
  pub pressing : (ph : Phase) (send execute : ℕ) (ins some acks left : Bool) → IsPressing ph → IsPressing (phase_after send execute ph (deed_of ph ins some acks left))
  pub counting : (ph : Phase) (send execute : ℕ) (ins some acks left : Bool) → 1 ≤ send → send < 2 ^ 63 → 1 ≤ execute → execute < 2 ^ 63 → IsCounting ph → IsCounting (phase_after send execute ph (deed_of ph ins some acks left))
