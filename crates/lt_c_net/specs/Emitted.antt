-- The code of a node, and what its functions leave.
use Rattle.std.specs.Prelude.{◌≡◌, ℕ, suc, ◌<◌, Bool, true, false, pos, List, [], ◌∷◌, length, Some, slice_get, slice_index_or, if◌then◌else◌}
use Rattle.lt_base.specs.declared.value.Cell.{Cell}
use Rattle.lt_base.specs.declared.value.Cell.TheVariants.{Absent, Here}
use Rattle.lt_base.specs.declared.function.Decl.{Decl}
use Rattle.lt_base.specs.Meaning.{ClockPairs, clock_of}
use Rattle.lt_base.specs.Operators.{int_eq}
use Rattle.lt_base.specs.Typing.{ty_at}
use Rattle.lt_arch.specs.declared.shape.Shape.{Shape}
use Rattle.lt_arch.specs.declared.timing.Protocol.{Protocol}
use Rattle.lt_arch.specs.declared.timing.Protocol.TheVariants.{BackPressure, TimeBased}
use Rattle.lt_arch.specs.declared.timing.Timing.{Timing}
use Rattle.lt_arch.specs.Readers.{send_of, execute_of}
use Rattle.lt_place.specs.declared.layout.Layout.{Layout}
use Rattle.lt_place.specs.Layout.{PartGives, part_of, crossing_of}
use Rattle.lt_net_node.specs.Layout.{crossing_place}
use Rattle.lt_step.specs.Code.{StepCode}
use Rattle.lt_c.specs.Tree.{slot, did, sent, executed, output, has, message_bit, message, c_var, Statement, assign, both, nothing, perform}
use Rattle.lt_c.specs.Meaning.{Store, c_truth_of, store_left}
use Rattle.lt_c_step.specs.declared.sources.Source.{Source}
use Rattle.lt_c_step.specs.declared.sources.Output.{Output}
use Rattle.lt_c_step.specs.Laws.{value_as}
use Rattle.lt_c_step.specs.Part.{part_step}
use Rattle.lt_c_control.specs.Control.{pressure, counting}
use Rattle.lt_c_control.specs.Inboxes.{DifferInNode}
use Rattle.lt_c_net.specs.Stands.{Packet}
use Rattle.lt_c_net.specs.Moves.{IsCodeOfNode}
use Rattle.lt_c_net.specs.Laws.{firsts_from, init_of}

-- of what the code of a node is made
pub record NodeCode : Type 0 where
  pub code : StepCode
  -- the nodes whose data comes, and those whose acknowledgements come
  pub ins : List ℕ
  pub acks : List ℕ
  -- where inputs come from, and which variables are shown
  pub sources : List Source
  pub outputs : List Output
  -- the slots of the values that are sent to a node, in order
  pub slots_for : ℕ → List ℕ

-- it is that of node n of a placed program
pub record IsEmittedNode (l : Layout) (s : Shape) (n : ℕ) (node : NodeCode) : Type 0 where
  pub made : IsCodeOfNode l s n node.code node.ins node.acks node.sources node.outputs
  pub differ : DifferInNode (firsts_from l.cross n node.ins)
  -- each output of the program that the part gives is shown, by its number in the part
  pub shows : (y x : ℕ) → y < length l.outs → PartGives (part_of l n) (slice_index_or l.outs y 0) x →
      (i : ℕ) × (slice_get node.outputs i ≡ Some (record { output_number = x; from_slot = x; guard = clock_of (part_of l n).flat.func.decls x }))
  -- a message to a node has the value of each variable that crosses to it, at its place
  pub sends : (c x : ℕ) → c < length l.cross → (crossing_of l c).from ≡ n → PartGives (part_of l n) (crossing_of l c).var x →
      slice_get (node.slots_for (crossing_of l c).to) (crossing_place l c) ≡ Some x

-- ---- its functions

-- before the first event
abbrev pub needs_countdown : Protocol → Bool
needs_countdown BackPressure = false
needs_countdown TimeBased = true

abbrev pub init_tree : Layout → Timing → (n : ℕ) → NodeCode → Statement
init_tree l t n node = init_of node.code (firsts_from l.cross n node.ins) node.acks (needs_countdown t.protocol)

-- an activation, under each protocol
abbrev pub activation_under : Protocol → (send execute : ℕ) → NodeCode → Statement
activation_under BackPressure send execute node = pressure node.ins node.acks (perform (part_step node.sources node.outputs node.code))
activation_under TimeBased send execute node = counting send execute node.ins (perform (part_step node.sources node.outputs node.code))

abbrev pub activation_tree : Timing → (n : ℕ) → NodeCode → Statement
activation_tree t n node = activation_under t.protocol (send_of t n) (execute_of t n) node

-- the values of these slots are those of a message, from place k on
abbrev pub values_tree : (k : ℕ) → List ℕ → Statement
values_tree k [] = nothing
values_tree k (x ∷ xs) = both (assign (message k) (c_var (slot x))) (values_tree (suc k) xs)

-- the message to a node: its bit, and these values
abbrev pub message_tree : List ℕ → Statement
message_tree xs = both (assign message_bit (c_var sent)) (values_tree 0 xs)

-- ---- what they tell

-- an activation executed an instant, or sent messages
abbrev pub has_executed : Store → Bool
has_executed m = int_eq (m did) (pos 1)

abbrev pub has_sent : Store → Bool
has_sent m = int_eq (m did) (pos 2)

-- the message that is sent to node j, and the acknowledgement that is sent to each node whose data came
abbrev pub packet_in : Store → Packet
packet_in m = record { mark = m message_bit; values = λ k. m (message k) }

abbrev pub packet_for : NodeCode → (j : ℕ) → Store → Packet
packet_for node j m = packet_in (store_left (message_tree (node.slots_for j)) m)

abbrev pub answer_packet : Store → Packet
answer_packet m = record { mark = m executed; values = λ k. pos 0 }

-- a variable that is shown has a value where its clock has conditions and that is told, or where it has none
abbrev pub is_told : ClockPairs → ℕ → Store → Bool
is_told [] x m = true
is_told (p ∷ ck) x m = c_truth_of (m (has x))

abbrev pub told_cell : List Decl → ℕ → Store → Cell
told_cell ds x m = if is_told (clock_of ds x) x m then Here (value_as (ty_at ds x) (m (output x))) else Absent
