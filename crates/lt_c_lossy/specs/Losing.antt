-- The code of a node whose links lose messages, and what its functions tell.
use Rattle.std.specs.Prelude.{◌≡◌, ℕ, ◌<◌, true, false, pos, int_lt, List, [], ◌∷◌, length, Some, slice_get, if◌then◌else◌}
use Rattle.lt_arch.specs.declared.chan.Chan.{Chan}
use Rattle.lt_arch.specs.declared.shape.Shape.{Shape}
use Rattle.lt_link.specs.Ports.{is_to}
use Rattle.lt_place.specs.declared.layout.Layout.{Layout}
use Rattle.lt_place.specs.Layout.{PartGives, part_of, crossing_of}
use Rattle.lt_net_node.specs.Layout.{crossing_place}
use Rattle.lt_c.specs.Tree.{executions, sendings, message, message_number, answer_number, c_var, Statement, assign, both, perform}
use Rattle.lt_c.specs.Meaning.{Store, store_left}
use Rattle.lt_c_step.specs.Translate.{of_firsts}
use Rattle.lt_c_step.specs.Part.{part_step}
use Rattle.lt_c_control.specs.declared.posts.Post.{Post}
use Rattle.lt_c_control.specs.Lossy.{losing, DifferAsPosts}
use Rattle.lt_c_net.specs.Stands.{sender, Packet}
use Rattle.lt_c_net.specs.Laws.{firsts_from}
use Rattle.lt_c_net.specs.Emitted.{NodeCode, IsEmittedNode}
use Rattle.lt_c_bodies.specs.Starts.{starting_losing}
use Rattle.lt_c_bodies.specs.Messages.{delivering_newer, acknowledging_newer, giving_again}

-- node n keeps these values to send them again: of what crosses from it, each at its place, and none twice
pub record KeepsCrossings (l : Layout) (n : ℕ) (posts : List Post) : Type 0 where
  pub differ : DifferAsPosts posts
  pub all_kept : (x v : ℕ) → x < length l.cross → (crossing_of l x).from ≡ n → PartGives (part_of l n) (crossing_of l x).var v →
      (i : ℕ) × (slice_get posts i ≡ Some (record { to_node = (crossing_of l x).to; at_place = crossing_place l x; from_slot = v }))

-- the code is that of node n of a placed program, and these are the values that it keeps
pub record IsLosingNode (l : Layout) (s : Shape) (n : ℕ) (node : NodeCode) (posts : List Post) : Type 0 where
  pub emitted : IsEmittedNode l s n node
  pub keeps : KeepsCrossings l n posts

-- ---- its functions

-- before the first event
abbrev pub losing_init : Layout → (n : ℕ) → NodeCode → Statement
losing_init l n node = both (of_firsts node.code.keeps) (starting_losing (firsts_from l.cross n node.ins) node.acks)

-- an activation
abbrev pub losing_activation : NodeCode → List Post → Statement
losing_activation node posts = losing node.ins node.acks posts (perform (part_step node.sources node.outputs node.code))

-- the message to node j, with so many values
abbrev pub losing_message : (j count : ℕ) → Statement
losing_message j count = both (assign message_number (c_var sendings)) (giving_again j count)

-- ---- what they tell

-- the last message to node j, and the last acknowledgement: the mark of a packet is its number
abbrev pub numbered_packet : Store → Packet
numbered_packet m = record { mark = m message_number; values = λ k. m (message k) }

abbrev pub message_again : (j count : ℕ) → Store → Packet
message_again j count m = numbered_packet (store_left (losing_message j count) m)

abbrev pub answer_again : Store → Packet
answer_again m = record { mark = m executions; values = λ k. pos 0 }

-- a packet is sent where its number is above 0
abbrev pub where_numbered : Packet → List Packet
where_numbered k = if int_lt (pos 0) k.mark then k ∷ [] else []

-- ---- what comes

-- a message has come, or an acknowledgement
abbrev pub handed_number : Packet → Store → Store
handed_number k m message_number = k.mark
handed_number k m (message i) = k.values i
handed_number k m answer_number = k.mark
handed_number k m p = m p

-- what the store of node n is after channel ch has delivered so many values: a message that is newer than the one in its inbox is put there
abbrev pub taken_newer : List Chan → (n ch count : ℕ) → Packet → Store → Store
taken_newer cs n ch count k m =
    if is_to cs n true ch then store_left (delivering_newer (sender cs ch) count) (handed_number k m)
    else (if is_to cs n false ch then store_left (acknowledging_newer (sender cs ch)) (handed_number k m) else m)
