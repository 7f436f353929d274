-- The code of a node, as its file has it.
use Rattle.std.specs.Prelude.{ℕ, ◌<◌, ◌==◌, List, [], ◌∷◌, length, map, if◌then◌else◌}
use Rattle.lt_arch.specs.declared.pace.Pace.{Pace}
use Rattle.lt_arch.specs.declared.shape.Shape.{Shape}
use Rattle.lt_arch.specs.declared.timing.Timing.{Timing}
use Rattle.lt_norm.specs.Flat.{Originated}
use Rattle.lt_place.specs.declared.layout.Layout.{Layout}
use Rattle.lt_place.specs.Layout.{IsPlaced}
use Rattle.lt_net_node.specs.Channels.{HasChannels}
use Rattle.lt_c_net.specs.Emitted.{NodeCode, IsEmittedNode}
use Rattle.lt_c_heads.specs.declared.file.Peer.{Peer}
use Rattle.lt_c_heads.specs.declared.file.NodeFile.{NodeFile}
use Rattle.lt_c_bodies.specs.Acts.{peer_numbers}
use Rattle.lt_c_node.specs.NodeOf.{IsFileOfNode}

-- the slots of the values that are sent to node j, in order
abbrev pub slots_to : (j : ℕ) → List Peer → List ℕ
slots_to j [] = []
slots_to j (p ∷ ps) = if j == p.number then map (λ v. v.from_slot) p.values else slots_to j ps

-- the code of which the file is made
abbrev pub code_of_file : NodeFile → NodeCode
code_of_file f = record {
  code = f.part.code;
  ins = peer_numbers f.links.senders;
  acks = f.links.answerers;
  sources = f.part.sources;
  outputs = f.part.outputs;
  slots_for = λ j. slots_to j f.links.receivers;
}

-- the code of the file of node n of a placed program is that of an emitted node n
abbrev pub FilesAreNodes : Type 0
FilesAreNodes =
    (f : Originated) (l : Layout) (s : Shape) (t : Timing) (pace : Pace) (n : ℕ) (file : NodeFile) → IsPlaced f l → HasChannels l s → n < length l.nodes →
    IsFileOfNode l s t pace n file → IsEmittedNode l s n (code_of_file file)
