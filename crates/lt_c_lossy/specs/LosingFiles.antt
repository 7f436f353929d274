-- The emitted file of a node whose links lose messages: its functions have the statements of the laws, and it keeps what they ask for.
use Rattle.std.specs.Prelude.{◌≡◌, ℕ, ◌<◌, List, length, Some, slice_get}
use Rattle.std.specs.List.{count_by}
use Rattle.lt_arch.specs.declared.pace.Pace.TheVariants.{Lossy}
use Rattle.lt_arch.specs.declared.shape.Shape.{Shape}
use Rattle.lt_arch.specs.declared.timing.Timing.{Timing}
use Rattle.lt_arch.specs.declared.timing.Protocol.TheVariants.{BackPressure}
use Rattle.lt_norm.specs.Flat.{Originated}
use Rattle.lt_place.specs.declared.layout.Layout.{Layout}
use Rattle.lt_place.specs.Layout.{IsPlaced}
use Rattle.lt_net_node.specs.Channels.{IsShapeOf}
use Rattle.lt_net_node.specs.Layout.{joins}
use Rattle.lt_c.specs.Tree.{Statement, perform}
use Rattle.lt_c_control.specs.Lossy.{losing}
use Rattle.lt_c_net.specs.Laws.{firsts_from}
use Rattle.lt_c_heads.specs.declared.file.Peer.{Peer}
use Rattle.lt_c_heads.specs.declared.file.NodeFile.{NodeFile}
use Rattle.lt_c_bodies.specs.Acts.{peer_numbers, posts_of, activation}
use Rattle.lt_c_bodies.specs.Starts.{first_data, starting_losing, starting_by}
use Rattle.lt_c_bodies.specs.Messages.{delivering_newer, acknowledging_newer, delivering_by, acknowledging_by, messaging}
use Rattle.lt_c_node.specs.NodeOf.{AreReceivers, IsFileOfNode}
use Rattle.lt_c_lossy.specs.Losing.{KeepsCrossings, losing_message}

-- of the nodes to which its messages go it keeps every crossing, and none twice
abbrev pub FilesKeepCrossings : Type 0
FilesKeepCrossings =
    (f : Originated) (l : Layout) (s : Shape) (n : ℕ) (ps : List Peer) → IsPlaced f l → IsShapeOf l BackPressure s → n < length l.nodes → AreReceivers l s.channels n ps → KeepsCrossings l n (posts_of ps)

-- the statements of which its functions are the texts: before the first event, at an activation, where something has come, and for what goes
pub record PrintsLosing (l : Layout) (n : ℕ) (file : NodeFile) : Type 0 where
  pub init : starting_by file.regime (first_data file.links.senders) file.links.answerers ≡ starting_losing (firsts_from l.cross n (peer_numbers file.links.senders)) file.links.answerers
  pub acts : (run : Statement) → activation file run ≡ losing (peer_numbers file.links.senders) file.links.answerers (posts_of file.links.receivers) (perform run)
  pub deliver : (i : ℕ) (p : Peer) → slice_get file.links.senders i ≡ Some p → delivering_by file.regime p.number (length p.values) ≡ delivering_newer p.number (count_by (joins p.number n) l.cross)
  pub acknowledge : (j : ℕ) → acknowledging_by file.regime j ≡ acknowledging_newer j
  pub sends : (i : ℕ) (p : Peer) → slice_get file.links.receivers i ≡ Some p → messaging file.regime p ≡ losing_message p.number (count_by (joins n p.number) l.cross)

-- they are those of the laws
abbrev pub LosingFilesPrint : Type 0
LosingFilesPrint = (l : Layout) (s : Shape) (t : Timing) (losses n : ℕ) (file : NodeFile) → IsFileOfNode l s t (Lossy losses) n file → PrintsLosing l n file
