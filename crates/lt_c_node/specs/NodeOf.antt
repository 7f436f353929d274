-- Which file is that of a node of a placed program.
use Rattle.std.specs.Prelude.{◌≡◌, ℕ, ◌<◌, length, ◌&&◌, ◌==◌, Bool, true, false, List, map, filter, position, unwrap_or, slice_index}
use Rattle.std.specs.List.{All}
use Rattle.lt_base.specs.Dependence.{has}
use Rattle.lt_base.specs.Meaning.{clock_of}
use Rattle.lt_arch.specs.declared.chan.Chan.{Chan}
use Rattle.lt_arch.specs.declared.chan.ChanKind.{ChanKind}
use Rattle.lt_arch.specs.declared.chan.ChanKind.TheVariants.{Data, Ack}
use Rattle.lt_arch.specs.declared.shape.Shape.{Shape}
use Rattle.lt_arch.specs.declared.timing.Timing.{Timing}
use Rattle.lt_arch.specs.declared.timing.Protocol.{Protocol}
use Rattle.lt_arch.specs.declared.timing.Protocol.TheVariants.{BackPressure, TimeBased}
use Rattle.lt_arch.specs.declared.pace.Pace.{Pace}
use Rattle.lt_arch.specs.declared.pace.Pace.TheVariants.{Plain, Lossy, Leader}
use Rattle.lt_arch.specs.Readers.{time_at, is_data}
use Rattle.lt_place_reads.specs.declared.crossing.Crossing.{Crossing}
use Rattle.lt_place_reads.specs.Origins.{origin_of}
use Rattle.lt_place.specs.declared.layout.Feed.{Feed}
use Rattle.lt_place.specs.declared.layout.Feed.TheVariants.{Input, Cross}
use Rattle.lt_place.specs.declared.layout.Part.{Part}
use Rattle.lt_place.specs.declared.layout.Layout.{Layout}
use Rattle.lt_place.specs.Layout.{part_of, crossing_of}
use Rattle.lt_net_node.specs.Layout.{joins, crossing_place}
use Rattle.lt_step.specs.Compile.{CodeOf}
use Rattle.lt_c.specs.Text.{name_at}
use Rattle.lt_c_step.specs.declared.sources.Source.{Source}
use Rattle.lt_c_step.specs.declared.sources.Source.TheVariants.{Given, Arrived}
use Rattle.lt_c_step.specs.declared.sources.Output.{Output}
use Rattle.lt_c_heads.specs.declared.file.Carried.{Carried}
use Rattle.lt_c_heads.specs.declared.file.Peer.{Peer}
use Rattle.lt_c_heads.specs.declared.file.Regime.{Regime}
use Rattle.lt_c_heads.specs.declared.file.Regime.TheVariants.{Pressing, Counting, Losing}
use Rattle.lt_c_heads.specs.declared.file.PartCode.{PartCode}
use Rattle.lt_c_heads.specs.declared.file.Correspondence.{Correspondence}
use Rattle.lt_c_heads.specs.declared.file.NodeFile.{NodeFile}
use Rattle.lt_c_heads.specs.Words.{made_from}
use Rattle.lt_c_bodies.specs.Acts.{peer_numbers}
use Rattle.lt_c_node.specs.NodeText.{emitted_text}

-- ---- the step

-- where the input x of a part comes from: from outside, or with the messages of a node, at the place of its crossing
abbrev pub source_of : Layout → (x : ℕ) → Feed → Source
source_of l x (Input i) = Given x
source_of l x (Cross c) = Arrived (crossing_of l c).from (crossing_place l c)

-- a feed is an input, or a crossing of the layout
abbrev pub IsFeedOf : Layout → Feed → Type 0
IsFeedOf l (Input i) = Unit {0}
IsFeedOf l (Cross c) = c < length l.cross

abbrev pub sources_of : Layout → List Feed → List Source
sources_of l ds = made_from (source_of l) 0 ds

-- a variable that a part gives out is an output of the program
abbrev pub is_output : Layout → Part → ℕ → Bool
is_output l q x = has (origin_of q.flat x) l.outs

-- it is shown under its number in the part, by its clock there
abbrev pub output_for : Part → ℕ → Output
output_for q x = record { output_number = x; from_slot = x; guard = clock_of q.flat.func.decls x }

abbrev pub outputs_of : Layout → Part → List Output
outputs_of l q = map (output_for q) (filter (is_output l q) q.flat.func.outs)

-- ---- messages

-- the number that a variable which a part gives out has there
abbrev pub given_slot : Part → ℕ → ℕ
given_slot q v = slice_index q.flat.func.outs (unwrap_or (position (λ u. u == v) q.outs) 0)

-- what a crossing carries
abbrev pub carried_by : Part → Crossing → Carried
carried_by q cr = record { from_slot = given_slot q cr.var; first = cr.first; meant = name_at q.flat.func.decls (given_slot q cr.var) }

abbrev pub carried : Layout → Crossing → Carried
carried l cr = carried_by (part_of l cr.from) cr

-- it is from one of so many nodes
abbrev pub StartsBelow : ℕ → Crossing → Type 0
StartsBelow count cr = cr.from < count

-- the values of the messages from node i to node j, in order
abbrev pub values_between : Layout → (i j : ℕ) → List Carried
values_between l i j = map (carried l) (filter (joins i j) l.cross)

-- the channels for data to node n and from it, and those for acknowledgements to it
abbrev pub brings_data : (n : ℕ) → Chan → Bool
brings_data n ch = is_data ch.kind && (ch.to == n)

abbrev pub takes_data : (n : ℕ) → Chan → Bool
takes_data n ch = is_data ch.kind && (ch.from == n)

abbrev pub is_answer : ChanKind → Bool
is_answer Data = false
is_answer Ack = true

abbrev pub brings_answers : (n : ℕ) → Chan → Bool
brings_answers n ch = is_answer ch.kind && (ch.to == n)

-- the nodes whose data comes, in the order of channels, with what they send
pub record AreSenders (l : Layout) (channels : List Chan) (n : ℕ) (ps : List Peer) : Type 0 where
  pub numbers : peer_numbers ps ≡ map (λ ch. ch.from) (filter (brings_data n) channels)
  pub values : All (λ p. p.values ≡ values_between l p.number n) ps

-- those to which data goes, with what they are sent
pub record AreReceivers (l : Layout) (channels : List Chan) (n : ℕ) (ps : List Peer) : Type 0 where
  pub numbers : peer_numbers ps ≡ map (λ ch. ch.to) (filter (takes_data n) channels)
  pub values : All (λ p. p.values ≡ values_between l n p.number) ps

-- ---- the controller

-- losses ask for numbers; else it is that of the protocol, also where a node leads, whose countdowns are those of the timing
abbrev pub protocol_regime : Protocol → Timing → (n : ℕ) → Regime
protocol_regime BackPressure t n = Pressing
protocol_regime TimeBased t n = Counting (time_at t n)

abbrev pub regime_of : Pace → Timing → (n : ℕ) → Regime
regime_of Plain t n = protocol_regime t.protocol t n
regime_of (Lossy losses) t n = Losing
regime_of (Leader leader) t n = protocol_regime t.protocol t n

-- ---- the file

-- the part of a node with its step code, which is that of the part by an order of its equations
pub record IsPartCodeOf (l : Layout) (q : Part) (p : PartCode) : Type 0 where
  pub decls : p.decls ≡ q.flat.func.decls
  pub code : CodeOf q.flat.func p.code
  pub sources : p.sources ≡ sources_of l q.feeds
  pub outputs : p.outputs ≡ outputs_of l q

-- the nodes with which node n exchanges messages over these channels
pub record AreLinksOf (l : Layout) (channels : List Chan) (n : ℕ) (c : Correspondence) : Type 0 where
  pub senders : AreSenders l channels n c.senders
  pub receivers : AreReceivers l channels n c.receivers
  pub answerers : c.answerers ≡ map (λ ch. ch.from) (filter (brings_answers n) channels)

-- the file is that of node n of a layout, with the channels, the bounds of time and the pace of its setup
pub record IsFileOfNode (l : Layout) (s : Shape) (t : Timing) (pace : Pace) (n : ℕ) (f : NodeFile) : Type 0 where
  pub names : f.names ≡ l.names
  pub node : f.node ≡ n
  pub part : IsPartCodeOf l (part_of l n) f.part
  pub links : AreLinksOf l s.channels n f.links
  pub regime : f.regime ≡ regime_of pace t n

-- the text is that of such a file, or of its header
pub record IsEmitted (l : Layout) (s : Shape) (t : Timing) (pace : Pace) (n : ℕ) (header : Bool) (text : List ℕ) : Type 0 where
  pub file : NodeFile
  pub is_file : IsFileOfNode l s t pace n file
  pub is_text : text ≡ emitted_text header file
