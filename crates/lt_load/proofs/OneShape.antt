-- The layouts of a function under one placement have equal shapes.
use Rattle.std.proofs.Common.{◌≡◌, ◌≢◌, ◌∙◌, ℕ, ◌<◌, ◌≤◌, ◌==◌, ◌&&◌, ◌||◌, not, Bool, true, false, List, length, Some, refl, sym, ap, subst, All, AllPairs, eq-eqb, eqb-true}
use Rattle.std.specs.List.{AllPass, list_any}
use Rattle.std.proofs.lemmas.Bool.{and_parts, and_from}
use Rattle.std.proofs.lemmas.List.{get_or_default}
use Rattle.std.proofs.lemmas.List.Folds.{Any-from_list_any, list_any_at}
use Rattle.lt_base.specs.declared.value.Value.{Value}
use Rattle.lt_base.specs.Expression.{variable, delayed}
use Rattle.lt_base.specs.Meaning.{right_of}
use Rattle.lt_arch.specs.declared.chan.Chan.{Chan}
use Rattle.lt_arch.specs.declared.chan.ChanKind.{ChanKind}
use Rattle.lt_arch.specs.declared.chan.ChanKind.TheVariants.{Data, Ack}
use Rattle.lt_arch.specs.declared.timing.Protocol.{Protocol}
use Rattle.lt_arch.specs.declared.timing.Protocol.TheVariants.{BackPressure, TimeBased}
use Rattle.lt_arch.specs.declared.shape.Shape.{Shape}
use Rattle.lt_arch.specs.Names.{is_identifier}
use Rattle.lt_arch.specs.Ends.{HasEnds}
use Rattle.lt_norm.specs.Flat.{Originated}
use Rattle.lt_place_reads.specs.declared.crossing.Crossing.{Crossing}
use Rattle.lt_place.specs.declared.layout.Layout.{Layout}
use Rattle.lt_arch.specs.declared.placement.Placement.{Placement}
use Rattle.lt_place.specs.Layout.{IsLayoutOf, HasCrossings, crossing_of, no_crossing}
use Rattle.lt_place.specs.Nodes.{node_of}
use Rattle.lt_net_node.specs.Layout.{joins}
use Rattle.lt_net_node.specs.Channels.{has_channel, all_chans, channels_of}
use Rattle.lt_arch.specs.declared.pace.Pace.{Pace}
use Rattle.lt_arch.specs.declared.pace.Pace.TheVariants.{Plain, Lossy, Leader}
use Rattle.lt_lead.specs.Channels.{is_leader_channel, lead_channels}
use Rattle.lt_lead.specs.Paced.{IsShapeBy}
use Rattle.lt_arch.specs.declared.timing.Timing.{Timing}
use denote.Struct.Props.{props}

-- two shapes with the same nodes and channels are equal

-- a shape without what it keeps
record Drawing : Type 0 where
  nodes : List (List ℕ)
  channels : List Chan

abbrev drawing_of : Shape → Drawing
drawing_of s = record { nodes = s.nodes; channels = s.channels }

abbrev DrawingFacts : Drawing → Type 0
DrawingFacts d =
    (1 ≤ length d.nodes) × AllPass is_identifier d.nodes × AllPairs (λ a b. a ≢ b) d.nodes × All (HasEnds (length d.nodes)) d.channels × AllPairs (λ a b. a ≢ b) d.channels

abbrev shape_made : (d : Drawing) → DrawingFacts d → Shape
shape_made d f = record { nodes = d.nodes; channels = d.channels; inhabited = f.0; identifiers = f.1; names_differ = f.2; ends = f.3; channels_differ = f.4 }

drawing_facts : (d : Drawing) → IsProp (DrawingFacts d)
drawing_facts d = hlevel props

pub one_drawn : (a b : Shape) → a.nodes ≡ b.nodes → a.channels ≡ b.channels → a ≡ b
one_drawn a b nodes channels =
    let drawing : drawing_of a ≡ drawing_of b = λ i. record { nodes = nodes i; channels = channels i } in
    subst (λ d. (q : DrawingFacts d) → a ≡ shape_made d q) drawing
    (λ q. ap (shape_made (drawing_of a)) (drawing_facts (drawing_of a) (a.inhabited, a.identifiers, a.names_differ, a.ends, a.channels_differ) q))
    (b.inhabited, b.identifiers, b.names_differ, b.ends, b.channels_differ)

-- where something crosses

crossed_at : (l : Layout) (i j : ℕ) → list_any (joins i j) l.cross ≡ true → (k : ℕ) × (k < length l.cross) × ((crossing_of l k).from ≡ i) × ((crossing_of l k).to ≡ j)
unfolding crossing_of
crossed_at l i j h =
    let at = Any-from_list_any (joins i j) l.cross h in
    let both = and_parts _ _ at.4 in
    let e : crossing_of l at.0 ≡ at.1 = get_or_default l.cross at.0 no_crossing at.1 at.2 ∙ at.3 in
    (at.0, at.2, ap (λ (cr : Crossing). cr.from) e ∙ eqb-true _ _ both.0, ap (λ (cr : Crossing). cr.to) e ∙ eqb-true _ _ both.1)

joined : (l : Layout) (i j k : ℕ) → k < length l.cross → (crossing_of l k).from ≡ i → (crossing_of l k).to ≡ j → list_any (joins i j) l.cross ≡ true
unfolding crossing_of
joined l i j k lt from to =
    list_any_at (joins i j) l.cross k no_crossing lt (and_from ((crossing_of l k).from == i) ((crossing_of l k).to == j) (eq-eqb (crossing_of l k).from i from) (eq-eqb (crossing_of l k).to j to))

one_variable : (v w : Value) (x y : ℕ) → Some (delayed v (variable x)) ≡ Some (delayed w (variable y)) → y ≡ x
one_variable v w x y is = cc

same_truth : (a b : Bool) → (a ≡ true → b ≡ true) → (b ≡ true → a ≡ true) → a ≡ b
same_truth true true there back = refl
same_truth true false there back = sym (there refl)
same_truth false true there back = back refl
same_truth false false there back = refl

module _ (f : Originated) (p : Placement) where
  -- a crossing of one layout is one of the other, by its reader
  crosses_too : (l m : Layout) → HasCrossings f p l → HasCrossings f p m → (i j : ℕ) → list_any (joins i j) l.cross ≡ true → list_any (joins i j) m.cross ≡ true
  crosses_too l m ls ms i j h =
      let k = crossed_at l i j h in
      let cr = crossing_of l k.0 in
      let apart : node_of f p cr.var ≢ node_of f p cr.reader = λ e. ls.apart k.0 k.1 (ls.from_node k.0 k.1 ∙ e ∙ sym (ls.to_node k.0 k.1)) in
      let c = ms.all cr.reader cr.first cr.var (ls.readers k.0 k.1) apart in
      let there = crossing_of m c.0 in
      let read : right_of f.func.eqs cr.reader ≡ Some (delayed there.first (variable there.var)) = subst (λ x. right_of f.func.eqs x ≡ Some (delayed there.first (variable there.var))) c.2 (ms.readers c.0 c.1) in
      let var : there.var ≡ cr.var = one_variable cr.first there.first cr.var there.var (sym (ls.readers k.0 k.1) ∙ read) in
      joined m i j c.0 c.1
      (ms.from_node c.0 c.1 ∙ ap (node_of f p) var ∙ sym (ls.from_node k.0 k.1) ∙ k.2)
      (ms.to_node c.0 c.1 ∙ ap (node_of f p) c.2 ∙ sym (ls.to_node k.0 k.1) ∙ k.3)

  module _ (l m : Layout) (ll : IsLayoutOf f p l) (lm : IsLayoutOf f p m) where
    joins_same : (i j : ℕ) → list_any (joins i j) l.cross ≡ list_any (joins i j) m.cross
    joins_same i j = same_truth _ _ (crosses_too l m ll.crossings lm.crossings i j) (crosses_too m l lm.crossings ll.crossings i j)

    names_same : l.names ≡ m.names
    names_same = ll.names ∙ sym lm.names

    has_same : (pr : Protocol) (kind : ChanKind) (i j : ℕ) → has_channel l.cross pr kind i j ≡ has_channel m.cross pr kind i j
    has_same BackPressure Data i j = joins_same i j
    has_same BackPressure Ack i j = joins_same j i
    has_same TimeBased Data i j = refl
    has_same TimeBased Ack i j = refl

    pub channels_same : (pr : Protocol) → channels_of l pr ≡ channels_of m pr
    channels_same pr = λ t. all_chans (λ kind i j. has_same pr kind i j t) (length (names_same t))

    leads_same : (leader : ℕ) (kind : ChanKind) (i j : ℕ) → is_leader_channel l.cross leader kind i j ≡ is_leader_channel m.cross leader kind i j
    leads_same leader Data i j = ap (λ b. not (i == j) && ((i == leader) || b)) (joins_same i j)
    leads_same leader Ack i j = refl

    pub lead_channels_same : (leader : ℕ) → lead_channels l leader ≡ lead_channels m leader
    lead_channels_same leader = λ t. all_chans (λ kind i j. leads_same leader kind i j t) (length (names_same t))

    -- so the shapes are equal
    pub one_shape : (pace : Pace) (t : Timing) (s z : Shape) → IsShapeBy l pace t s → IsShapeBy m pace t z → s ≡ z
    one_shape Plain t s z is it = one_drawn s z (is.nodes ∙ names_same ∙ sym it.nodes) (is.channels ∙ channels_same t.protocol ∙ sym it.channels)
    one_shape (Lossy losses) t s z is it = one_drawn s z (is.nodes ∙ names_same ∙ sym it.nodes) (is.channels ∙ channels_same BackPressure ∙ sym it.channels)
    one_shape (Leader leader) t s z is it = one_drawn s z (is.nodes ∙ names_same ∙ sym it.nodes) (is.channels ∙ lead_channels_same leader ∙ sym it.channels)
