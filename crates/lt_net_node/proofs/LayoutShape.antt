-- The shape of a placed layout fits it.
use Rattle.std.proofs.Common.{◌≡◌, ◌≢◌, ℕ, ◌<◌, ◌==◌, true, List, length, refl, sym, ap, ◌∙◌, subst, AllPairs, eq-eqb, ne_eqb}
use Rattle.std.specs.List.{list_any}
use Rattle.std.proofs.lemmas.Bool.{not_from_false}
use Rattle.lt_arch.specs.declared.chan.Chan.{Chan}
use Rattle.lt_arch.specs.declared.chan.ChanKind.{ChanKind}
use Rattle.lt_arch.specs.declared.chan.ChanKind.TheVariants.{Data, Ack}
use Rattle.lt_arch.specs.declared.timing.Protocol.{Protocol}
use Rattle.lt_arch.specs.declared.timing.Protocol.TheVariants.{BackPressure, TimeBased}
use Rattle.lt_arch.specs.declared.shape.Shape.{Shape}
use Rattle.lt_arch.specs.Readers.{node_count, chan_count, chan_of, from_of, to_of, carries_data, is_data}
use Rattle.lt_arch.specs.Shapes.{IsBackPressureShape, IsTimeBasedShape}
use Rattle.lt_norm.specs.Flat.{Originated}
use Rattle.lt_place_reads.specs.declared.crossing.Crossing.{Crossing}
use Rattle.lt_place.specs.declared.layout.Layout.{Layout}
use Rattle.lt_place.specs.Layout.{IsPlaced, HasCrossings}
use Rattle.lt_net_node.specs.Layout.{joins}
use Rattle.lt_net_node.specs.Channels.{has_channel, channel, all_chans, IsShapeOf, IsCrossed, FitsLayout, ShapesFit}
use Rattle.lt_arch.specs.declared.nodes.NamedNodes.{NamedNodes}
use Rattle.lt_arch.specs.NodeNames.{names_of}
use Rattle.lt_net_node.proofs.ChannelOrder.{IsWanted}
use Rattle.lt_net_node.proofs.DrawnShape.{Makes, data_kind, crossed_at, drawn_makes}
use Rattle.lt_net_node.proofs.DrawnShape as drawn

-- The two kinds.

abbrev other : ChanKind → ChanKind
other Data = Ack
other Ack = Data

other_differs : (k : ChanKind) → is_data (other k) ≢ is_data k
other_differs Data h = cc
other_differs Ack h = cc

answered : (cross : List Crossing) (k : ChanKind) (i j : ℕ) → has_channel cross BackPressure k i j ≡ true → has_channel cross BackPressure (other k) j i ≡ true
answered cross Data i j h = h
answered cross Ack i j h = h

only_data_by : (cross : List Crossing) (k : ChanKind) (i j : ℕ) → has_channel cross TimeBased k i j ≡ true → is_data k ≡ true
only_data_by cross Data i j h = refl
only_data_by cross Ack i j h = absurd (cc)

data_by : (cross : List Crossing) (p : Protocol) (i j : ℕ) → list_any (joins i j) cross ≡ true → i ≢ j → has_channel cross p Data i j ≡ true
data_by cross BackPressure i j h ne = h
data_by cross TimeBased i j h ne = not_from_false (i == j) (ne_eqb i j ne)

module _ (f : Originated) (l : Layout) (placed : IsPlaced f l) where
  cs : HasCrossings f placed.placement l
  cs = placed.layout.crossings

  apart_by : (p : Protocol) (kind : ChanKind) (i j : ℕ) → has_channel l.cross p kind i j ≡ true → i ≢ j
  apart_by BackPressure Data i j h e = let k = crossed_at f l placed i j h in cs.apart k.0 k.1 (k.2 ∙ e ∙ sym k.3)
  apart_by BackPressure Ack i j h e = let k = crossed_at f l placed j i h in cs.apart k.0 k.1 (k.2 ∙ sym e ∙ sym k.3)
  apart_by TimeBased Data i j h e = let same = eq-eqb i j e in absurd (cc)
  apart_by TimeBased Ack i j h e = absurd (cc)

  module _ (p : Protocol) (s : Shape) (is : IsShapeOf l p s) where
    same_nodes : node_count s ≡ length l.names
    same_nodes = ap length is.nodes

    wanted : (c : ℕ) → c < chan_count s → IsWanted (has_channel l.cross p) (length l.names) (chan_of s c)
    wanted c lt = drawn.wanted f l placed (has_channel l.cross p) (apart_by p) (data_by l.cross p) s is.nodes is.channels c lt

    there_at : (kind : ChanKind) (i j : ℕ) → i < length l.names → j < length l.names → has_channel l.cross p kind i j ≡ true → (c : ℕ) × (c < chan_count s) × (chan_of s c ≡ channel kind i j)
    there_at kind i j li lj h = drawn.there_at f l placed (has_channel l.cross p) (apart_by p) (data_by l.cross p) s is.nodes is.channels kind i j li lj h

    has_answers : p ≡ BackPressure → IsBackPressureShape s
    has_answers e c lt =
        let w = wanted c lt in
        let back = answered l.cross (chan_of s c).kind (from_of s c) (to_of s c) (subst (λ q. has_channel l.cross q (chan_of s c).kind (from_of s c) (to_of s c) ≡ true) e w.is) in
        let d = there_at (other (chan_of s c).kind) (to_of s c) (from_of s c) w.to_in w.from_in (subst (λ q. has_channel l.cross q (other (chan_of s c).kind) (to_of s c) (from_of s c) ≡ true) (sym e) back) in (
          d.0,
          d.1,
          record {
            from_is = ap (λ (ch : Chan). ch.from) d.2;
            to_is = ap (λ (ch : Chan). ch.to) d.2;
            other_kind = λ same. other_differs (chan_of s c).kind (sym (ap (λ (ch : Chan). is_data ch.kind) d.2) ∙ same);
          },
        )

    only_data : p ≡ TimeBased → (c : ℕ) → c < chan_count s → carries_data s c ≡ true
    only_data e c lt = only_data_by l.cross (chan_of s c).kind (from_of s c) (to_of s c) (subst (λ q. has_channel l.cross q (chan_of s c).kind (from_of s c) (to_of s c) ≡ true) e (wanted c lt).is)

    pub has_all : p ≡ TimeBased → IsTimeBasedShape s
    has_all e = record {
      only_data = only_data e;
      linked = λ i j li lj ne.
          let c = there_at Data i j (subst (λ k. i < k) same_nodes li) (subst (λ k. j < k) same_nodes lj) (subst (λ q. has_channel l.cross q Data i j ≡ true) (sym e) (not_from_false (i == j) (ne_eqb i j ne))) in
          (c.0, c.1, ap (λ (ch : Chan). ch.from) c.2, ap (λ (ch : Chan). ch.to) c.2);
    }

    crossed : p ≡ BackPressure → (c : ℕ) → c < chan_count s → carries_data s c ≡ true → IsCrossed l s c
    crossed e c lt carries =
        let h : has_channel l.cross BackPressure (chan_of s c).kind (from_of s c) (to_of s c) ≡ true = subst (λ q. has_channel l.cross q (chan_of s c).kind (from_of s c) (to_of s c) ≡ true) e (wanted c lt).is in
        crossed_at f l placed (from_of s c) (to_of s c) (subst (λ k. has_channel l.cross BackPressure k (from_of s c) (to_of s c) ≡ true) (data_kind (chan_of s c).kind carries) h)

    pub fits : FitsLayout l p s
    fits = record {
      channels = drawn.has_channels f l placed (has_channel l.cross p) (apart_by p) (data_by l.cross p) s is.nodes is.channels;
      timed = λ t same. same ∙ sym same_nodes;
      back_pressure = has_answers;
      only_data = only_data;
      crossed = crossed;
      ordered = drawn.ordered f l placed (has_channel l.cross p) (apart_by p) (data_by l.cross p) s is.nodes is.channels;
      few = drawn.few f l placed (has_channel l.cross p) (apart_by p) (data_by l.cross p) s is.nodes is.channels;
      empty = drawn.empty f l placed (has_channel l.cross p) (apart_by p) (data_by l.cross p) s is.nodes is.channels;
    }

pub makes : (f : Originated) (l : Layout) (placed : IsPlaced f l) (p : Protocol) (names : List (List ℕ)) (cross : List Crossing) (n : ℕ) (chans : List Chan) →
    ((named : NamedNodes) → AllPairs (λ a b. a ≢ b) (names_of named.nodes)) → names ≡ l.names → cross ≡ l.cross → n ≡ length names → chans ≡ all_chans (has_channel cross p) n → Makes names chans
makes f l placed p names cross n chans differ same_names same_cross number is =
    let count : n ≡ length l.names = number ∙ ap length same_names in
    drawn_makes f l placed (has_channel l.cross p) (apart_by f l placed p) (data_by l.cross p) names chans differ same_names (is ∙ (λ i. all_chans (has_channel (same_cross i) p) (count i)))

pub shapes_fit : ShapesFit
shapes_fit f l p s placed is = (fits f l placed p s is, has_all f l placed p s is)
