-- The shape of a placed layout where a node leads fits it.
use Rattle.std.proofs.Common.{◌≡◌, ◌≢◌, ℕ, zero, suc, ◌<◌, ◌==◌, ◌&&◌, ◌||◌, Bool, true, false, not, List, length, refl, sym, ap, ◌∙◌, subst, AllPairs, eq-eqb, ne_eqb}
use Rattle.std.specs.List.{list_any}
use Rattle.std.proofs.lemmas.Bool.{and_parts, and_from, or_left, or_right, not_from_false, not_from_true}
use Rattle.lt_arch.specs.declared.chan.Chan.{Chan}
use Rattle.lt_arch.specs.declared.chan.ChanKind.{ChanKind}
use Rattle.lt_arch.specs.declared.chan.ChanKind.TheVariants.{Data, Ack}
use Rattle.lt_arch.specs.declared.shape.Shape.{Shape}
use Rattle.lt_arch.specs.Readers.{node_count, chan_count, chan_of, from_of, to_of, carries_data, is_data}
use Rattle.lt_norm.specs.Flat.{Originated}
use Rattle.lt_place_reads.specs.declared.crossing.Crossing.{Crossing}
use Rattle.lt_place.specs.declared.layout.Layout.{Layout}
use Rattle.lt_arch.specs.declared.nodes.NamedNodes.{NamedNodes}
use Rattle.lt_arch.specs.NodeNames.{names_of}
use Rattle.lt_place.specs.Layout.{IsPlaced}
use Rattle.lt_net_node.specs.Layout.{joins}
use Rattle.lt_net_node.specs.Channels.{chans_from, chans_below, all_chans}
use Rattle.lt_net_node.proofs.ChannelOrder.{IsWanted}
use Rattle.lt_net_node.proofs.DrawnShape.{Makes, drawn_makes}
use Rattle.lt_net_node.proofs.DrawnShape as drawn
use Rattle.lt_lead.specs.Shapes.{IsLeaderShape}
use Rattle.lt_lead.specs.Channels.{is_leader_channel, IsLeadShapeOf, LeadShapesFit}

-- there are no acknowledgement channels

no_acks_from : (cross : List Crossing) (leader i n : ℕ) (cs : List Chan) → chans_from (is_leader_channel cross leader) Ack i n cs ≡ cs
no_acks_from cross leader i zero cs = refl
no_acks_from cross leader i (suc j) cs = no_acks_from cross leader i j cs

pub no_acks : (cross : List Crossing) (leader n m : ℕ) (cs : List Chan) → chans_below (is_leader_channel cross leader) Ack n m cs ≡ cs
no_acks cross leader n zero cs = refl
no_acks cross leader n (suc i) cs = no_acks_from cross leader i n (chans_below (is_leader_channel cross leader) Ack n i cs) ∙ no_acks cross leader n i cs

-- where there is a channel

module _ (cross : List Crossing) (leader : ℕ) where
  apart : (kind : ChanKind) (i j : ℕ) → is_leader_channel cross leader kind i j ≡ true → i ≢ j
  apart Data i j h e = let same = not_from_true _ (eq-eqb i j e) in let other = (and_parts (not (i == j)) ((i == leader) || list_any (joins i j) cross) h).0 in cc
  apart Ack i j h e = cc

  carried : (i j : ℕ) → list_any (joins i j) cross ≡ true → i ≢ j → is_leader_channel cross leader Data i j ≡ true
  carried i j h other = and_from _ _ (not_from_false _ (ne_eqb i j other)) (or_right _ _ h)

  from_leader : (j : ℕ) → leader ≢ j → is_leader_channel cross leader Data leader j ≡ true
  from_leader j other = and_from _ _ (not_from_false _ (ne_eqb leader j other)) (or_left _ _ (eq-eqb leader leader refl))

  only_data_by : (kind : ChanKind) (i j : ℕ) → is_leader_channel cross leader kind i j ≡ true → is_data kind ≡ true
  only_data_by Data i j h = refl
  only_data_by Ack i j h = cc

module _ (f : Originated) (l : Layout) (placed : IsPlaced f l) (leader : ℕ) (s : Shape) (is : IsLeadShapeOf l leader s) where
  wanted : (c : ℕ) → c < chan_count s → IsWanted (is_leader_channel l.cross leader) (length l.names) (chan_of s c)
  wanted c lt = drawn.wanted f l placed (is_leader_channel l.cross leader) (apart l.cross leader) (carried l.cross leader) s is.nodes is.channels c lt

  same_nodes : node_count s ≡ length l.names
  same_nodes = ap length is.nodes

  only_data : (c : ℕ) → c < chan_count s → carries_data s c ≡ true
  only_data c lt = only_data_by l.cross leader (chan_of s c).kind (from_of s c) (to_of s c) (wanted c lt).is

  pub is_leader_shape : leader < length l.names → IsLeaderShape s leader
  is_leader_shape within = record {
    leader_in = subst (λ k. leader < k) (sym same_nodes) within;
    only_data = only_data;
    linked = λ j jw other.
        let c = drawn.there_at f l placed (is_leader_channel l.cross leader) (apart l.cross leader) (carried l.cross leader) s is.nodes is.channels Data leader j within (subst (λ k. j < k) same_nodes jw) (from_leader l.cross leader j other) in
        (c.0, c.1, ap (λ (ch : Chan). ch.from) c.2, ap (λ (ch : Chan). ch.to) c.2);
  }

pub lead_shapes_fit : LeadShapesFit
lead_shapes_fit f l leader s placed within is = (
  record {
    channels = drawn.has_channels f l placed (is_leader_channel l.cross leader) (apart l.cross leader) (carried l.cross leader) s is.nodes is.channels;
    timed = λ t same. same ∙ sym (ap length is.nodes);
    back_pressure = λ e. cc;
    only_data = λ e. only_data f l placed leader s is;
    crossed = λ e. cc;
    ordered = drawn.ordered f l placed (is_leader_channel l.cross leader) (apart l.cross leader) (carried l.cross leader) s is.nodes is.channels;
    few = drawn.few f l placed (is_leader_channel l.cross leader) (apart l.cross leader) (carried l.cross leader) s is.nodes is.channels;
    empty = drawn.empty f l placed (is_leader_channel l.cross leader) (apart l.cross leader) (carried l.cross leader) s is.nodes is.channels;
  },
  is_leader_shape f l placed leader s is within,
)

-- what is made of a layout's names and crossings keeps what a shape keeps
pub makes : (f : Originated) (l : Layout) (placed : IsPlaced f l) (leader : ℕ) (names : List (List ℕ)) (cross : List Crossing) (n : ℕ) (chans : List Chan) →
    ((named : NamedNodes) → AllPairs (λ a b. a ≢ b) (names_of named.nodes)) → names ≡ l.names → cross ≡ l.cross → n ≡ length names → chans ≡ all_chans (is_leader_channel cross leader) n → Makes names chans
makes f l placed leader names cross n chans differ same_names same_cross number is =
    let count : n ≡ length l.names = number ∙ ap length same_names in
    drawn_makes f l placed (is_leader_channel l.cross leader) (apart l.cross leader) (carried l.cross leader) names chans differ same_names (is ∙ (λ i. all_chans (is_leader_channel (same_cross i) leader) (count i)))
