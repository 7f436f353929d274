-- A shape with a placed layout's nodes and with channels that include one for data wherever something crosses.
use Rattle.std.proofs.Common.{◌≡◌, ◌≢◌, inl, inr, ℕ, zero, suc, ◌<◌, ◌≤◌, ◌*◌, ◌==◌, Bool, true, false, List, [], ◌∷◌, length, map, Some, refl, sym, ap, ◌∙◌, subst, arith, All, AllPairs, Contains, get_or, slice_index_or, eq-eqb, lt-ltb, eqb-true}
use Rattle.std.specs.Prelude.{filter}
use Rattle.std.specs.List.{list_any, position, position_or_len}
use Rattle.std.specs.Option.{unwrap_or}
use Rattle.std.proofs.lemmas.Bool.{cases_Bool, cases_order, and_parts, and_from, false_from_ne_true}
use Rattle.std.proofs.lemmas.List.{get_or_default}
use Rattle.std.proofs.lemmas.List.Folds.{Any-from_list_any, list_any_at}
use Rattle.std.proofs.lemmas.List.Quantifiers.{position-Some}
use Rattle.std.proofs.lemmas.List.Elements.{All-weaker}
use Rattle.lt_arch.specs.declared.chan.Chan.{Chan}
use Rattle.lt_arch.specs.declared.chan.ChanKind.{ChanKind}
use Rattle.lt_arch.specs.declared.chan.ChanKind.TheVariants.{Data, Ack}
use Rattle.lt_arch.specs.declared.shape.Shape.{Shape}
use Rattle.lt_arch.specs.Ends.{HasEnds}
use Rattle.lt_arch.specs.Readers.{node_count, chan_count, no_chan, chan_of, from_of, to_of, carries_data, is_data}
use Rattle.lt_base.specs.Value.{ty_of}
use Rattle.lt_norm.specs.Flat.{Originated}
use Rattle.lt_place_reads.specs.declared.crossing.Crossing.{Crossing}
use Rattle.lt_place.specs.declared.layout.Layout.{Layout}
use Rattle.lt_place.specs.Layout.{IsPlaced, HasCrossings, crossing_of, no_crossing}
use Rattle.lt_net_node.specs.Layout.{joins}
use Rattle.lt_net_node.specs.Payloads.{carries_between, channel_between, types_for}
use Rattle.lt_net_node.specs.Channels.{HasChannels, channel, all_chans, IsBefore, IsCrossed}
use Rattle.lt_arch.specs.declared.nodes.NamedNodes.{NamedNodes}
use Rattle.lt_arch.specs.NodeNames.{names_of}
use Rattle.lt_net_node.proofs.Named.{AreNames, are_names}
use Rattle.lt_net_node.proofs.ChannelOrder.{IsWanted, all_length, all_ordered, all_wanted, all_there, before-differ, before-apart}

-- The first place that passes a test.

first_below : {X : Type 0} (p : X → Bool) (xs : List X) (k : ℕ) (d : X) → k < length xs → p (get_or xs k d) ≡ true → position_or_len p xs ≤ k
first_below p [] k d lt h = absurd (omega (arith, lt))
first_below p (x ∷ xs) zero d lt h = rw h (omega arith)
first_below p (x ∷ xs) (suc k) d lt h =
    let rest = first_below p xs k d (omega (arith, lt)) h in
    elim (cases_Bool (p x)) [
      | inl e ↦ rw e (omega arith)
      | inr e ↦ rw e (omega (arith, rest))
    ]

pub found : {X : Type 0} (p : X → Bool) (xs : List X) (k : ℕ) (d : X) → k < length xs → p (get_or xs k d) ≡ true → position p xs ≡ Some (position_or_len p xs)
found p xs k d lt h = let first = first_below p xs k d lt h in rw (lt-ltb (position_or_len p xs) (length xs) (omega (arith, first, lt))) refl

none_pass : {X : Type 0} (p : X → Bool) (xs : List X) → ((k : ℕ) (d : X) → k < length xs → p (get_or xs k d) ≡ false) → filter p xs ≡ []
none_pass p [] h = refl
none_pass p (x ∷ xs) h = rw (h 0 x (omega arith)) (none_pass p xs (λ k d lt. h (suc k) d (omega (arith, lt))))

-- Data.

pub data_kind : (k : ChanKind) → is_data k ≡ true → k ≡ Data
data_kind Data h = refl
data_kind Ack h = absurd (cc)

module _ (f : Originated) (l : Layout) (placed : IsPlaced f l) where
  cs : HasCrossings f placed.placement l
  cs = placed.layout.crossings

  -- Where something crosses.

  pub crossed_at : (i j : ℕ) → list_any (joins i j) l.cross ≡ true → (k : ℕ) × (k < length l.cross) × ((crossing_of l k).from ≡ i) × ((crossing_of l k).to ≡ j)
  unfolding crossing_of
  crossed_at i j h =
      let at = Any-from_list_any (joins i j) l.cross h in
      let both = and_parts _ _ at.4 in
      let e : crossing_of l at.0 ≡ at.1 = get_or_default l.cross at.0 no_crossing at.1 at.2 ∙ at.3 in
      (at.0, at.2, ap (λ (cr : Crossing). cr.from) e ∙ eqb-true _ _ both.0, ap (λ (cr : Crossing). cr.to) e ∙ eqb-true _ _ both.1)

  joined : (k : ℕ) → k < length l.cross → list_any (joins (crossing_of l k).from (crossing_of l k).to) l.cross ≡ true
  unfolding crossing_of
  joined k lt = list_any_at (joins (crossing_of l k).from (crossing_of l k).to) l.cross k no_crossing lt (and_from ((crossing_of l k).from == (crossing_of l k).from) ((crossing_of l k).to == (crossing_of l k).to) (eq-eqb (crossing_of l k).from (crossing_of l k).from refl) (eq-eqb (crossing_of l k).to (crossing_of l k).to refl))

  -- channels each between two different nodes, among them one for data wherever something crosses
  module _ (has : ChanKind → ℕ → ℕ → Bool) (apart : (kind : ChanKind) (i j : ℕ) → has kind i j ≡ true → i ≢ j)
      (carried : (i j : ℕ) → list_any (joins i j) l.cross ≡ true → i ≢ j → has Data i j ≡ true) where
    -- What a shape asks of its channels.

    pub ends : All (HasEnds (length l.names)) (all_chans has (length l.names))
    ends = All-weaker (IsWanted has (length l.names)) (HasEnds (length l.names)) (λ ch w. record { from_in = w.from_in; to_in = w.to_in; differ = apart ch.kind ch.from ch.to w.is }) (all_chans has (length l.names)) (all_wanted has (length l.names))

    pub channels_differ : AllPairs (λ a b. a ≢ b) (all_chans has (length l.names))
    channels_differ i j d lt within = before-differ _ _ (all_ordered has (length l.names) i j d lt within)

    module _ (s : Shape) (nodes_are : s.nodes ≡ l.names) (channels_are : s.channels ≡ all_chans has (length l.names)) where
      pub same_nodes : node_count s ≡ length l.names
      same_nodes = ap length nodes_are

      named_nodes : length l.nodes ≡ length l.names
      named_nodes = placed.layout.nodes ∙ sym (ap length placed.layout.names)

      pub wanted : (c : ℕ) → c < chan_count s → IsWanted has (length l.names) (chan_of s c)
      unfolding chan_of
      wanted c lt = subst (λ chans. All (IsWanted has (length l.names)) chans) (sym channels_are) (all_wanted has (length l.names)) c no_chan lt

      pub there_at : (kind : ChanKind) (i j : ℕ) → i < length l.names → j < length l.names → has kind i j ≡ true → (c : ℕ) × (c < chan_count s) × (chan_of s c ≡ channel kind i j)
      unfolding chan_of
      there_at kind i j li lj h =
          let at : Contains s.channels (channel kind i j) = subst (λ chans. Contains chans (channel kind i j)) (sym channels_are) (all_there has (length l.names) kind i j li lj h) in
          (at.0, at.1, get_or_default s.channels at.0 no_chan (channel kind i j) at.1 ∙ at.2)

      pub ordered : AllPairs IsBefore s.channels
      ordered = subst (λ chans. AllPairs IsBefore chans) (sym channels_are) (all_ordered has (length l.names))

      in_order : (c d : ℕ) → c < d → d < chan_count s → IsBefore (chan_of s c) (chan_of s d)
      unfolding chan_of
      in_order c d lt within = ordered c d no_chan lt within

      -- the data channel between two nodes, if there is one
      between : (i j c : ℕ) → c < chan_count s → chan_of s c ≡ channel Data i j →
          (channel_between s i j < chan_count s) × (carries_data s (channel_between s i j) ≡ true) × (from_of s (channel_between s i j) ≡ i) × (to_of s (channel_between s i j) ≡ j)
      unfolding chan_of channel_between
      between i j c lt e =
          let test : carries_between i j (slice_index_or s.channels c no_chan) ≡ true = ap (carries_between i j) e ∙ and_from _ _ refl (and_from _ _ (eq-eqb i i refl) (eq-eqb j j refl)) in
          let at : position (carries_between i j) s.channels ≡ Some (position_or_len (carries_between i j) s.channels) = found (carries_between i j) s.channels c no_chan lt test in
          let here = position-Some (carries_between i j) s.channels (position_or_len (carries_between i j) s.channels) no_chan at in
          let both = and_parts _ _ here.1 in
          let two = and_parts _ _ both.1 in
          let place : channel_between s i j ≡ position_or_len (carries_between i j) s.channels = ap (λ o. unwrap_or o (length s.channels)) at in
          (subst (λ k. k < chan_count s) (sym place) here.0, ap (carries_data s) place ∙ both.0, ap (from_of s) place ∙ eqb-true _ _ two.0, ap (to_of s) place ∙ eqb-true _ _ two.1)

      of_crossing : (k : ℕ) → k < length l.cross → (c : ℕ) × (c < chan_count s) × (chan_of s c ≡ channel Data (crossing_of l k).from (crossing_of l k).to)
      of_crossing k lt =
          let from = cs.senders k lt in
          let to = cs.receivers k lt in
          there_at Data (crossing_of l k).from (crossing_of l k).to (omega (arith, from, named_nodes)) (omega (arith, to, named_nodes)) (carried (crossing_of l k).from (crossing_of l k).to (joined k lt) (cs.apart k lt))

      crossing_channel : (k : ℕ) → k < length l.cross →
          (channel_between s (crossing_of l k).from (crossing_of l k).to < chan_count s) × (carries_data s (channel_between s (crossing_of l k).from (crossing_of l k).to) ≡ true)
          × (from_of s (channel_between s (crossing_of l k).from (crossing_of l k).to) ≡ (crossing_of l k).from) × (to_of s (channel_between s (crossing_of l k).from (crossing_of l k).to) ≡ (crossing_of l k).to)
      crossing_channel k lt = let c = of_crossing k lt in between (crossing_of l k).from (crossing_of l k).to c.0 c.1 c.2

      once_at : (c d : ℕ) → c < d → d < chan_count s → carries_data s c ≡ true → carries_data s d ≡ true → from_of s c ≡ from_of s d → to_of s c ≡ to_of s d → ⊥
      once_at c d lt within hc hd from to =
          before-apart (chan_of s c) (chan_of s d) (in_order c d lt within) (data_kind (chan_of s c).kind hc ∙ sym (data_kind (chan_of s d).kind hd)) from to

      pub has_channels : HasChannels l s
      has_channels = record {
        nodes = same_nodes ∙ sym named_nodes;
        ends = λ c lt. let w = (wanted c lt).from_in in omega (arith, w, named_nodes);
        there = λ k lt. (crossing_channel k lt).0;
        carries = λ k lt. (crossing_channel k lt).1;
        once = λ c d hc hd dc dd from to. elim (cases_order c d) [
          | inl e ↦ e
          | inr h ↦ elim h [
            | inl less ↦ absurd (once_at c d less hd dc dd from to)
            | inr less ↦ absurd (once_at d c less hc dd dc (sym from) (sym to))
          ]
        ];
        from = λ k lt. (crossing_channel k lt).2;
        to = λ k lt. (crossing_channel k lt).3;
      }

      none_joins : (c : ℕ) → (IsCrossed l s c → ⊥) → filter (joins (from_of s c) (to_of s c)) l.cross ≡ []
      none_joins c none = none_pass (joins (from_of s c) (to_of s c)) l.cross (λ k d lt. false_from_ne_true _ (λ h. none (crossed_at (from_of s c) (to_of s c) (list_any_at (joins (from_of s c) (to_of s c)) l.cross k d lt h))))

      pub empty : (c : ℕ) → (IsCrossed l s c → ⊥) → types_for l s c ≡ []
      empty c none = elim (cases_Bool (carries_data s c)) [
        | inl e ↦ rw e (ap (map (λ (cr : Crossing). ty_of cr.first)) (none_joins c none))
        | inr e ↦ rw e refl
      ]

      pub few : chan_count s ≤ 2 * (length l.names * length l.names)
      few = subst (λ chans. length chans ≤ 2 * (length l.names * length l.names)) (sym channels_are) (all_length has (length l.names))

-- what is made of a layout's names and crossings keeps what a shape keeps
pub record Makes (names : List (List ℕ)) (chans : List Chan) : Type 0 where
  pub names_are : AreNames names
  pub ends : All (HasEnds (length names)) chans
  pub differ : AllPairs (λ a b. a ≢ b) chans

pub drawn_makes : (f : Originated) (l : Layout) (placed : IsPlaced f l) (has : ChanKind → ℕ → ℕ → Bool) → ((kind : ChanKind) (i j : ℕ) → has kind i j ≡ true → i ≢ j) →
    ((i j : ℕ) → list_any (joins i j) l.cross ≡ true → i ≢ j → has Data i j ≡ true) → (names : List (List ℕ)) (chans : List Chan) →
    ((named : NamedNodes) → AllPairs (λ a b. a ≢ b) (names_of named.nodes)) → names ≡ l.names → chans ≡ all_chans has (length l.names) → Makes names chans
drawn_makes f l placed has apart carried names chans differ same_names all = record {
  names_are = subst AreNames (sym (same_names ∙ placed.layout.names)) (are_names differ placed.placement);
  ends = subst (λ m. All (HasEnds m) chans) (sym (ap length same_names)) (subst (λ cs. All (HasEnds (length l.names)) cs) (sym all) (ends f l placed has apart carried));
  differ = subst (λ cs. AllPairs (λ a b. a ≢ b) cs) (sym all) (channels_differ f l placed has apart carried);
}
