-- The channels of crossings, and what a deployment has of them.
use Rattle.std.proofs.Common.{◌≡◌, ℕ, ◌<◌, Bool, true, false, not, List, length, map, filter, refl, sym, ap, ◌∙◌, subst, arith}
use Rattle.std.specs.Prelude.{◌&&◌, ◌==◌, slice_index_or}
use Rattle.std.specs.List.{count_by}
use Rattle.std.proofs.lemmas.Option.{slice_get_within}
use Rattle.std.proofs.lemmas.List.{length-map}
use Rattle.std.proofs.lemmas.List.Sums.{length-filter}
use Rattle.lt_arch.specs.declared.timing.Protocol.TheVariants.{BackPressure}
use Rattle.lt_arch.specs.declared.chan.Chan.{Chan}
use Rattle.lt_arch.specs.declared.shape.Shape.{Shape}
use Rattle.lt_arch.specs.Readers.{chan_of, from_of, to_of, carries_data, is_data, no_chan}
use Rattle.lt_link.specs.Ports.{is_to}
use Rattle.lt_norm.specs.Flat.{Originated}
use Rattle.lt_place_reads.specs.declared.crossing.Crossing.{Crossing}
use Rattle.lt_place.specs.declared.layout.Layout.{Layout}
use Rattle.lt_place.specs.Layout.{crossing_of}
use Rattle.lt_net_node.specs.Layout.{joins, crossing_place}
use Rattle.lt_net_node.specs.Channels.{HasChannels, FitsLayout}
use Rattle.lt_net_node.proofs.LayoutShape.{shapes_fit}
use Rattle.lt_net_bench.proofs.Entries.{same_number}
use Rattle.lt_c_net.specs.Stands.{sender}
use Rattle.lt_c_lossy.specs.Crossed.{crossing_channel}
use Rattle.lt_c_lossy.specs.LosingRuns.{LosingDeployment}
use Rattle.lt_c_lossy.specs.LosingWholeRuns.{IsDeployedLosing}
use Rattle.lt_c_lossy.proofs.Whole.{entry_between}

-- the shape of a deployment fits its layout
pub fits_of : (f : Originated) (losses : ℕ) (d : LosingDeployment) → IsDeployedLosing f losses d → FitsLayout d.base.layout BackPressure d.base.shape
fits_of f losses d is = (shapes_fit f d.base.layout BackPressure d.base.shape is.placed is.paced.shaped).0

-- no channel is of both kinds
pub one_kind_to : (cs : List Chan) (n c : ℕ) → is_to cs n true c ≡ true → is_to cs n false c ≡ false
one_kind_to cs n c h = by_kind ((slice_index_or cs c no_chan).to == n) (is_data (slice_index_or cs c no_chan).kind) h
  where
    by_kind : (a b : Bool) → (a && b) ≡ true → (a && not b) ≡ false
    by_kind true true h = refl
    by_kind true false h = absurd (cc)
    by_kind false b h = refl

module _ (l : Layout) (s : Shape) (channels : HasChannels l s) where
  pub channel_sender : (x : ℕ) → x < length l.cross → sender s.channels (crossing_channel l s x) ≡ (crossing_of l x).from
  unfolding chan_of
  channel_sender x lt = channels.from x lt

  leads : (to n : ℕ) (is : Bool) → to ≡ n → is ≡ true → ((to == n) && is) ≡ true
  leads to n is e yea = ap (λ (b : Bool). (to == n) && b) yea ∙ subst (λ to. ((to == n) && true) ≡ true) (sym e) (ap (λ (b : Bool). b && true) (same_number n))

  pub channel_to : (x n : ℕ) → x < length l.cross → (crossing_of l x).to ≡ n → is_to s.channels n true (crossing_channel l s x) ≡ true
  unfolding chan_of
  channel_to x n lt to = leads (to_of s (crossing_channel l s x)) n (carries_data s (crossing_channel l s x)) (channels.to x lt ∙ to) (channels.carries x lt)

  -- a crossing stands within the messages of its channel
  pub place_within : (x : ℕ) → x < length l.cross → crossing_place l x < count_by (joins (crossing_of l x).from (crossing_of l x).to) l.cross
  place_within x lt =
      let i : ℕ = (crossing_of l x).from in
      let j : ℕ = (crossing_of l x).to in
      let w = slice_get_within (map (λ (cr : Crossing). cr.first) (filter (joins i j) l.cross)) (crossing_place l x) (crossing_of l x).first (entry_between l (λ cr. cr.first) x lt) in
      let count : length (map (λ (cr : Crossing). cr.first) (filter (joins i j) l.cross)) ≡ count_by (joins i j) l.cross = length-map (filter (joins i j) l.cross) (λ (cr : Crossing). cr.first) ∙ length-filter (joins i j) l.cross in
      omega (arith, w, count)

  pub place_in_channel : (x c : ℕ) → x < length l.cross → crossing_channel l s x ≡ c → crossing_place l x < count_by (joins (from_of s c) (to_of s c)) l.cross
  place_in_channel x c lt is =
      subst (λ i. crossing_place l x < count_by (joins i (to_of s c)) l.cross) (sym (channels.from x lt) ∙ ap (from_of s) is)
      (subst (λ j. crossing_place l x < count_by (joins (crossing_of l x).from j) l.cross) (sym (channels.to x lt) ∙ ap (to_of s) is) (place_within x lt))
