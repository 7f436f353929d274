-- What a message holds is what an instant sees.
use Rattle.std.proofs.Common.{◌≡◌, ℕ, zero, suc, ◌<◌, true, List, [], length, map, take, filter, refl, sym, ap, ◌∙◌, inl, inr}
use Rattle.std.specs.Prelude.{slice_index_or, ◌&&◌, ◌==◌}
use Rattle.std.specs.List.{count_by}
use Rattle.std.proofs.lemmas.Bool.Decides.{eqb_tells}
use Rattle.std.proofs.lemmas.Option.{get_or_from_slice_get, slice_get-get_or}
use Rattle.lt_base.specs.declared.value.Value.{Value}
use Rattle.lt_arch.specs.declared.shape.Shape.{Shape}
use Rattle.lt_arch.specs.Readers.{from_of, to_of}
use Rattle.lt_place_reads.specs.declared.crossing.Crossing.{Crossing}
use Rattle.lt_place.specs.declared.layout.Layout.{Layout}
use Rattle.lt_net_node.specs.Layout.{joins, crossing_place}
use Rattle.lt_place.specs.Layout.{crossing_of, no_crossing}
use Rattle.lt_net_node.specs.Local.{arrived}
use Rattle.lt_net_node.specs.Payloads.{payloads_between, message_of, channel_between}
use Rattle.lt_net_bench.proofs.CrossingPlaces.{place_entry}

same_number : (i : ℕ) → (i == i) ≡ true
same_number i = elim (eqb_tells i i) [ inl h ↦ h.0 | inr h ↦ absurd (h.1 refl) ]

joins_own : (cr : Crossing) → joins cr.from cr.to cr ≡ true
joins_own cr = ap (λ b. b && (cr.to == cr.to)) (same_number cr.from) ∙ same_number cr.to

literal_at : (l : Layout) (c : ℕ) → c < length l.cross →
    slice_index_or (map (λ (cr : Crossing). cr.first) (filter (joins (crossing_of l c).from (crossing_of l c).to) l.cross)) (crossing_place l c) (crossing_of l c).first ≡ (crossing_of l c).first
unfolding crossing_of crossing_place
literal_at l c h =
    let cr = slice_index_or l.cross c no_crossing in
    get_or_from_slice_get (map (λ (z : Crossing). z.first) (filter (joins cr.from cr.to) l.cross)) (count_by (joins cr.from cr.to) (take c l.cross)) cr.first cr.first (place_entry (joins cr.from cr.to) (λ (z : Crossing). z.first) l.cross c cr (slice_get-get_or l.cross c no_crossing h) (joins_own cr))

-- a crossing's value in message number m of its channel
pub read_at : (l : Layout) (s : Shape) (got : ℕ → List (List Value)) (c m ch : ℕ) → c < length l.cross → channel_between s (crossing_of l c).from (crossing_of l c).to ≡ ch → from_of s ch ≡ (crossing_of l c).from → to_of s ch ≡ (crossing_of l c).to →
    slice_index_or (message_of l s got ch m) (crossing_place l c) (crossing_of l c).first ≡ arrived l (payloads_between s got) m c
read_at l s got c zero ch h is from to =
    ap (λ i. slice_index_or (map (λ (cr : Crossing). cr.first) (filter (joins i (to_of s ch)) l.cross)) (crossing_place l c) (crossing_of l c).first) from
    ∙ ap (λ j. slice_index_or (map (λ (cr : Crossing). cr.first) (filter (joins (crossing_of l c).from j) l.cross)) (crossing_place l c) (crossing_of l c).first) to
    ∙ literal_at l c h
read_at l s got c (suc k) ch h is from to =
    ap (λ x. slice_index_or (slice_index_or (got x) k []) (crossing_place l c) (crossing_of l c).first) (sym is)
