-- A row of the table of routes.
use Rattle.std.proofs.Common.{◌≡◌, ℕ, ◌<◌, List, length, take, ap, ◌∙◌}
use Rattle.std.specs.Prelude.{slice_index_or}
use Rattle.std.specs.List.{count_by}
use Rattle.std.proofs.lemmas.List.{get_or_default}
use Rattle.lt_arch.specs.declared.chan.Chan.{Chan}
use Rattle.lt_place_reads.specs.declared.crossing.Crossing.{Crossing}
use Rattle.lt_place.specs.declared.layout.Part.{Part}
use Rattle.lt_place.specs.declared.layout.Layout.{Layout}
use Rattle.lt_place.specs.Layout.{no_crossing, no_part}
use Rattle.lt_net_node.specs.declared.route.Route.{Route}
use Rattle.lt_net_node.specs.Layout.{joins}
use Rattle.lt_net_bench.specs.Starts.{place_among, between_in, route_to}

-- the row that code makes of a crossing and of its sender
pub route_is : (l : Layout) (cs : List Chan) (c : ℕ) → c < length l.cross → (slice_index_or l.cross c no_crossing).from < length l.nodes →
    (cross : List Crossing) → cross ≡ l.cross → (nodes : List Part) → nodes ≡ l.nodes → (d : Crossing) (q : Part) → q ≡ slice_index_or nodes (slice_index_or cross c d).from q → (outs : List ℕ) → outs ≡ q.outs →
    (out channel place : ℕ) → out ≡ place_among outs (slice_index_or cross c d).var → channel ≡ between_in cs (slice_index_or cross c d).from (slice_index_or cross c d).to →
    place ≡ count_by (joins (slice_index_or cross c d).from (slice_index_or cross c d).to) (take c cross) → ◌≡◌ {A = Route} (record { out = out; channel = channel; place = place }) (route_to l cs c)
route_is l cs c lt sender cross cross_is nodes nodes_is d q q_is outs outs_are out channel place out_is channel_is place_is =
    let row : slice_index_or cross c d ≡ slice_index_or l.cross c no_crossing = ap (λ (xs : List Crossing). slice_index_or xs c d) cross_is ∙ get_or_default l.cross c d no_crossing lt in
    let part : q ≡ slice_index_or l.nodes (slice_index_or l.cross c no_crossing).from no_part =
    q_is ∙ (λ i. slice_index_or (nodes_is i) (row i).from q) ∙ get_or_default l.nodes (slice_index_or l.cross c no_crossing).from q no_part sender in
    let outs_there : outs ≡ (slice_index_or l.nodes (slice_index_or l.cross c no_crossing).from no_part).outs = outs_are ∙ ap (λ (p : Part). p.outs) part in
    let out_there : out ≡ (route_to l cs c).out = out_is ∙ (λ i. place_among (outs_there i) (row i).var) in
    let channel_there : channel ≡ (route_to l cs c).channel = channel_is ∙ (λ i. between_in cs (row i).from (row i).to) in
    let place_there : place ≡ (route_to l cs c).place = place_is ∙ (λ i. count_by (joins (row i).from (row i).to) (take c (cross_is i))) in
    λ i. record { out = out_there i; channel = channel_there i; place = place_there i }
