-- What a node that executes is fed with, and where its outputs go.
use Rattle.std.proofs.Common.{◌≡◌, ◌≢◌, ◌⊎◌, inl, inr, ℕ, ◌<◌, Bool, true, List, [], ◌∷◌, ◌++◌, length, map, filter, take, Some, refl, sym, ap, ◌∙◌, subst, arith, eq-eqb, ne_eqb}
use Rattle.std.specs.Prelude.{slice_index_or, ◌==◌, ◌&&◌}
use Rattle.std.specs.List.{slice_get, count_by}
use Rattle.std.proofs.lemmas.Bool.Decides.{eqb_tells}
use Rattle.std.proofs.lemmas.Option.{slice_get_within, slice_get-get_or}
use Rattle.lt_base.specs.declared.value.Value.{Value}
use Rattle.lt_base.specs.declared.value.Cell.{Cell}
use Rattle.lt_base.specs.declared.value.Cell.TheVariants.{Absent}
use Rattle.lt_base.specs.Program.{Function}
use Rattle.lt_arch.specs.declared.shape.Shape.{Shape}
use Rattle.lt_arch.specs.Readers.{from_of, to_of}
use Rattle.lt_place_reads.specs.declared.crossing.Crossing.{Crossing}
use Rattle.lt_place.specs.declared.layout.Layout.{Layout}
use Rattle.lt_place.specs.Layout.{PartGives, part_of, crossing_of, no_crossing}
use Rattle.lt_net_node.specs.declared.route.Route.{Route}
use Rattle.lt_net_bench.specs.declared.exit.Exit.{Exit}
use Rattle.lt_net_node.specs.Layout.{IsLaidOut, joins, crossing_place}
use Rattle.lt_net_node.specs.Payloads.{channel_between}
use Rattle.lt_net_bench.specs.Track.{TrackState, track_at}
use Rattle.lt_net_node.specs.Fed.{route_of}
use Rattle.lt_net_bench.specs.Routes.{AreRoutes, AreExits, exit_of, filled, tracked}
use Rattle.lt_net_node.specs.Channels.{HasChannels}
use Rattle.lt_net_bench.proofs.CrossingPlaces.{place_entry}
use Rattle.lt_net_bench.proofs.InstantTables.{tracked-here, tracked-other, filled-other}

-- an output of a node gets its cell, and any other output keeps its cells
module _ (f : Function) (l : Layout) (laid : IsLaidOut f l) (exits : List Exit) (are : AreExits l exits) (n : ℕ) (nl : n < length l.nodes) (outs : List Cell) (count : length outs ≡ length (part_of l n).outs)
    (ts us : List TrackState) (size : length ts ≡ length l.outs) (is : us ≡ tracked exits n outs (length exits) ts) where
  exit_gives : (y : ℕ) → y < length l.outs → (x : ℕ) × PartGives (part_of l (exit_of exits y).node) (slice_index_or l.outs y 0) x
  exit_gives y lt =
      let m = (exit_of exits y).node in
      let at = are.outs y lt in
      let w = slice_get_within (part_of l m).outs (exit_of exits y).out (slice_index_or l.outs y 0) at in
      let same = laid.outs m (are.nodes y lt) in
      (slice_index_or (part_of l m).flat.func.outs (exit_of exits y).out 0, record { place = (exit_of exits y).out; out = at; own = slice_get-get_or (part_of l m).flat.func.outs (exit_of exits y).out 0 (omega (arith, w, same)) })

  here : (y x : ℕ) → y < length l.outs → (gives : PartGives (part_of l n) (slice_index_or l.outs y 0) x) → (c : Cell) × (slice_get outs gives.place ≡ Some c) × ((track_at us y).cells ≡ (track_at ts y).cells ++ c ∷ [])
  here y x lt gives =
      let given = exit_gives y lt in
      let node : (exit_of exits y).node ≡ n = laid.one_node (exit_of exits y).node n (slice_index_or l.outs y 0) given.0 x (are.nodes y lt) nl given.1 gives in
      let place : (exit_of exits y).out ≡ gives.place = laid.one_place n (exit_of exits y).out gives.place (slice_index_or l.outs y 0) nl (subst (λ m. slice_get (part_of l m).outs (exit_of exits y).out ≡ Some (slice_index_or l.outs y 0)) node (are.outs y lt)) gives.out in
      let w = slice_get_within (part_of l n).outs gives.place (slice_index_or l.outs y 0) gives.out in
      let cell : slice_get outs gives.place ≡ Some (slice_index_or outs gives.place Absent) = slice_get-get_or outs gives.place Absent (omega (arith, w, count)) in (
        slice_index_or outs gives.place Absent,
        cell,
        ap (λ xs. (track_at xs y).cells) is
            ∙ tracked-here exits n outs ts (length exits) y (omega (arith, lt, are.size)) (omega (arith, lt, size)) (eq-eqb (exit_of exits y).node n node)
            ∙ ap (λ p. (track_at ts y).cells ++ slice_index_or outs p Absent ∷ []) place,
      )

  pub appends : (y i x : ℕ) → y < length l.outs → i < length l.nodes → (gives : PartGives (part_of l i) (slice_index_or l.outs y 0) x) →
      ((i ≡ n) × (c : Cell) × (slice_get outs gives.place ≡ Some c) × ((track_at us y).cells ≡ (track_at ts y).cells ++ c ∷ [])) ⊎ (i ≢ n) × ((track_at us y).cells ≡ (track_at ts y).cells)
  appends y i x lt il gives = elim (eqb_tells i n) [
    | inl e ↦
        let moved : PartGives (part_of l n) (slice_index_or l.outs y 0) x = record { place = gives.place; out = ap (λ j. slice_get (part_of l j).outs gives.place) (sym e.1) ∙ gives.out; own = ap (λ j. slice_get (part_of l j).flat.func.outs gives.place) (sym e.1) ∙ gives.own } in
        let h = here y x lt moved in
        inl (e.1, h.0, h.1, h.2)
    | inr e ↦
        let given = exit_gives y lt in
        let other : (exit_of exits y).node ≢ n = λ same. e.1 (sym (laid.one_node (exit_of exits y).node i (slice_index_or l.outs y 0) given.0 x (are.nodes y lt) il given.1 gives) ∙ same) in
        inr (e.1, ap (λ xs. (track_at xs y).cells) is ∙ ap (λ (z : TrackState). z.cells) (tracked-other exits n outs ts (length exits) y (ne_eqb (exit_of exits y).node n other)))
  ]

same_number : (i : ℕ) → (i == i) ≡ true
same_number i = eq-eqb i i refl

-- two crossings on one channel have two places
module _ (f : Function) (l : Layout) (s : Shape) (laid : IsLaidOut f l) (channels : HasChannels l s) (routes : List Route) (are : AreRoutes l s routes) where
  reader_entry : (i j c : ℕ) → c < length l.cross → (crossing_of l c).from ≡ i → (crossing_of l c).to ≡ j → slice_get (map (λ (z : Crossing). z.reader) (filter (joins i j) l.cross)) (crossing_place l c) ≡ Some ((crossing_of l c).reader)
  unfolding crossing_of crossing_place
  reader_entry i j c lt from to =
      let cr = slice_index_or l.cross c no_crossing in
      let p : ℕ → ℕ → Bool = λ a b. joins a b cr in
      let fits : joins cr.from cr.to cr ≡ true = ap (λ b. b && (cr.to == cr.to)) (same_number cr.from) ∙ same_number cr.to in
      subst (λ i. slice_get (map (λ (z : Crossing). z.reader) (filter (joins i j) l.cross)) (count_by (joins cr.from cr.to) (take c l.cross)) ≡ Some cr.reader) from
      (subst (λ j. slice_get (map (λ (z : Crossing). z.reader) (filter (joins cr.from j) l.cross)) (count_by (joins cr.from cr.to) (take c l.cross)) ≡ Some cr.reader) to
      (place_entry (joins cr.from cr.to) (λ (z : Crossing). z.reader) l.cross c cr (slice_get-get_or l.cross c no_crossing lt) fits))

  pub places_apart : (b c : ℕ) → b < length l.cross → c < length l.cross → b ≢ c → (crossing_of l b).from ≡ (crossing_of l c).from → (route_of routes c).channel ≡ (route_of routes b).channel → (route_of routes c).place ≢ (route_of routes b).place
  places_apart b c lb lc ne from same place =
      let i = (crossing_of l c).from in
      let j = (crossing_of l c).to in
      let channel : channel_between s (crossing_of l c).from (crossing_of l c).to ≡ channel_between s (crossing_of l b).from (crossing_of l b).to = sym (are.channels c lc) ∙ same ∙ are.channels b lb in
      let to : (crossing_of l b).to ≡ j = sym (channels.to b lb) ∙ ap (to_of s) (sym channel) ∙ channels.to c lc in
      let at : crossing_place l b ≡ crossing_place l c = sym (are.places b lb) ∙ sym place ∙ are.places c lc in
      let eb = reader_entry i j b lb from to in
      let ec = reader_entry i j c lc refl refl in
      let q : Some ((crossing_of l b).reader) ≡ Some ((crossing_of l c).reader) = sym eb ∙ ap (slice_get (map (λ (z : Crossing). z.reader) (filter (joins i j) l.cross))) at ∙ ec in
      ne (laid.one_reader b c lb lc (cc))

  -- a channel that does not lead from the node keeps its payload
  pub unfilled : (n : ℕ) (outs : List Cell) (ps qs : List (List Value)) → qs ≡ filled l.cross routes n outs (length l.cross) ps → (k : ℕ) → from_of s k ≢ n → slice_index_or qs k [] ≡ slice_index_or ps k []
  unfolding crossing_of
  unfilled n outs ps qs is k other =
      ap (λ xs. slice_index_or xs k []) is ∙ filled-other l.cross routes n outs ps (length l.cross) k (λ c lt on e.
      let from : (slice_index_or l.cross c no_crossing).from ≡ n = is_from c on in
      other (ap (from_of s) (e ∙ are.channels c lt) ∙ channels.from c lt ∙ from))
    where
      is_from : (c : ℕ) → ((slice_index_or l.cross c no_crossing).from == n) ≡ true → (slice_index_or l.cross c no_crossing).from ≡ n
      is_from c on = elim (eqb_tells (slice_index_or l.cross c no_crossing).from n) [ inl h ↦ h.1 | inr h ↦ absurd (let q = sym h.0 ∙ on in cc) ]
