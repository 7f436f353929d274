-- The tables and the first messages of a placed layout.
use Rattle.std.proofs.Common.{◌≡◌, inl, ℕ, ◌<◌, ◌≤◌, ◌==◌, Bool, true, false, List, [], ◌∷◌, length, map, Option, Some, None, refl, sym, ap, ◌∙◌, subst, arith, get_or, slice_index_or, eq-eqb, eqb-true, cond}
use Rattle.std.specs.Prelude.{filter, if◌then◌else◌}
use Rattle.std.specs.List.{list_any, position, position_or_len, slice_get}
use Rattle.std.specs.Option.{unwrap_or}
use Rattle.std.proofs.lemmas.List.{get_or-map, length-map}
use Rattle.std.proofs.lemmas.Simd.{map-map}
use Rattle.std.proofs.lemmas.List.Folds.{Any-from_list_any, list_any_at}
use Rattle.std.proofs.lemmas.List.Quantifiers.{position-Some}
use Rattle.std.proofs.lemmas.Option.{slice_get_within, slice_get-get_or, get_or_from_slice_get}
use Rattle.lt_base.specs.Value.{ty_of}
use Rattle.lt_base.specs.Dependence.{has}
use Rattle.lt_base.proofs.Lookups.{same_self}
use Rattle.lt_arch.specs.declared.shape.Shape.{Shape}
use Rattle.lt_arch.specs.Readers.{chan_count, no_chan, chan_of, from_of, to_of, carries_data}
use Rattle.lt_link.specs.Inbox.{InboxState}
use Rattle.lt_norm.specs.Flat.{Originated}
use Rattle.lt_place_reads.specs.declared.crossing.Crossing.{Crossing}
use Rattle.lt_place_reads.specs.Origins.{variable_count}
use Rattle.lt_place.specs.declared.layout.Part.{Part}
use Rattle.lt_place.specs.declared.layout.Layout.{Layout}
use Rattle.lt_place.specs.Layout.{IsPlaced, part_of, crossing_of, no_part, no_crossing}
use Rattle.lt_place.specs.Nodes.{node_of}
use Rattle.lt_net_node.specs.declared.route.Route.{Route}
use Rattle.lt_net_bench.specs.declared.exit.Exit.{Exit}
use Rattle.lt_net_node.specs.Layout.{IsLaidOut, joins, crossing_place}
use Rattle.lt_net_node.specs.Local.{firsts}
use Rattle.lt_net_node.specs.Payloads.{channel_between, types_for}
use Rattle.lt_net_node.specs.Fed.{route_of, no_route}
use Rattle.lt_net_bench.specs.Routes.{AreRoutes, AreExits, exit_of, no_exit}
use Rattle.lt_net_bench.specs.Starts.{types_on, first_inbox, place_among, route_to, gives_out, giver, exit_for}
use Rattle.lt_net_bench.proofs.Firsts.{length-firsts, get-firsts}
use Rattle.lt_net_bench.proofs.FedRows.{map_entry}
use Rattle.lt_net_bench.proofs.LaidOut.{laid_out}
use Rattle.lt_net_node.proofs.Named.{node_below}
use Rattle.lt_net_node.proofs.DrawnShape.{found}

-- The first place that passes a test.

passes : {X : Type 0} (p : X → Bool) (xs : List X) (k : ℕ) (d : X) → k < length xs → p (get_or xs k d) ≡ true → (j : ℕ) × (position p xs ≡ Some j) × (j < length xs) × (p (get_or xs j d) ≡ true)
passes p xs k d lt h =
    let e = found p xs k d lt h in
    let at = position-Some p xs (position_or_len p xs) d e in
    (position_or_len p xs, e, at.0, at.1)

place_found : (xs : List ℕ) (v k : ℕ) → slice_get xs k ≡ Some v → slice_get xs (place_among xs v) ≡ Some v
place_found xs v k h =
    let at = passes (λ u. u == v) xs k 0 (slice_get_within xs k v h) (eq-eqb (get_or xs k 0) v (get_or_from_slice_get xs k v 0 h)) in
    let place : place_among xs v ≡ at.0 = ap (λ o. unwrap_or o 0) at.1 in
    ap (slice_get xs) place ∙ slice_get-get_or xs at.0 0 at.2 ∙ ap (λ u. Some u) (eqb-true (get_or xs at.0 0) v at.3)

or_first : {X : Type 0} (p : X → Bool) (xs : List X) (o : Option ℕ) → position p xs ≡ o → 0 < length xs → unwrap_or o 0 < length xs
or_first p xs None e lt = lt
or_first p [] (Some i) e lt = absurd (omega (arith, lt))
or_first p (x ∷ xs) (Some i) e lt = (position-Some p (x ∷ xs) i x e).0

pub giver_within : (nodes : List Part) (v : ℕ) → 0 < length nodes → giver nodes v < length nodes
giver_within nodes v lt = or_first (gives_out v) nodes (position (gives_out v) nodes) refl lt

module _ (f : Originated) (l : Layout) (placed : IsPlaced f l) where
  laid : IsLaidOut f.func l
  laid = laid_out f l placed

  out_found : (c : ℕ) → c < length l.cross → slice_get (part_of l (crossing_of l c).from).outs (place_among (part_of l (crossing_of l c).from).outs (crossing_of l c).var) ≡ Some (crossing_of l c).var
  out_found c lt = let g = laid.gives c lt in place_found (part_of l (crossing_of l c).from).outs (crossing_of l c).var g.1.place g.1.out

  module _ (s : Shape) (routes : List Route) (is : routes ≡ firsts (route_to l s.channels) (length l.cross)) where
    entry : (c : ℕ) → c < length l.cross → route_of routes c ≡ route_to l s.channels c
    entry c lt = ap (λ rs. route_of rs c) is ∙ get-firsts (route_to l s.channels) (length l.cross) c no_route lt

    pub are_routes : AreRoutes l s routes
    unfolding crossing_of part_of channel_between crossing_place
    are_routes = record {
      size = ap length is ∙ length-firsts (route_to l s.channels) (length l.cross);
      outs = λ c lt. ap (λ (r : Route). slice_get (part_of l (crossing_of l c).from).outs r.out) (entry c lt) ∙ out_found c lt;
      channels = λ c lt. ap (λ (r : Route). r.channel) (entry c lt);
      places = λ c lt. ap (λ (r : Route). r.place) (entry c lt);
    }

  -- the node that gives an output out
  giver_gives : (v : ℕ) → v < variable_count f → has v f.func.outs ≡ true → (giver l.nodes v < length l.nodes) × (slice_get (part_of l (giver l.nodes v)).outs (place_among (part_of l (giver l.nodes v)).outs v) ≡ Some v)
  unfolding part_of
  giver_gives v declared out =
      let n = node_of f placed.placement v in
      let nb : n < length l.nodes = subst (λ k. n < k) (sym placed.layout.nodes) (node_below f placed.placement v) in
      let g = (placed.layout.parts n nb).gives v declared refl (inl out) in
      let q : Part = get_or l.nodes n no_part in
      let there : gives_out v q ≡ true = list_any_at (λ u. u == v) q.outs g.1.place 0 (slice_get_within q.outs g.1.place v g.1.out) (eq-eqb (get_or q.outs g.1.place 0) v (get_or_from_slice_get q.outs g.1.place v 0 g.1.out)) in
      let at = passes (gives_out v) l.nodes n no_part nb there in
      let is : giver l.nodes v ≡ at.0 = ap (λ o. unwrap_or o 0) at.1 in
      let r : Part = get_or l.nodes at.0 no_part in
      let hit = Any-from_list_any (λ u. u == v) r.outs at.3 in
      let value_of : slice_get r.outs hit.0 ≡ Some v = slice_get-get_or r.outs hit.0 hit.1 hit.2 ∙ ap (λ u. Some u) (hit.3 ∙ eqb-true hit.1 v hit.4) in (
        subst (λ k. k < length l.nodes) (sym is) at.2,
        subst (λ k. slice_get (get_or l.nodes k no_part).outs (place_among (get_or l.nodes k no_part).outs v) ≡ Some v) (sym is) (place_found r.outs v hit.0 value_of),
      )

  pub are_exits : (exits : List Exit) → exits ≡ map (exit_for l.nodes) l.outs → AreExits l exits
  unfolding part_of
  are_exits exits is =
      let entry : (y : ℕ) → y < length l.outs → exit_of exits y ≡ exit_for l.nodes (slice_index_or l.outs y 0) = λ y lt. ap (λ es. exit_of es y) is ∙ get_or-map (exit_for l.nodes) l.outs y 0 no_exit lt in
      let at : (y : ℕ) → y < length l.outs → (giver l.nodes (slice_index_or l.outs y 0) < length l.nodes) × (slice_get (part_of l (giver l.nodes (slice_index_or l.outs y 0))).outs (place_among (part_of l (giver l.nodes (slice_index_or l.outs y 0))).outs (slice_index_or l.outs y 0)) ≡ Some (slice_index_or l.outs y 0)) =
      λ y lt.
      let inside : y < length f.func.outs = subst (λ xs. y < length xs) placed.layout.outs lt in
      let same : slice_index_or l.outs y 0 ≡ slice_index_or f.func.outs y 0 = ap (λ xs. slice_index_or xs y 0) placed.layout.outs in
      subst (λ v. (giver l.nodes v < length l.nodes) × (slice_get (part_of l (giver l.nodes v)).outs (place_among (part_of l (giver l.nodes v)).outs v) ≡ Some v)) (sym same)
      (giver_gives (slice_index_or f.func.outs y 0) (placed.good.outs y 0 inside) (list_any_at (Rattle.std.specs.Prelude.nat_eq (slice_index_or f.func.outs y 0)) f.func.outs y 0 inside (same_self (slice_index_or f.func.outs y 0)))) in
      record {
        size = ap length is ∙ length-map l.outs (exit_for l.nodes);
        nodes = λ y lt. subst (λ (e : Exit). e.node < length l.nodes) (sym (entry y lt)) (at y lt).0;
        outs = λ y lt. subst (λ (e : Exit). slice_get (part_of l e.node).outs e.out ≡ Some (slice_index_or l.outs y 0)) (sym (entry y lt)) (at y lt).1;
      }

-- each crossing is sent by one of the nodes
pub senders_are : (f : Originated) (l : Layout) → IsPlaced f l → (c : ℕ) → c < length l.cross → (slice_index_or l.cross c no_crossing).from < length l.nodes
unfolding crossing_of
senders_are f l placed c lt = (laid_out f l placed).senders c lt

-- The first messages.

literal_types : (cross : List Crossing) (i j : ℕ) (b : Bool) → map ty_of (if b then map (λ (cr : Crossing). cr.first) (filter (joins i j) cross) else []) ≡ (if b then map (λ (cr : Crossing). ty_of cr.first) (filter (joins i j) cross) else [])
literal_types cross i j true = map-map ty_of (λ (cr : Crossing). cr.first) (filter (joins i j) cross)
literal_types cross i j false = refl

pub types_are : (l : Layout) (s : Shape) (c : ℕ) → types_on l.cross (chan_of s c) ≡ types_for l s c
types_are l s c = literal_types l.cross (from_of s c) (to_of s c) (carries_data s c)

fewer : {X : Type 0} (p : X → Bool) (xs : List X) → length (filter p xs) ≤ length xs
fewer p [] = omega arith
fewer p (x ∷ xs) = by (p x) (fewer p xs)
  where
    by : (b : Bool) → length (filter p xs) ≤ length xs → length (cond b (x ∷ filter p xs) (filter p xs)) ≤ length (x ∷ xs)
    by true h = omega (arith, h)
    by false h = omega (arith, h)

few_types_by : (cross : List Crossing) (i j : ℕ) (b : Bool) → length (if b then map (λ (cr : Crossing). ty_of cr.first) (filter (joins i j) cross) else []) ≤ length cross
few_types_by cross i j true = let a = length-map (filter (joins i j) cross) (λ (cr : Crossing). ty_of cr.first) in let b = fewer (joins i j) cross in omega (arith, a, b)
few_types_by cross i j false = omega arith

pub few_types : (l : Layout) (s : Shape) (c : ℕ) → length (types_for l s c) ≤ length l.cross
few_types l s c = few_types_by l.cross (from_of s c) (to_of s c) (carries_data s c)

pub first_box : (l : Layout) (s : Shape) (boxes : List InboxState) → boxes ≡ map (first_inbox l.cross) s.channels → (c : ℕ) (b : InboxState) → slice_get boxes c ≡ Some b → b ≡ first_inbox l.cross (chan_of s c)
unfolding chan_of
first_box l s boxes is c b h =
    let e = map_entry (first_inbox l.cross) s.channels c b (ap (λ bs. slice_get bs c) (sym is) ∙ h) in
    sym e.2 ∙ ap (first_inbox l.cross) (sym (get_or_from_slice_get s.channels c e.0 no_chan e.1))

pub on_channel : {A : Type 0} (g : Rattle.lt_arch.specs.declared.chan.Chan.Chan → A) (s : Shape) (xs : List A) → xs ≡ map g s.channels → (c : ℕ) (d : A) → c < chan_count s → slice_index_or xs c d ≡ g (chan_of s c)
unfolding chan_of
on_channel g s xs is c d lt = ap (λ ys. slice_index_or ys c d) is ∙ get_or-map g s.channels c no_chan d lt
