-- The payloads after an instant have the sender's own values.
use Rattle.std.proofs.Common.{inl, inr, ◌≡◌, ℕ, suc, ◌<◌, true, List, [], length, map, Some, sym, ap, ◌∙◌, subst, arith, eq-eqb}
use Rattle.std.specs.Prelude.{slice_index_or, ◌==◌}
use Rattle.std.specs.List.{slice_get}
use Rattle.std.proofs.lemmas.Bool.Decides.{eqb_tells}
use Rattle.std.proofs.lemmas.List.{length-map}
use Rattle.std.proofs.lemmas.Option.{slice_get_within, slice_get-get_or}
use Rattle.lt_base.specs.declared.value.Value.{Value}
use Rattle.lt_base.specs.declared.value.Cell.{Cell}
use Rattle.lt_base.specs.declared.value.Cell.TheVariants.{Absent, Here}
use Rattle.lt_base.specs.Value.{ty_of}
use Rattle.lt_base.specs.Program.{Function}
use Rattle.lt_base.specs.Typing.{input_types, AllFit}
use Rattle.lt_base.specs.Meaning.{calls, stream_of}
use Rattle.lt_arch.specs.declared.shape.Shape.{Shape}
use Rattle.lt_arch.specs.Readers.{chan_count, from_of, to_of, carries_data}
use Rattle.lt_machine.specs.Follows.{Follows}
use Rattle.lt_place.specs.declared.layout.Layout.{Layout}
use Rattle.lt_place.specs.Layout.{PartGives, part_of, crossing_of, no_crossing}
use Rattle.lt_net_node.specs.declared.route.Route.{Route}
use Rattle.lt_net_node.specs.Layout.{IsLaidOut, crossing_place}
use Rattle.lt_net_node.specs.Local.{fed_row, upto, firsts, newest, local_runs, local_value}
use Rattle.lt_net_node.specs.Payloads.{payloads_between, row_at, channel_between, types_for}
use Rattle.lt_net_bench.specs.Standing.{HasOwnValues}
use Rattle.lt_net_node.specs.Fed.{route_of}
use Rattle.lt_net_bench.specs.Routes.{AreRoutes, filled}
use Rattle.lt_net_node.specs.Channels.{HasChannels}
use Rattle.lt_net_bench.proofs.CrossedValues.{IsGiven, goes_on_with}
use Rattle.lt_net_bench.proofs.OutputsGo.{places_apart}
use Rattle.lt_net_bench.proofs.InstantTables.{filled-here}
use Rattle.lt_net_bench.proofs.TypedPayloads.{filled-types}
use Rattle.lt_net_bench.proofs.FedRows.{type_entry}

-- node n's part, run on these lists: its newest row is that of instant m, and its machine answered these cells
module _ (f : Function) (l : Layout) (s : Shape) (laid : IsLaidOut f l) (channels : HasChannels l s) (routes : List Route) (are : AreRoutes l s routes)
    (n : ℕ) (nl : n < length l.nodes) (inputs got : ℕ → List (List Value)) (m : ℕ)
    (fits : AllFit (input_types (part_of l n).flat.func) (upto (λ k. map Some (fed_row l (payloads_between s got) n (row_at (inputs n) k) k)) (suc m)))
    (outs : List Cell) (count : length outs ≡ length (part_of l n).outs)
    (follows : Follows (part_of l n).flat.func (firsts (λ k. fed_row l (payloads_between s got) n (row_at (inputs n) k) k) m) (fed_row l (payloads_between s got) n (row_at (inputs n) m) m) outs) where
  -- the cell of what crosses
  cell_given : (c x : ℕ) → c < length l.cross → (crossing_of l c).from ≡ n → PartGives (part_of l n) (crossing_of l c).var x →
      IsGiven (newest (local_runs (calls [] 0) l (payloads_between s got) n (row_at (inputs n)) (suc m))) x (ty_of (crossing_of l c).first) (slice_index_or outs (route_of routes c).out Absent)
  cell_given c x lt from gives =
      let q = part_of l n in
      let at : slice_get q.outs (route_of routes c).out ≡ Some (crossing_of l c).var = subst (λ i. slice_get (part_of l i).outs (route_of routes c).out ≡ Some (crossing_of l c).var) from (are.outs c lt) in
      let place : (route_of routes c).out ≡ gives.place = laid.one_place n (route_of routes c).out gives.place (crossing_of l c).var nl at gives.out in
      let w = slice_get_within q.outs (route_of routes c).out (crossing_of l c).var at in
      let cell : slice_get outs gives.place ≡ Some (slice_index_or outs (route_of routes c).out Absent) = ap (slice_get outs) (sym place) ∙ slice_get-get_or outs (route_of routes c).out Absent (omega (arith, w, count)) in
      let moved : PartGives (part_of l (crossing_of l c).from) (crossing_of l c).var x = subst (λ i. PartGives (part_of l i) (crossing_of l c).var x) (sym from) gives in
      goes_on_with q.flat.func (laid.parts_good n nl) (laid.parts_causal n nl) (laid.parts_clocked n nl) (laid.parts_typed n nl) (λ k. fed_row l (payloads_between s got) n (row_at (inputs n) k) k) m fits
      x (ty_of (crossing_of l c).first) (slice_index_or outs (route_of routes c).out Absent)
      (laid.given_declared n (crossing_of l c).var x nl gives)
      (subst (λ i. Rattle.lt_base.specs.Typing.ty_at (part_of l i).flat.func.decls x ≡ Some (ty_of (crossing_of l c).first)) from (laid.sent_type c x lt moved))
      (subst (λ i. Rattle.lt_base.specs.Meaning.clock_of (part_of l i).flat.func.decls x ≡ []) from (laid.sent_base c x lt moved))
      (follows gives.place x (slice_index_or outs (route_of routes c).out Absent) gives.own cell)

  module _ (ps qs : List (List Value)) (is : qs ≡ filled l.cross routes n outs (length l.cross) ps) (size : length ps ≡ chan_count s)
      (types : (c : ℕ) → c < chan_count s → map ty_of (slice_index_or ps c []) ≡ types_for l s c) where
    sent_by : (c : ℕ) → ((slice_index_or l.cross c no_crossing).from == n) ≡ true → (crossing_of l c).from ≡ n
    unfolding crossing_of
    sent_by c on = elim (eqb_tells (slice_index_or l.cross c no_crossing).from n) [ inl h ↦ h.1 | inr h ↦ absurd (let q = sym h.0 ∙ on in cc) ]

    by_sender : (c : ℕ) → (crossing_of l c).from ≡ n → ((slice_index_or l.cross c no_crossing).from == n) ≡ true
    unfolding crossing_of
    by_sender c from = eq-eqb (slice_index_or l.cross c no_crossing).from n from

    pub channel_in : (c : ℕ) → c < length l.cross → (route_of routes c).channel < length ps
    channel_in c lt = subst (λ k. k < length ps) (sym (are.channels c lt)) (subst (λ k. channel_between s (crossing_of l c).from (crossing_of l c).to < k) (sym size) (channels.there c lt))

    pub place_in_payload : (c : ℕ) → c < length l.cross → (route_of routes c).place < length (slice_index_or ps (route_of routes c).channel [])
    place_in_payload c lt =
        let ch = channel_between s (crossing_of l c).from (crossing_of l c).to in
        let w = slice_get_within (types_for l s ch) (crossing_place l c) _ (type_entry l s channels c lt) in
        let e : length (types_for l s ch) ≡ length (slice_index_or ps ch []) = ap length (sym (types ch (channels.there c lt))) ∙ length-map (slice_index_or ps ch []) ty_of in
        let k : length (slice_index_or ps ch []) ≡ length (slice_index_or ps (route_of routes c).channel []) = ap (λ z. length (slice_index_or ps z [])) (sym (are.channels c lt)) in
        omega (arith, w, e, k, are.places c lt)

    -- the payload of each data channel from the node has the values of instant m
    pub filled_own : (ch : ℕ) → ch < chan_count s → carries_data s ch ≡ true → from_of s ch ≡ n → HasOwnValues l s inputs got (from_of s ch) (to_of s ch) m (slice_index_or qs ch [])
    filled_own ch lt data_too from_ch c x lc from to gives =
        let here : (crossing_of l c).from ≡ n = from ∙ from_ch in
        let given = cell_given c x lc here (subst (λ i. PartGives (part_of l i) (crossing_of l c).var x) from_ch gives) in
        let same : channel_between s (crossing_of l c).from (crossing_of l c).to ≡ ch =
        channels.once (channel_between s (crossing_of l c).from (crossing_of l c).to) ch (channels.there c lc) lt (channels.carries c lc) data_too (channels.from c lc ∙ from) (channels.to c lc ∙ to) in
        let channel : (route_of routes c).channel ≡ ch = are.channels c lc ∙ same in
        let entry : slice_index_or (slice_index_or (filled l.cross routes n outs (length l.cross) ps) (route_of routes c).channel []) (route_of routes c).place (crossing_of l c).first ≡ given.value =
        filled-here l.cross routes n outs ps (length l.cross) c given.value (crossing_of l c).first lc (by_sender c here) given.cell_is (λ k kc on. channel_in k kc) (λ k kc on. place_in_payload k kc)
        (λ a b la lb ne oa ob same_channel. places_apart f l s laid channels routes are a b la lb ne (sent_by a oa ∙ sym (sent_by b ob)) same_channel) in
        let value : slice_index_or (slice_index_or qs ch []) (crossing_place l c) (crossing_of l c).first ≡ given.value =
        ap (λ xs. slice_index_or (slice_index_or xs ch []) (crossing_place l c) (crossing_of l c).first) is
        ∙ (λ i. slice_index_or (slice_index_or (filled l.cross routes n outs (length l.cross) ps) (sym channel i) []) (sym (are.places c lc) i) (crossing_of l c).first) ∙ entry in
        ap (λ i. local_value (calls [] 0) l (payloads_between s got) i (row_at (inputs i)) m x) from_ch ∙ given.value_is ∙ ap (λ v. Some v) (sym value)

    put_typed : (c : ℕ) → c < length l.cross → (crossing_of l c).from ≡ n → (v : Value) → slice_index_or outs (route_of routes c).out Absent ≡ Here v → slice_get (map ty_of (slice_index_or ps (route_of routes c).channel [])) (route_of routes c).place ≡ Some (ty_of v)
    put_typed c lt from v cell =
        let gives = laid.gives c lt in
        let given = cell_given c gives.0 lt from (subst (λ i. PartGives (part_of l i) (crossing_of l c).var gives.0) from gives.1) in
        let same : v ≡ given.value = let e : Here v ≡ Here given.value = sym cell ∙ given.cell_is in cc in
        (λ i. slice_get (map ty_of (slice_index_or ps (are.channels c lt i) [])) (are.places c lt i))
        ∙ ap (λ ts. slice_get ts (crossing_place l c)) (types (channel_between s (crossing_of l c).from (crossing_of l c).to) (channels.there c lt))
        ∙ type_entry l s channels c lt ∙ ap (λ t. Some t) (sym given.type_is) ∙ ap (λ z. Some (ty_of z)) (sym same)

    -- and the types of its channel
    pub filled_typed : (ch : ℕ) → ch < chan_count s → map ty_of (slice_index_or qs ch []) ≡ types_for l s ch
    filled_typed ch h =
        ap (λ xs. map ty_of (slice_index_or xs ch [])) is
        ∙ filled-types l.cross routes n outs ps (length l.cross) (λ c lt on. channel_in c lt) (λ c lt on v cell. put_typed c lt (sent_by c on) v cell) ch
        ∙ types ch h
