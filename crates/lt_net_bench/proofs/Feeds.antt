-- What a node is fed with, by its inboxes.
use Rattle.std.proofs.Common.{◌≡◌, ℕ, ◌<◌, true, false, List, length, map, take, Some, refl, sym, ap, ◌∙◌, subst, arith}
use Rattle.std.specs.Prelude.{slice_index_or}
use Rattle.std.specs.List.{slice_get}
use Rattle.std.proofs.lemmas.List.{get_or_default, length-map, length-take-le}
use Rattle.std.proofs.lemmas.Option.{slice_get_within, slice_get-get_or, get_or_from_slice_get}
use Rattle.lt_base.specs.declared.value.Value.{Value}
use Rattle.lt_base.specs.declared.value.Value.TheVariants.{Bool as Truth}
use Rattle.lt_base.specs.declared.function.Decl.{Decl}
use Rattle.lt_base.specs.Value.{ty_of}
use Rattle.lt_base.specs.Program.{Function}
use Rattle.lt_base.specs.Typing.{ty_at, input_types, RowFits}
use Rattle.lt_arch.specs.Readers.{chan_count, to_of, carries_data}
use Rattle.lt_link.specs.Inbox.{InboxState, no_inbox}
use Rattle.lt_place.specs.declared.layout.Feed.{Feed}
use Rattle.lt_place.specs.declared.layout.Feed.TheVariants.{Input, Cross}
use Rattle.lt_place.specs.Layout.{part_of, crossing_of}
use Rattle.lt_net_node.specs.Layout.{IsLaidOut, crossing_place}
use Rattle.lt_net_node.specs.Local.{arrived, fed, fed_row}
use Rattle.lt_net_node.specs.Payloads.{payloads_between, channel_between, message_of, types_for}
use Rattle.lt_net_node.specs.Fed.{route_of, fed_by, CanFeed}
use Rattle.lt_net_bench.specs.Routes.{AreRoutes}
use Rattle.lt_net_node.specs.Channels.{HasChannels}
use Rattle.lt_net_bench.specs.Given.{FitsPart}
use Rattle.lt_net_bench.proofs.FedRows.{map_same, map_entry, types_at, row_fits, type_entry}
use Rattle.lt_net_bench.specs.Bench.{BenchState}
use Rattle.lt_net_bench.proofs.InboxValues.{read_at}

module _ {C M : Type 0} (p : BenchState C M) (f : Function) (laid : IsLaidOut f p.layout) (channels : HasChannels p.layout p.shape)
    (are : AreRoutes p.layout p.shape p.routes) (inboxes : length p.inboxes ≡ chan_count p.shape)
    (types : (c : ℕ) → c < chan_count p.shape → map ty_of (slice_index_or p.inboxes c no_inbox).payload ≡ types_for p.layout p.shape c)
    (n : ℕ) (nl : n < length p.layout.nodes) (row : List Value) (fits : FitsPart p.layout n row) where
  -- the value that the inbox has for a crossing
  inbox_value : (c : ℕ) → c < length p.layout.cross → (v : Value) × (slice_get (slice_index_or p.inboxes (route_of p.routes c).channel no_inbox).payload (route_of p.routes c).place ≡ Some v) × (ty_of v ≡ ty_of (crossing_of p.layout c).first)
  inbox_value c lt =
      let ch = channel_between p.shape (crossing_of p.layout c).from (crossing_of p.layout c).to in
      let is : (slice_index_or p.inboxes (route_of p.routes c).channel no_inbox).payload ≡ (slice_index_or p.inboxes ch no_inbox).payload = ap (λ k. (slice_index_or p.inboxes k no_inbox).payload) (are.channels c lt) in
      let entry : slice_get (map ty_of (slice_index_or p.inboxes ch no_inbox).payload) (crossing_place p.layout c) ≡ Some (ty_of (crossing_of p.layout c).first) =
      ap (λ ts. slice_get ts (crossing_place p.layout c)) (types ch (channels.there c lt)) ∙ type_entry p.layout p.shape channels c lt in
      let found = map_entry ty_of (slice_index_or p.inboxes ch no_inbox).payload (crossing_place p.layout c) _ entry in
      (found.0, (λ i. slice_get (is i) (are.places c lt i)) ∙ found.1, found.2)

  pub can_feed : (x : ℕ) (d : Feed) → slice_get (part_of p.layout n).feeds x ≡ Some d → CanFeed p.routes p.inboxes row d
  can_feed x (Input i) h = fits.there x i h
  can_feed x (Cross c) h =
      let lt = (laid.crosses n x c nl h).0 in
      let v = inbox_value c lt in (
        omega (arith, lt, are.size),
        subst (λ k. k < length p.inboxes) (sym (are.channels c lt)) (subst (λ m. channel_between p.shape (crossing_of p.layout c).from (crossing_of p.layout c).to < m) (sym inboxes) (channels.there c lt)),
        slice_get_within _ _ v.0 v.1,
      )

  module _ (got : ℕ → List (List Value)) (payloads : (c : ℕ) (b : InboxState) → slice_get p.inboxes c ≡ Some b → carries_data p.shape c ≡ true → b.payload ≡ message_of p.layout p.shape got c (length (got c))) (m : ℕ)
      (fresh : (c : ℕ) → c < chan_count p.shape → carries_data p.shape c ≡ true → to_of p.shape c ≡ n → length (got c) ≡ m) where
    fed_is : (x : ℕ) (d : Feed) → slice_get (part_of p.layout n).feeds x ≡ Some d → fed_by p.routes p.inboxes row d ≡ fed p.layout (payloads_between p.shape got) row m d
    fed_is x (Input i) h = refl
    fed_is x (Cross c) h =
        let at = laid.crosses n x c nl h in
        let lt = at.0 in
        let ch = channel_between p.shape (crossing_of p.layout c).from (crossing_of p.layout c).to in
        let there = channels.there c lt in
        let b : InboxState = slice_index_or p.inboxes ch no_inbox in
        let at_inbox : slice_get p.inboxes ch ≡ Some b = slice_get-get_or p.inboxes ch no_inbox (omega (arith, there, inboxes)) in
        let v = inbox_value c lt in
        let w = slice_get_within _ _ v.0 v.1 in
        let read : slice_index_or b.payload (crossing_place p.layout c) (crossing_of p.layout c).first ≡ arrived p.layout (payloads_between p.shape got) m c =
        ap (λ ps. slice_index_or ps (crossing_place p.layout c) (crossing_of p.layout c).first)
        (payloads ch b at_inbox (channels.carries c lt) ∙ ap (message_of p.layout p.shape got ch) (fresh ch there (channels.carries c lt) (channels.to c lt ∙ at.1)))
        ∙ read_at p.layout p.shape got c m ch lt refl (channels.from c lt) (channels.to c lt) in
        get_or_default (slice_index_or p.inboxes (route_of p.routes c).channel no_inbox).payload (route_of p.routes c).place (Truth false) (crossing_of p.layout c).first w
        ∙ (λ i. slice_index_or (slice_index_or p.inboxes (are.channels c lt i) no_inbox).payload (are.places c lt i) (crossing_of p.layout c).first)
        ∙ read

    -- it is what the definition of the node's streams feeds it with
    pub ins_are : map (fed_by p.routes p.inboxes row) (part_of p.layout n).feeds ≡ fed_row p.layout (payloads_between p.shape got) n row m
    ins_are = map_same (fed_by p.routes p.inboxes row) (fed p.layout (payloads_between p.shape got) row m) (part_of p.layout n).feeds fed_is

  type_of_feed : (x : ℕ) (d : Feed) → slice_get (part_of p.layout n).feeds x ≡ Some d → ty_at (part_of p.layout n).flat.func.decls x ≡ Some (ty_of (fed_by p.routes p.inboxes row d))
  type_of_feed x (Input i) h = fits.typed x i h
  type_of_feed x (Cross c) h =
      let lt = (laid.crosses n x c nl h).0 in
      let v = inbox_value c lt in
      let is : fed_by p.routes p.inboxes row (Cross c) ≡ v.0 = get_or_from_slice_get (slice_index_or p.inboxes (route_of p.routes c).channel no_inbox).payload (route_of p.routes c).place v.0 (Truth false) v.1 in
      laid.fed_type n x c nl h ∙ ap (λ t. Some t) (sym v.2) ∙ ap (λ z. Some (ty_of z)) (sym is)

  -- and it fits the part
  pub ins_fit : RowFits (input_types (part_of p.layout n).flat.func) (map Some (map (fed_by p.routes p.inboxes row) (part_of p.layout n).feeds))
  ins_fit = row_fits (input_types (part_of p.layout n).flat.func) (map (fed_by p.routes p.inboxes row) (part_of p.layout n).feeds) ins_count
      (λ x t v a b.
      let d = map_entry (fed_by p.routes p.inboxes row) (part_of p.layout n).feeds x v b in
      let here = type_of_feed x d.0 d.1 in
      let there = types_at (part_of p.layout n).flat.func.decls (part_of p.layout n).flat.func.n_in x t a in
      let same : Some (ty_of v) ≡ Some t = ap (λ z. Some (ty_of z)) (sym d.2) ∙ sym here ∙ there in
      cc)
    where
      ins_count : length (input_types (part_of p.layout n).flat.func) ≡ length (map (fed_by p.routes p.inboxes row) (part_of p.layout n).feeds)
      ins_count =
          let q = part_of p.layout n in
          let good = laid.parts_good n nl in
          length-map (take q.flat.func.n_in q.flat.func.decls) (λ (d : Decl). d.ty) ∙ length-take-le q.flat.func.n_in q.flat.func.decls good.inputs ∙ sym (laid.fed n nl) ∙ sym (length-map q.feeds (fed_by p.routes p.inboxes row))
