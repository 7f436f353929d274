-- A node that is to execute can.
use Rattle.std.proofs.Common.{◌≡◌, inl, inr, ℕ, ◌<◌, true, List, [], length, Some, sym, ap, ◌∙◌, subst, arith}
use Rattle.std.specs.Prelude.{slice_index_or, ◌==◌}
use Rattle.std.specs.List.{slice_get}
use Rattle.std.proofs.lemmas.Bool.Decides.{eqb_tells}
use Rattle.std.proofs.lemmas.List.{length-map}
use Rattle.std.proofs.lemmas.Option.{slice_get_within, slice_get-get_or}
use Rattle.lt_base.specs.declared.value.Value.{Value}
use Rattle.lt_base.specs.Value.{ty_of}
use Rattle.lt_base.specs.Program.{Function}
use Rattle.lt_base.proofs.Streams.{stream_length}
use Rattle.lt_arch.specs.State.{State}
use Rattle.lt_arch.specs.Readers.{node_count}
use Rattle.lt_place.specs.Layout.{PartGives, part_of, crossing_of, no_crossing}
use Rattle.lt_net_node.specs.Channels.{HasChannels}
use Rattle.lt_net_bench.specs.Executes.{CanExecute}
use Rattle.lt_net_bench.specs.Given.{FitsPart}
use Rattle.lt_net_node.specs.Layout.{IsLaidOut, crossing_place}
use Rattle.lt_net_node.specs.Payloads.{types_for, channel_between}
use Rattle.lt_net_bench.specs.Bench.{BenchState}
use Rattle.lt_net_bench.specs.Room.{HasSizes, HasSpace}
use Rattle.lt_net_node.specs.Fed.{route_of}
use Rattle.lt_net_bench.specs.Routes.{exit_of}
use Rattle.lt_net_bench.specs.Standing.{StandsAt}
use Rattle.lt_net_bench.specs.Track.{track_at}
use Rattle.lt_net_bench.proofs.FedRows.{type_entry}
use Rattle.lt_net_bench.proofs.Feeds.{can_feed}
use Rattle.lt_net_bench.proofs.Firsts.{length-firsts}
use Rattle.lt_machine.specs.declared.machine.Machine.{Ghosts as Machines}
use Rattle.lt_arch.specs.declared.controller.Controller.{Ghosts as Controls}

module _ {C M : Type 0} (ctl : Controls C) (mch : Machines M) (p : BenchState C M) (n : ℕ) (f : Function) (laid : IsLaidOut f p.layout) (channels : HasChannels p.layout p.shape)
    (sized : HasSizes p) (room : HasSpace p) (st : State) (inputs got : ℕ → List (List Value)) (s : StandsAt ctl mch p st inputs got) (nb : n < node_count p.shape) (more_rows : slice_index_or p.executed n 0 < p.rows)
    (cs : List C) (row : List Value) (fits : FitsPart p.layout n row)
    (numbers : (m : M) (f : Function) (rows : List (List Value)) → mch.stands m f rows → (mch.inputs m ≡ f.n_in) × (mch.outputs m ≡ length f.outs)) where
  nl : n < length p.layout.nodes
  nl = omega (arith, nb, channels.nodes)

  from_is : (c : ℕ) → ((slice_index_or p.layout.cross c no_crossing).from == n) ≡ true → (crossing_of p.layout c).from ≡ n
  unfolding crossing_of
  from_is c on = elim (eqb_tells (slice_index_or p.layout.cross c no_crossing).from n) [ inl h ↦ h.1 | inr h ↦ absurd (let q = sym h.0 ∙ on in cc) ]

  exit_is : (y : ℕ) → ((exit_of p.exits y).node == n) ≡ true → (exit_of p.exits y).node ≡ n
  exit_is y on = elim (eqb_tells (exit_of p.exits y).node n) [ inl h ↦ h.1 | inr h ↦ absurd (let q = sym h.0 ∙ on in cc) ]

  channel_in : (c : ℕ) → c < length p.layout.cross → (route_of p.routes c).channel < length p.buffers
  channel_in c lt = subst (λ k. k < length p.buffers) (sym (room.routes.channels c lt)) (subst (λ k. channel_between p.shape (crossing_of p.layout c).from (crossing_of p.layout c).to < k) (sym sized.buffers) (channels.there c lt))

  place_fits : (c : ℕ) → c < length p.layout.cross → (route_of p.routes c).place < length (slice_index_or p.buffers (route_of p.routes c).channel [])
  place_fits c lt =
      let ch = channel_between p.shape (crossing_of p.layout c).from (crossing_of p.layout c).to in
      let w = slice_get_within (types_for p.layout p.shape ch) (crossing_place p.layout c) _ (type_entry p.layout p.shape channels c lt) in
      let e : length (types_for p.layout p.shape ch) ≡ length (slice_index_or p.buffers ch []) = ap length (sym (sized.buffer_types ch (channels.there c lt))) ∙ length-map (slice_index_or p.buffers ch []) ty_of in
      let k : length (slice_index_or p.buffers ch []) ≡ length (slice_index_or p.buffers (route_of p.routes c).channel []) = ap (λ z. length (slice_index_or p.buffers z [])) (sym (room.routes.channels c lt)) in
      omega (arith, w, e, k, room.routes.places c lt)

  out_within : (y : ℕ) → y < length p.layout.outs → (exit_of p.exits y).node ≡ n → slice_get (part_of p.layout n).outs (exit_of p.exits y).out ≡ Some (slice_index_or p.layout.outs y 0)
  out_within y lt is = subst (λ m. slice_get (part_of p.layout m).outs (exit_of p.exits y).out ≡ Some (slice_index_or p.layout.outs y 0)) is (room.exits.outs y lt)

  cells_count : (y : ℕ) → y < length p.layout.outs → (exit_of p.exits y).node ≡ n → length (track_at p.tracks y).cells ≡ length (inputs n)
  cells_count y lt is =
      let out = (exit_of p.exits y).out in
      let at = out_within y lt is in
      let w = slice_get_within (part_of p.layout n).outs out (slice_index_or p.layout.outs y 0) at in
      let same = laid.outs n nl in
      let x = slice_index_or (part_of p.layout n).flat.func.outs out 0 in
      let gives : PartGives (part_of p.layout n) (slice_index_or p.layout.outs y 0) x = record { place = out; out = at; own = slice_get-get_or (part_of p.layout n).flat.func.outs out 0 (omega (arith, w, same)) } in
      ap length (s.ran.cells y n x lt nl gives) ∙ stream_length [] (part_of p.layout n).flat.func x _ ∙ length-firsts _ (length (inputs n))

  pub can_execute : CanExecute mch (record p { controllers = cs }) n row
  can_execute = record {
    node = nl;
    machine = omega (arith, nl, sized.machines);
    count = omega (arith, nb, sized.executed);
    more = more_rows;
    has_left = λ m h. let l = s.steps_left n m h in let i = s.rows n nb in let e = s.ran.executed n nb in let r = more_rows in omega (arith, l, i, e, r);
    wide = λ m h. (numbers m (part_of p.layout n).flat.func _ (s.ran.machines n m h)).0 ∙ sym (laid.fed n nl);
    long = λ m h. (numbers m (part_of p.layout n).flat.func _ (s.ran.machines n m h)).1 ∙ laid.outs n nl;
    room = room.inputs n nl;
    room_out = room.outputs n nl;
    feeds = can_feed p f laid channels room.routes sized.inboxes sized.inbox_types n nl row fits;
    routes = room.routes.size;
    crossing_outs = λ c lt on. subst (λ m. (route_of p.routes c).out < length (part_of p.layout m).outs) (from_is c on) (slice_get_within _ _ _ (room.routes.outs c lt));
    channels = λ c lt on. channel_in c lt;
    places = λ c lt on. place_fits c lt;
    exits = room.exits.size ∙ sym room.tracks;
    exit_outs = λ y lt on. slice_get_within _ _ _ (out_within y (omega (arith, lt, room.exits.size)) (exit_is y on));
    track_room = λ y lt on.
        let yb : y < length p.layout.outs = omega (arith, lt, room.exits.size) in
        let c = cells_count y yb (exit_is y on) in
        let most = room.cells y yb in
        let i = s.rows n nb in
        let e = s.ran.executed n nb in
        let r = more_rows in
        omega (arith, c, most, i, e, r);
    inboxes = sized.inboxes;
    ports = room.ports n nb;
  }
