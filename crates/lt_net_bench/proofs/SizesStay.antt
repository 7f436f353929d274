-- What there is one of for each node and each channel there is still, and room too, after an activation and a delivery.
use Rattle.std.proofs.Common.{◌≡◌, inl, inr, ℕ, ◌<◌, ◌≤◌, Bool, List, [], length, map, set, sym, ap, ◌∙◌, subst, arith, length-set}
use Rattle.std.specs.Prelude.{slice_index_or}
use Rattle.std.proofs.lemmas.Bool.Decides.{eqb_tells}
use Rattle.std.proofs.lemmas.List.{get_or-set_same, get_or-set_other}
use Rattle.std.proofs.lemmas.Option.{slice_get-get_or, get_or_from_slice_get}
use Rattle.lt_base.specs.declared.value.Value.{Value}
use Rattle.lt_base.specs.Value.{ty_of}
use Rattle.lt_arch.specs.Readers.{chan_count}
use Rattle.lt_link.specs.Inbox.{InboxState, no_inbox}
use Rattle.lt_net_node.specs.Acts.{marked, MarkedOn}
use Rattle.lt_net_bench.specs.Executes.{Executes}
use Rattle.lt_net_node.specs.Payloads.{types_for}
use Rattle.lt_net_bench.specs.Bench.{BenchState}
use Rattle.lt_net_bench.specs.Room.{HasSizes, HasSpace}
use Rattle.lt_net_bench.specs.Track.{track_at}
use Rattle.lt_net_bench.proofs.Activated.{marked_payload}
use Rattle.lt_net_bench.proofs.Filling.{filled-size, tracked-size, tracked-room}
use Rattle.lt_machine.specs.declared.machine.Machine.{Ghosts as Machines}

module _ {C M : Type 0} (p : BenchState C M) (z : HasSizes p) (cs : List C) (controls : length cs ≡ length p.controllers) where
  -- inboxes became read
  pub sizes_read : (on : ℕ → Bool) (ibs : List InboxState) → MarkedOn on p.inboxes ibs → HasSizes (record p { controllers = cs; inboxes = ibs })
  sizes_read on ibs marks = record {
    machines = z.machines;
    controllers = controls ∙ z.controllers;
    executed = z.executed;
    inboxes = marks.same_length ∙ z.inboxes;
    buffers = z.buffers;
    inbox_types = λ c h.
        let there = slice_get-get_or ibs c no_inbox (omega (arith, h, z.inboxes, marks.same_length)) in
        let e = marks.each c (slice_index_or ibs c no_inbox) there in
        let is : slice_index_or ibs c no_inbox ≡ marked (on c) (slice_index_or p.inboxes c no_inbox) = e.2 ∙ ap (marked (on c)) (sym (get_or_from_slice_get p.inboxes c e.0 no_inbox e.1)) in
        ap (λ (b : InboxState). map ty_of b.payload) is ∙ ap (map ty_of) (marked_payload (on c) (slice_index_or p.inboxes c no_inbox)) ∙ z.inbox_types c h;
    buffer_types = z.buffer_types;
  }

  -- node n ran an instant
  module _ (mch : Machines M) (n : ℕ) (row : List Value) (mid : BenchState C M) (ex : Executes mch (record p { controllers = cs }) mid n row) where
    pub sizes_ran : ((c : ℕ) → c < chan_count p.shape → map ty_of (slice_index_or mid.buffers c []) ≡ types_for p.layout p.shape c) →
        HasSizes (record p { controllers = cs; machines = set p.machines n ex.after; executed = mid.executed; inboxes = mid.inboxes; tracks = mid.tracks; buffers = mid.buffers })
    sizes_ran typed = record {
      machines = length-set p.machines n ex.after ∙ z.machines;
      controllers = controls ∙ z.controllers;
      executed = ap length ex.executed ∙ length-set p.executed n _ ∙ z.executed;
      inboxes = ex.taken.same_length ∙ z.inboxes;
      buffers = ap length ex.buffers ∙ filled-size p.layout.cross p.routes n ex.outs (length p.layout.cross) p.buffers ∙ z.buffers;
      inbox_types = λ c h. ap (λ (b : InboxState). map ty_of b.payload) (ex.taken.each c) ∙ ap (map ty_of) (marked_payload _ (slice_index_or p.inboxes c no_inbox)) ∙ z.inbox_types c h;
      buffer_types = typed;
    }

    pub space_ran : HasSpace p → HasSpace (record p { controllers = cs; machines = set p.machines n ex.after; executed = mid.executed; inboxes = mid.inboxes; tracks = mid.tracks; buffers = mid.buffers })
    space_ran room = record {
      messages = room.messages;
      inputs = room.inputs;
      outputs = room.outputs;
      tracks = ap length ex.tracks ∙ tracked-size p.exits n ex.outs (length p.exits) p.tracks ∙ room.tracks;
      cells = λ y h. subst (λ k. p.rows ≤ k)
          (sym (ap (λ ts. (track_at ts y).room) ex.tracks ∙ tracked-room p.exits n ex.outs (length p.exits) p.tracks (let e = room.exits.size in let t = room.tracks in omega (arith, e, t)) y)) (room.cells y h);
      routes = room.routes;
      exits = room.exits;
      ports = room.ports;
    }

-- a payload of its channel's types was delivered
pub sizes_delivered : {C M : Type 0} (p : BenchState C M) → HasSizes p → (ch : ℕ) → ch < chan_count p.shape → (b : InboxState) → map ty_of b.payload ≡ types_for p.layout p.shape ch → HasSizes (record p { inboxes = set p.inboxes ch b })
sizes_delivered p z ch here b typed = record {
  machines = z.machines;
  controllers = z.controllers;
  executed = z.executed;
  inboxes = length-set p.inboxes ch b ∙ z.inboxes;
  buffers = z.buffers;
  inbox_types = λ c h. elim (eqb_tells c ch) [
    | inl e ↦ subst (λ c. map ty_of (slice_index_or (set p.inboxes ch b) c no_inbox).payload ≡ types_for p.layout p.shape c) (sym e.1)
        (ap (λ (x : InboxState). map ty_of x.payload) (get_or-set_same p.inboxes ch b no_inbox (omega (arith, here, z.inboxes))) ∙ typed)
    | inr e ↦ ap (λ (x : InboxState). map ty_of x.payload) (get_or-set_other p.inboxes ch c b no_inbox e.1) ∙ z.inbox_types c h
  ];
  buffer_types = z.buffer_types;
}
