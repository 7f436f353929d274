-- A net that is made for a proof: its controllers are phases, and its machines are the rows that their parts have run on.
use Rattle.std.proofs.Common.{◌≡◌, inl, inr, ℕ, ◌+◌, ◌-◌, ◌*◌, ◌^◌, ◌<◌, ◌≤◌, Bool, true, false, List, [], ◌∷◌, ◌++◌, length, map, max, replicate, reverse, Option, Some, None, All, refl, sym, ap, ◌∙◌, subst, arith, length-append}
use Rattle.std.specs.Prelude.{◌&&◌, nat_lt, slice_index_or, if◌then◌else◌}
use Rattle.std.specs.List.{slice_get}
use Rattle.std.specs.Option.{option_map}
use Rattle.std.proofs.Math.ListN.{get_or-eq_default}
use Rattle.std.proofs.lemmas.Bool.{cases_lt}
use Rattle.std.proofs.lemmas.List.{get_or-replicate, length-replicate}
use Rattle.std.proofs.lemmas.Option.{slice_get_within, slice_get-get_or, slice_get-map}
use Rattle.lt_base.specs.declared.value.Value.{Value}
use Rattle.lt_base.specs.declared.value.Cell.{Cell}
use Rattle.lt_base.specs.Program.{Function}
use Rattle.lt_base.specs.Meaning.{calls, environments, valuation, clock_of, cell, stream_of}
use Rattle.lt_base.proofs.Streams.{stream_push}
use Rattle.lt_arch.specs.declared.timing.Protocol.{Protocol}
use Rattle.lt_arch.specs.State.{Phase, first_phase}
use Rattle.lt_arch.specs.Readers.{node_count, chan_count, send_of, execute_of}
use Rattle.lt_arch.specs.Schedule.{OnePlace}
use Rattle.lt_arch.specs.Times.{Times}
use Rattle.lt_arch.proofs.Starting.{first_times, first-has}
use Rattle.lt_io.specs.declared.message.Message.{Message}
use Rattle.lt_io.specs.FabricState.{FabricState, KeepsFabric}
use Rattle.lt_link.specs.Inbox.{InboxState, no_inbox}
use Rattle.lt_link.specs.Ports.{node_ports_of}
use Rattle.lt_machine.specs.Follows.{Follows}
use Rattle.lt_norm.specs.Flat.{Originated}
use Rattle.lt_place.specs.Layout.{IsPlaced, part_of}
use Rattle.lt_net_node.specs.Acts.{marked}
use Rattle.lt_net_node.specs.Channels.{FitsLayout}
use Rattle.lt_net_node.specs.Freshness.{TakenUpTo}
use Rattle.lt_net_node.specs.Local.{firsts}
use Rattle.lt_net_node.specs.Steps.{MachineSteps}
use Rattle.lt_net_node.specs.Wakes.{AreConfigured}
use Rattle.lt_net_bench.specs.Starts.{first_inbox, literals_on, kinds_for, route_to, exit_for, most_fed, most_given, IsBlank, AreReady, ControllersAreAtStart}
use Rattle.lt_net_bench.specs.Track.{TrackState}
use Rattle.lt_net_bench.proofs.Firsts.{get-firsts, length-firsts}
use Rattle.lt_net.specs.Net.{TimedBenchState}
use Rattle.lt_net.specs.Kept.{Kept, NetHasRoom}
use Rattle.lt_net.specs.Sends.{messages_with, SendsUpTo}
use Rattle.lt_net.specs.Starts.{no_lists, IsFresh}
use Rattle.lt_net.specs.Replay.{ReplayKeeps}
use Rattle.lt_net.proofs.Opening.{opened}
use Rattle.lt_net.proofs.StartedNet.{fresh, kept, room}
use Rattle.lt_c_net.specs.Runs.{Deployment}
use Rattle.lt_machine.specs.declared.machine.Machine.{Ghosts as Machines}
use Rattle.lt_arch.specs.declared.controller.Controller.{Ghosts as Controls}

-- ---- its controllers and machines

pub record MadeControl : Type 0 where
  pub protocol : Protocol
  pub send_after : ℕ
  pub execute_after : ℕ
  pub at : Phase

pub record MadeMachine : Type 0 where
  pub func : Function
  -- the rows that it has run on, and how many steps are left
  pub ran : List (List Value)
  pub to_come : ℕ

abbrev pub made_controls : Controls MadeControl
made_controls = record { protocol = λ c. c.protocol; send = λ c. c.send_after; execute = λ c. c.execute_after; phase = λ c. c.at }

abbrev pub made_machines : Machines MadeMachine
made_machines = record {
  stands = λ m f rows. (m.func ≡ f) × (m.ran ≡ rows);
  inputs = λ m. m.func.n_in;
  outputs = λ m. length m.func.outs;
  made = λ m. length m.ran;
  left = λ m. m.to_come;
  size = λ m. 0;
}

-- the cell of the next instant
abbrev pub next_shown : Function → (rows : List (List Value)) → (row : List Value) → ℕ → Cell
next_shown f rows row y =
    cell (valuation (calls [] 0) f (environments (calls [] 0) f (reverse (map (map Some) rows))) (map Some row) (length f.eqs)) (clock_of f.decls y) y

abbrev pub stepped : MadeMachine → (ins : List Value) → MadeMachine
stepped m ins = record m { ran = m.ran ++ ins ∷ []; to_come = m.to_come - 1 }

abbrev pub cells_of : MadeMachine → (ins : List Value) → List Cell
cells_of m ins = map (next_shown m.func m.ran ins) m.func.outs

follows_own : (m : MadeMachine) (ins : List Value) → Follows m.func m.ran ins (cells_of m ins)
follows_own m ins p y c own at =
    let mapped : Some (next_shown m.func m.ran ins y) ≡ Some c = sym (slice_get-map (next_shown m.func m.ran ins) m.func.outs p ∙ ap (option_map (next_shown m.func m.ran ins)) own) ∙ at in
    stream_push [] m.func y m.ran ins ∙ ap (λ z. stream_of [] m.func m.ran y ++ z ∷ []) (some_same (next_shown m.func m.ran ins y) c mapped)
  where
    some_same : (a b : Cell) → Some a ≡ Some b → a ≡ b
    some_same a b h = cc

pub made_steps : (m : MadeMachine) (ins : List Value) → 1 ≤ m.to_come → MachineSteps made_machines m (stepped m ins) ins (cells_of m ins)
made_steps m ins some = record {
  stands_more = λ f rows h. (h.0, ap (λ rs. rs ++ ins ∷ []) h.1);
  follows = λ f rows h. subst (λ g. Follows g rows ins (cells_of m ins)) h.0 (subst (λ rs. Follows m.func rs ins (cells_of m ins)) h.1 (follows_own m ins));
  made_more = length-append m.ran (ins ∷ []);
  left_less = omega (arith, some);
}

-- ---- lists and links that are made entry by entry

pub entry_made : {A : Type 0} (f : ℕ → A) (k n : ℕ) (x : A) → slice_get (firsts f k) n ≡ Some x → x ≡ f n
entry_made f k n x h =
    let within : n < length (firsts f k) = slice_get_within (firsts f k) n x h in
    let count = length-firsts f k in
    some_same x (slice_index_or (firsts f k) n x) (sym h ∙ slice_get-get_or (firsts f k) n x within) ∙ get-firsts f k n x (omega (arith, within, count))
  where
    some_same : {A : Type 0} (a b : A) → Some a ≡ Some b → a ≡ b
    some_same a b e = cc

-- inboxes of which some became read
abbrev pub read_on : (i : ℕ) → (on : ℕ → Bool) → List InboxState → List InboxState
read_on i on bs = firsts (λ c. marked (nat_lt c i && on c) (slice_index_or bs c no_inbox)) (length bs)

marked_none : (b : Bool) → no_inbox ≡ marked b no_inbox
marked_none true = refl
marked_none false = refl

pub read_taken : (i : ℕ) (on : ℕ → Bool) (bs : List InboxState) → TakenUpTo i on bs (read_on i on bs)
read_taken i on bs = record {
  same_length = length-firsts (λ c. marked (nat_lt c i && on c) (slice_index_or bs c no_inbox)) (length bs);
  each = λ c. elim (cases_lt c (length bs)) [
    | inl lt ↦ get-firsts (λ c. marked (nat_lt c i && on c) (slice_index_or bs c no_inbox)) (length bs) c no_inbox lt
    | inr le ↦
        let count = length-firsts (λ c. marked (nat_lt c i && on c) (slice_index_or bs c no_inbox)) (length bs) in
        get_or-eq_default (read_on i on bs) no_inbox {n = c} (omega (arith, count, le))
        ∙ marked_none (nat_lt c i && on c)
        ∙ ap (marked (nat_lt c i && on c)) (sym (get_or-eq_default bs no_inbox {n = c} le))
  ];
}

-- links on which messages were sent
abbrev pub links_with : (on : ℕ → Bool) → (message : ℕ → Message) → FabricState → FabricState
links_with on message old = record old { transit = λ c. messages_with (on c) (old.transit c) (message c); sent = λ c. messages_with (on c) (old.sent c) (message c) }

pub links_keep : (on : ℕ → Bool) (message : ℕ → Message) (old : FabricState) → KeepsFabric old (links_with on message old)
links_keep on message old = record { faithful = refl; sound = refl; told = refl; prompt = λ p. p; opens = refl; kinds = refl }

abbrev pub noted_on : (on : ℕ → Bool) → (at : ℕ) → Times → Times
noted_on on at w = record w { sends = firsts (λ c. if on c then Some at else slice_index_or w.sends c None) (length w.sends) }

pub sent_up_to : (i : ℕ) (on : ℕ → Bool) (message : ℕ → Message) (at : ℕ) (old : FabricState) (w : Times) →
    SendsUpTo i on message at old (links_with (λ c. nat_lt c i && on c) message old) w (noted_on (λ c. nat_lt c i && on c) at w)
sent_up_to i on message at old w =
    let mark : ℕ → Option ℕ = λ c. if nat_lt c i && on c then Some at else slice_index_or w.sends c None in
    record {
      sends = record { kinds = refl; told = refl; transit = λ c. refl; sent = λ _ c. refl; delivered = λ _ c. refl };
      notes = record { sends = firsts mark (length w.sends); is = refl; same_length = length-firsts mark (length w.sends); each = λ c lt. get-firsts mark (length w.sends) c None lt };
      faults = refl;
      keeps = links_keep (λ c. nat_lt c i && on c) message old;
    }

-- ---- the net

-- what of it events change
pub record MadeParts : Type 0 where
  pub watch : Times
  pub machines : List MadeMachine
  pub controllers : List MadeControl
  pub executed : List ℕ
  pub inboxes : List InboxState
  pub buffers : List (List Value)
  pub tracks : List TrackState

abbrev pub made_net : Deployment → MadeParts → TimedBenchState MadeControl MadeMachine
made_net d p = record {
  layout = d.layout;
  shape = d.shape;
  timing = d.timing;
  rows = length d.inputs;
  watch = p.watch;
  machines = p.machines;
  controllers = p.controllers;
  executed = p.executed;
  inboxes = p.inboxes;
  buffers = p.buffers;
  tracks = p.tracks;
  routes = firsts (route_to d.layout d.shape.channels) (length d.layout.cross);
  exits = map (exit_for d.layout.nodes) d.layout.outs;
  ports = firsts (node_ports_of d.shape.channels) (node_count d.shape);
  values = max (length d.layout.cross) (most_fed d.layout.nodes);
  outs = most_given d.layout.nodes;
}

abbrev first_machine : Deployment → ℕ → MadeMachine
first_machine d n = record { func = (part_of d.layout n).flat.func; ran = []; to_come = length d.inputs }

abbrev pub first_control : Deployment → ℕ → MadeControl
first_control d n = record { protocol = d.timing.protocol; send_after = send_of d.timing n; execute_after = execute_of d.timing n; at = first_phase d.timing.protocol }

abbrev blank_track : Deployment → TrackState
blank_track d = record { cells = []; room = length d.inputs }

abbrev pub made_start : Deployment → MadeParts
made_start d = record {
  watch = first_times d.timing d.shape.channels (length d.shape.nodes);
  machines = firsts (first_machine d) (length d.layout.nodes);
  controllers = firsts (first_control d) (node_count d.shape);
  executed = replicate (node_count d.shape) 0;
  inboxes = map (first_inbox d.layout.cross) d.shape.channels;
  buffers = map (literals_on d.layout.cross) d.shape.channels;
  tracks = replicate (length d.layout.outs) (blank_track d);
}

-- links that lose nothing and change nothing, before the first message
abbrev pub made_links : Deployment → FabricState
made_links d = record {
  faithful = true;
  prompt = true;
  sound = true;
  told = false;
  kinds = kinds_for d.layout d.shape;
  transit = λ c. [];
  sent = λ c. [];
  delivered = λ c. [];
  opens = 0;
  faults = 0;
}

pub made_at_start : (d : Deployment) → ControllersAreAtStart made_controls d.shape d.timing (made_start d).controllers
made_at_start d = record {
  count = length-firsts (first_control d) (node_count d.shape);
  phases = λ n c h. ap (λ (c : MadeControl). c.at) (entry_made (first_control d) (node_count d.shape) n c h);
}

pub made_configured : (d : Deployment) → AreConfigured made_controls d.timing (made_start d).controllers
made_configured d = record {
  same_protocol = λ n c h. ap (λ (c : MadeControl). c.protocol) (entry_made (first_control d) (node_count d.shape) n c h);
  sends = λ tb n c h. ap (λ (c : MadeControl). c.send_after) (entry_made (first_control d) (node_count d.shape) n c h);
  executes = λ tb n c h. ap (λ (c : MadeControl). c.execute_after) (entry_made (first_control d) (node_count d.shape) n c h);
}

module _ (f : Originated) (d : Deployment) (placed : IsPlaced f d.layout) (fits : FitsLayout d.layout d.timing.protocol d.shape) (few : 2 * (node_count d.shape + chan_count d.shape) < 2 ^ 32) (one : OnePlace d.shape d.timing (length d.inputs)) where
  ready : AreReady made_machines d.layout (length d.inputs) (made_start d).machines
  ready = record {
    count = length-firsts (first_machine d) (length d.layout.nodes);
    stand = λ n m h. let e = entry_made (first_machine d) (length d.layout.nodes) n m h in (ap (λ (m : MadeMachine). m.func) e, ap (λ (m : MadeMachine). m.ran) e);
    unmade = λ n m h. ap (λ (m : MadeMachine). length m.ran) (entry_made (first_machine d) (length d.layout.nodes) n m h);
    enough = λ n m h. let e = ap (λ (m : MadeMachine). m.to_come) (entry_made (first_machine d) (length d.layout.nodes) n m h) in omega (arith, e);
  }

  blank : All (IsBlank (length d.inputs)) (made_start d).tracks
  blank k t lt =
      let count = length-replicate {A = TrackState} (length d.layout.outs) (blank_track d) in
      subst (IsBlank (length d.inputs)) (sym (get_or-replicate {A = TrackState} (length d.layout.outs) k (blank_track d) t (omega (arith, count, lt)))) (record { empty = refl; room = omega arith })

  pub made_fresh : IsFresh made_controls made_machines (made_net d (made_start d))
  made_fresh = fresh made_controls made_machines f d.layout placed d.shape d.timing (length d.inputs) fits few one (made_start d).machines ready (made_start d).controllers (made_at_start d) (made_start d).watch (first-has d.shape d.timing)
      (made_start d).executed refl (made_start d).inboxes refl (made_start d).buffers refl (made_start d).tracks (length-replicate {A = TrackState} (length d.layout.outs) (blank_track d)) blank _ refl _ refl _ refl _ _ refl refl

  pub made_kept : Kept made_controls made_machines (made_net d (made_start d))
  made_kept = kept made_controls made_machines f d.layout placed d.shape d.timing (length d.inputs) fits few one (made_start d).machines ready (made_start d).controllers (made_at_start d) (made_start d).watch (first-has d.shape d.timing)
      (made_start d).executed refl (made_start d).inboxes refl (made_start d).buffers refl (made_start d).tracks (length-replicate {A = TrackState} (length d.layout.outs) (blank_track d)) blank _ refl _ refl _ refl _ _ refl refl

  pub made_room : NetHasRoom (made_net d (made_start d))
  made_room = room made_controls made_machines f d.layout placed d.shape d.timing (length d.inputs) fits few one (made_start d).machines ready (made_start d).controllers (made_at_start d) (made_start d).watch (first-has d.shape d.timing)
      (made_start d).executed refl (made_start d).inboxes refl (made_start d).buffers refl (made_start d).tracks (length-replicate {A = TrackState} (length d.layout.outs) (blank_track d)) blank _ refl _ refl _ refl _ _ refl refl

  pub made_opened : ReplayKeeps made_controls made_machines d.inputs [] (made_net d (made_start d)) (made_links d) no_lists
  made_opened = opened made_controls made_machines (made_net d (made_start d)) made_fresh.stands_for (made_links d) (made_links d) (record { faithful = refl; sound = refl; told = refl; prompt = λ p. p })
      (record { channels = refl; transit = λ c. refl; sent = λ _ c. refl; delivered = λ _ c. refl }) d.inputs
