-- Where a node of the made net is activated.
use Rattle.std.proofs.Common.{◌≡◌, ℕ, zero, suc, ◌+◌, ◌<◌, ◌≤◌, Bool, true, false, not, List, [], ◌∷◌, length, set, Some, None, refl, sym, ap, ◌∙◌, arith}
use Rattle.std.specs.Prelude.{◌&&◌, nat_lt, slice_index_or}
use Rattle.std.specs.List.{slice_get}
use Rattle.std.proofs.lemmas.List.{length-map}
use Rattle.std.proofs.lemmas.Bool.Decides.{nat_tests}
use Rattle.lt_base.specs.declared.value.Value.{Value}
use Rattle.lt_base.specs.Program.{Function}
use Rattle.lt_arch.specs.declared.event.Deed.{Deed}
use Rattle.lt_arch.specs.declared.event.Deed.TheVariants.{Nothing, Execute, Send}
use Rattle.lt_arch.specs.declared.event.Event.TheVariants.{Act}
use Rattle.lt_arch.specs.declared.limits.TheConstants.{GREATEST_TIME}
use Rattle.lt_arch.specs.declared.shape.Shape.{Shape}
use Rattle.lt_arch.specs.declared.timing.Timing.{Timing}
use Rattle.lt_arch.specs.State.{State}
use Rattle.lt_arch.specs.Readers.{node_count, chan_count}
use Rattle.lt_arch.specs.Deeds.{deed_of, phase_after}
use Rattle.lt_arch.specs.Step.{offence_of}
use Rattle.lt_arch.specs.Times.{Times, HasTimes}
use Rattle.lt_io.specs.FabricState.{FabricState, KeepsFabric}
use Rattle.lt_link.specs.Inbox.{InboxState, no_inbox}
use Rattle.lt_link.specs.Ports.{is_to, is_from}
use Rattle.lt_net_node.specs.Wakes.{Bits, Wakes, AreConfigured}
use Rattle.lt_net_node.proofs.Below.{lt_yes}
use Rattle.lt_net_bench.specs.Executes.{Executes, ins_of, bits_at}
use Rattle.lt_net_bench.specs.Given.{FitsPart}
use Rattle.lt_net_bench.specs.Routes.{filled, tracked}
use Rattle.lt_net_bench.proofs.Activated.{marked_bit}
use Rattle.lt_net_bench.proofs.SizesStay.{space_ran}
use Rattle.lt_net.specs.Net.{TimedBenchState, Lists, bench_of}
use Rattle.lt_net.specs.Event.{FabricHolds, Happens}
use Rattle.lt_net.specs.Kept.{Kept, NetHasRoom}
use Rattle.lt_net.specs.Sends.{message_on, messages_with}
use Rattle.lt_net.specs.Stands.{NetStands}
use Rattle.lt_net.proofs.Benches.{sizes_of, space_of, room_by}
use Rattle.lt_net.proofs.ExecuteTaken.{execute_kept, execute_happens, execute_holds}
use Rattle.lt_net.proofs.IdleActivation.{kept_nothing, nothing_happens, nothing_holds, kept_send, send_happens, send_holds, controls_length, configured_still}
use Rattle.lt_net.proofs.ReplayStep.{deed_more}
use Rattle.lt_place.specs.Layout.{part_of}
use Rattle.lt_c_net.specs.Moves.{Moves}
use Rattle.lt_c_net.specs.Runs.{Deployment}
use Rattle.lt_c_net.proofs.MadeNet.{MadeControl, MadeMachine, made_controls, made_machines, stepped, cells_of, made_steps, read_on, read_taken, links_with, links_keep, noted_on, sent_up_to, MadeParts, made_net}

-- on which channels an activation sends, by its deed
abbrev pub puts_by : Deployment → (n : ℕ) → Deed → (c : ℕ) → Bool
puts_by d n Nothing c = false
puts_by d n Send c = is_from d.shape.channels n true c
puts_by d n Execute c = is_from d.shape.channels n false c

-- an activation of node n that did this deed
pub record ActMade (d : Deployment) (parts : MadeParts) (links : FabricState) (n at : ℕ) (row : List Value) (deed : Deed) : Type 0 where
  pub later : MadeParts
  pub links_after : FabricState
  pub wakes : Wakes made_controls parts.controllers later.controllers n (bits_at (bench_of (made_net d parts)) n) deed
  pub moves : Moves made_machines (bench_of (made_net d parts)) (bench_of (made_net d later)) n row deed
  pub kept : Kept made_controls made_machines (made_net d later)
  pub room : NetHasRoom (made_net d later)
  pub configured : AreConfigured made_controls d.timing later.controllers
  pub happens : Happens (NetStands made_controls made_machines (made_net d parts)) (NetStands made_controls made_machines (made_net d later)) (made_net d parts) (Act n at) (Some row) links links_after
  pub holds : FabricHolds (made_net d later) links_after
  pub keeps : KeepsFabric links links_after
  pub puts : (c : ℕ) → c < chan_count d.shape → links_after.transit c ≡ messages_with (puts_by d n deed c) (links.transit c) (message_on later.buffers later.inboxes c)

found : {C : Type 0} (xs : List C) (n : ℕ) → n < length xs → (c : C) × (slice_get xs n ≡ Some c)
found [] n lt = absurd (omega (arith, lt))
found (x ∷ xs) zero lt = (x, refl)
found (x ∷ xs) (suc n) lt = found xs n (omega (arith, lt))

below : (a b : ℕ) → nat_lt a b ≡ true → a < b
below a b h = grind (arith, nat_tests, h)

module _ (d : Deployment) (parts : MadeParts) (links : FabricState) (kept_now : Kept made_controls made_machines (made_net d parts)) (room_now : NetHasRoom (made_net d parts)) (configured : AreConfigured made_controls d.timing parts.controllers) (holds_now : FabricHolds (made_net d parts) links)
    (n at : ℕ) (timely : at ≤ GREATEST_TIME) (node : n < node_count d.shape) (passes : (s : Shape) (t : Timing) (st : State) → HasTimes parts.watch s t st → offence_of s t st (Act n at) ≡ None) (row : List Value)
    (fits : slice_index_or parts.executed n 0 < length d.inputs → FitsPart d.layout n row) where
  abbrev net : TimedBenchState MadeControl MadeMachine
  net = made_net d parts

  abbrev bits : Bits
  bits = bits_at (bench_of net) n

  own : (c : MadeControl) × (slice_get parts.controllers n ≡ Some c)
  own = found parts.controllers n (let e = kept_now.sized.controllers in omega (arith, e, node))

  abbrev deed_now : Deed
  deed_now = deed_of own.0.at bits.all_in bits.any_in bits.all_ack bits.more

  abbrev woken : Deed → MadeControl
  woken deed = record (own.0) { at = phase_after own.0.send_after own.0.execute_after own.0.at deed }

  abbrev controllers_after : Deed → List MadeControl
  controllers_after deed = set parts.controllers n (woken deed)

  wakes_by : (deed : Deed) → deed ≡ deed_now → Wakes made_controls parts.controllers (controllers_after deed) n bits deed
  wakes_by deed is = record { before = own.0; there = own.1; after = woken deed; is = refl; deed_is = is; phase_is = refl; protocol_is = refl; send_is = refl; execute_is = refl }

  does_nothing : Nothing ≡ deed_now → ActMade d parts links n at row Nothing
  does_nothing is =
      let w : Times = record parts.watch { lasts = set parts.watch.lasts n (Some at); latest = Some at } in
      let wakes = wakes_by Nothing is in
      record {
        later = record parts { watch = w; controllers = controllers_after Nothing };
        links_after = links;
        wakes = wakes;
        moves = (refl, refl);
        kept = kept_nothing made_controls made_machines net kept_now configured n at timely node passes (controllers_after Nothing) Nothing wakes refl w refl;
        room = record { messages = room_now.messages; inputs = room_now.inputs; outputs = room_now.outputs; tracks = room_now.tracks; cells = room_now.cells; routes = room_now.routes; exits = room_now.exits; ports = room_now.ports };
        configured = configured_still made_controls made_machines net kept_now configured n at timely node passes (controllers_after Nothing) Nothing wakes;
        happens = nothing_happens made_controls made_machines net kept_now configured n at timely node passes (controllers_after Nothing) Nothing wakes refl w refl (Some row) links;
        holds = nothing_holds made_controls made_machines net kept_now configured n at timely node passes (controllers_after Nothing) Nothing wakes refl w refl links holds_now;
        keeps = record { faithful = refl; sound = refl; told = refl; prompt = λ p. p; opens = refl; kinds = refl };
        puts = λ c lt. refl;
      }

  abbrev sends_to : (kind : Bool) → ℕ → Bool
  sends_to kind c = nat_lt c (length d.shape.channels) && is_from d.shape.channels n kind c

  on_is : (kind : Bool) (c : ℕ) → c < chan_count d.shape → sends_to kind c ≡ is_from d.shape.channels n kind c
  on_is kind c lt = ap (λ b. b && is_from d.shape.channels n kind c) (lt_yes c (length d.shape.channels) lt)

  does_send : Send ≡ deed_now → ActMade d parts links n at row Send
  does_send is =
      let w1 : Times = noted_on (sends_to true) at parts.watch in
      let w : Times = record w1 { lasts = set w1.lasts n (Some at); latest = Some at } in
      let wakes = wakes_by Send is in
      let boxes : List InboxState = read_on (length d.shape.channels) (is_to d.shape.channels n false) parts.inboxes in
      let taken = read_taken (length d.shape.channels) (is_to d.shape.channels n false) parts.inboxes in
      let upto = sent_up_to (length d.shape.channels) (is_from d.shape.channels n true) (message_on parts.buffers parts.inboxes) at links parts.watch in
      let after : FabricState = links_with (sends_to true) (message_on parts.buffers parts.inboxes) links in
      let bit_same : (c : ℕ) → (slice_index_or parts.inboxes c no_inbox).bit ≡ (slice_index_or boxes c no_inbox).bit =
      λ c. sym (ap (λ (b : InboxState). b.bit) (taken.each c) ∙ marked_bit (nat_lt c (length d.shape.channels) && is_to d.shape.channels n false c) (slice_index_or parts.inboxes c no_inbox)) in
      record {
        later = record parts { watch = w; controllers = controllers_after Send; inboxes = boxes };
        links_after = after;
        wakes = wakes;
        moves = (taken, refl);
        kept = kept_send made_controls made_machines net kept_now configured n at timely node passes (controllers_after Send) Send wakes refl links after w1 upto w refl boxes taken;
        room = record { messages = room_now.messages; inputs = room_now.inputs; outputs = room_now.outputs; tracks = room_now.tracks; cells = room_now.cells; routes = room_now.routes; exits = room_now.exits; ports = room_now.ports };
        configured = configured_still made_controls made_machines net kept_now configured n at timely node passes (controllers_after Send) Send wakes;
        happens = send_happens made_controls made_machines net kept_now configured n at timely node passes (controllers_after Send) Send wakes refl links after w1 upto w refl boxes taken (Some row);
        holds = send_holds made_controls made_machines net kept_now configured n at timely node passes (controllers_after Send) Send wakes refl links after w1 upto w refl boxes taken holds_now;
        keeps = links_keep (sends_to true) (message_on parts.buffers parts.inboxes) links;
        puts = λ c lt. (λ i. messages_with (on_is true c lt i) (links.transit c) (record { payload = slice_index_or parts.buffers c []; bit = not (bit_same c i) }));
      }

  -- the machine of the node, on what its part is fed with
  module _ (is : Execute ≡ deed_now) where
    machine : (m : MadeMachine) × (slice_get parts.machines n ≡ Some m)
    machine = found parts.machines n (let e = kept_now.sized.machines in let k = kept_now.fixed.channels.nodes in omega (arith, e, k, node))

    abbrev ls : Lists
    ls = kept_now.standing.0

    abbrev ins : List Value
    ins = ins_of (bench_of net) n row

    more_rows : slice_index_or parts.executed n 0 < length d.inputs
    more_rows = below (slice_index_or parts.executed n 0) (length d.inputs) (deed_more own.0.at bits.all_in bits.any_in bits.all_ack bits.more (sym is))

    some_left : 1 ≤ machine.0.to_come
    some_left =
        let s = kept_now.standing.1.bench in
        let enough = s.steps_left n machine.0 machine.1 in
        let count = s.ran.executed n node in
        let more = more_rows in
        omega (arith, enough, count, more)

    func_is : machine.0.func ≡ (part_of d.layout n).flat.func
    func_is = (kept_now.standing.1.bench.ran.machines n machine.0 machine.1).0

    abbrev ran_parts : MadeParts
    ran_parts = record parts {
      controllers = controllers_after Execute;
      machines = set parts.machines n (stepped machine.0 ins);
      executed = set parts.executed n (slice_index_or parts.executed n 0 + 1);
      inboxes = read_on (length d.shape.channels) (is_to d.shape.channels n true) parts.inboxes;
      buffers = filled d.layout.cross net.routes n (cells_of machine.0 ins) (length d.layout.cross) parts.buffers;
      tracks = tracked net.exits n (cells_of machine.0 ins) (length net.exits) parts.tracks;
    }

    count : length (cells_of machine.0 ins) ≡ length (part_of d.layout n).outs
    count =
        length-map machine.0.func.outs _
        ∙ ap (λ (g : Function). length g.outs) func_is
        ∙ kept_now.fixed.laid.outs n (let k = kept_now.fixed.channels.nodes in omega (arith, k, node))

    ex : Executes made_machines (record (bench_of net) { controllers = controllers_after Execute }) (bench_of (made_net d ran_parts)) n row
    ex = record {
      before = machine.0;
      there = machine.1;
      after = stepped machine.0 ins;
      outs = cells_of machine.0 ins;
      count = count;
      steps = made_steps machine.0 ins some_left;
      machines = refl;
      executed = refl;
      buffers = refl;
      tracks = refl;
      taken = read_taken (length d.shape.channels) (is_to d.shape.channels n true) parts.inboxes;
    }

    does_execute : ActMade d parts links n at row Execute
    unfolding ex
    does_execute =
        let w1 : Times = noted_on (sends_to false) at parts.watch in
        let w : Times = record w1 { lasts = set w1.lasts n (Some at); latest = Some at } in
        let wakes = wakes_by Execute is in
        let mid = made_net d ran_parts in
        let upto = sent_up_to (length d.shape.channels) (is_from d.shape.channels n false) (message_on ran_parts.buffers ran_parts.inboxes) at links parts.watch in
        let after : FabricState = links_with (sends_to false) (message_on ran_parts.buffers ran_parts.inboxes) links in
        record {
          later = record ran_parts { watch = w };
          links_after = after;
          wakes = wakes;
          moves = record { before = ex.before; there = ex.there; after = ex.after; outs = ex.outs; count = ex.count; steps = ex.steps; machines = refl; executed = refl; buffers = refl; tracks = refl; taken = ex.taken };
          kept = execute_kept made_controls made_machines net kept_now configured n at timely node passes (controllers_after Execute) Execute wakes refl room_now row (fits more_rows) mid ex links after holds_now w1 upto w refl;
          room = room_by (made_net d (record ran_parts { watch = w }))
              (space_ran (bench_of net) (sizes_of net kept_now.sized) (controllers_after Execute) (controls_length made_controls made_machines net kept_now configured n at timely node passes (controllers_after Execute) Execute wakes) made_machines n row (bench_of mid) ex (space_of net room_now));
          configured = configured_still made_controls made_machines net kept_now configured n at timely node passes (controllers_after Execute) Execute wakes;
          happens = execute_happens made_controls made_machines net kept_now configured n at timely node passes (controllers_after Execute) Execute wakes refl room_now row (fits more_rows) mid ex links after holds_now w1 upto w refl;
          holds = execute_holds made_controls made_machines net kept_now configured n at timely node passes (controllers_after Execute) Execute wakes refl room_now row (fits more_rows) mid ex links after holds_now w1 upto w refl;
          keeps = links_keep (sends_to false) (message_on ran_parts.buffers ran_parts.inboxes) links;
          puts = λ c lt. (λ i. messages_with (on_is false c lt i) (links.transit c) (message_on ran_parts.buffers ran_parts.inboxes c));
        }

  -- whatever its deed is
  pub acts_made : (deed : Deed) × ActMade d parts links n at row deed
  acts_made = by_deed deed_now refl
    where
      by_deed : (deed : Deed) → deed ≡ deed_now → (deed : Deed) × ActMade d parts links n at row deed
      by_deed Nothing is = (Nothing, does_nothing is)
      by_deed Send is = (Send, does_send is)
      by_deed Execute is = (Execute, does_execute is)
