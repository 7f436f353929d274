-- An activation, by what code has: nodes and channels before and after the controller was asked, and the net that they are in.
use Rattle.std.proofs.Common.{◌≡◌, ℕ, ◌+◌, ◌*◌, ◌^◌, ◌<◌, ◌≤◌, true, false, not, List, [], length, length-set, map, set, Option, Some, None, refl, sym, ap, ◌∙◌, subst, arith}
use Rattle.std.specs.Prelude.{slice_index_or, nat_lt, Result, Ok, ◌&&◌}
use Rattle.std.specs.List.{slice_get}
use Rattle.std.proofs.lemmas.Result.{on_ok_weaker}
use Rattle.lt_base.specs.declared.value.Value.{Value}
use Rattle.lt_base.specs.Program.{Function}
use Rattle.lt_arch.specs.declared.event.Deed.{Deed}
use Rattle.lt_arch.specs.declared.event.Deed.TheVariants.{Nothing, Execute, Send}
use Rattle.lt_arch.specs.declared.event.Event.TheVariants.{Act}
use Rattle.lt_arch.specs.declared.shape.Shape.{Shape}
use Rattle.lt_arch.specs.declared.timing.Timing.{Timing}
use Rattle.lt_arch.specs.Readers.{node_count, chan_count}
use Rattle.lt_arch.specs.Times.{Times}
use Rattle.lt_io.specs.declared.fault.LinkErr.{LinkErr}
use Rattle.lt_io.specs.declared.fault.LinkErr.TheVariants.{Memory as NoMemory}
use Rattle.lt_io.specs.FabricState.{FabricState}
use Rattle.lt_link.specs.Inbox.{InboxState, no_inbox}
use Rattle.lt_net_bench.specs.Executes.{CanExecute, Executes}
use Rattle.lt_net_node.specs.Freshness.{TakenUpTo}
use Rattle.lt_link.specs.Ports.{is_to, HasPorts, is_from}
use Rattle.lt_net_bench.specs.Bench.{BenchState}
use Rattle.lt_net_node.specs.Wakes.{bits_of, Wakes}
use Rattle.lt_net_bench.proofs.Activated.{marked_bit}
use Rattle.lt_net_node.proofs.InboxesRead.{taken_marks}
use Rattle.lt_net_bench.proofs.SizesStay.{sizes_read}
use Rattle.lt_net.specs.Net.{TimedBenchState, timed_bench_of}
use Rattle.lt_net.specs.Event.{HasKinds}
use Rattle.lt_net.specs.Kept.{IsSized, NetHasRoom}
use Rattle.lt_net.specs.Ran.{SameRest, CanSend, HasSent}
use Rattle.lt_net.specs.Sends.{SendsUpTo, message_on}
use Rattle.lt_base.specs.Truths.{how_many}
use Rattle.lt_net.specs.Answered.{CanTake, AnswersEvent}
use Rattle.lt_net.proofs.EndTaken.{kinds_kept}
use Rattle.lt_net.proofs.ExecuteByCode.{row_given, run_free, run_empty, run_can, ran_sized, ran_halted, ran_configured, ran_room, ran_taken}
use Rattle.lt_net.proofs.Halting.{idle_halted, on_err_any, no_error}
use Rattle.lt_net.proofs.IdleActivation.{configured_then, nothing_taken, free_to_send, empty_to_send, send_taken}
use Rattle.lt_net.proofs.Benches.{sizes_of, sized_by}
use Rattle.lt_net.proofs.RoomStays.{room_stays}
use Rattle.lt_net.proofs.SendLoop.{keeps_refl}
use Rattle.lt_net.proofs.Ticks.{idle_ticks, send_ticks, run_ticks}
use Rattle.lt_machine.specs.declared.machine.Machine.{Ghosts as Machines}
use Rattle.lt_arch.specs.declared.controller.Controller.{Ghosts as Controls}

no_row : {A : Type 0} (a : A) → None ≡ Some a → ⊥
no_row a h = absurd (cc)

module _ {C M : Type 0} (ctl : Controls C) (mch : Machines M) (p : BenchState C M) (t : Timing) (w : Times)
    (now : TimedBenchState C M) (is : timed_bench_of p t w ≡ now) (n at : ℕ) (row : Option (List Value)) (old : FabricState) (can : CanTake ctl mch now (Act n at) row old) where
  abbrev Answers : TimedBenchState C M → FabricState → (s s' : ℕ) → Result (Unit {0}) LinkErr → Type 0
  Answers m fabric s s' r = AnswersEvent ctl mch now m (Act n at) row old fabric s s' r

  abbrev net : TimedBenchState C M
  net = timed_bench_of p t w

  sized : IsSized net
  sized = subst (λ z. IsSized z) (sym is) can.kept.sized

  room : NetHasRoom net
  room = subst (λ z. NetHasRoom z) (sym is) can.room

  nb : n < node_count p.shape
  nb = subst (λ (z : TimedBenchState C M). n < node_count z.shape) (sym is) can.event.placed

  kinds : HasKinds net old
  kinds = subst (λ z. HasKinds z old) (sym is) can.kinds

  pub wake_inboxes : length p.inboxes ≡ length p.shape.channels
  wake_inboxes = sized.inboxes

  pub wake_ports : HasPorts p.shape.channels n p.ports
  wake_ports = room.ports n nb

  pub wake_node : n < length p.controllers
  wake_node = let z = sized.controllers in omega (arith, nb, z)

  pub wake_executed : n < length p.executed
  wake_executed = let z = sized.executed in omega (arith, nb, z)

  module _ (q : BenchState C M) (asked : q ≡ record p { controllers = q.controllers }) (d : Deed)
      (wakes : Wakes ctl p.controllers q.controllers n (bits_of p.shape.channels p.inboxes p.executed p.rows n) d) where
    abbrev cs : List C
    cs = q.controllers

    controls : length cs ≡ node_count p.shape
    controls = ap length wakes.is ∙ length-set p.controllers n wakes.after ∙ sized.controllers

    -- nothing is to be done
    pub nothing_done : d ≡ Nothing → (v : Times) → v ≡ record w { lasts = set w.lasts n (Some at); latest = Some at } → (s s' : ℕ) → ((k : ℕ) → length w.lasts + length w.sends ≤ 2 ^ k → s' ≤ s + (8 * k + 8)) → Answers (timed_bench_of q t v) old s s' (Ok tt)
    nothing_done idle v watch s s' cost =
        let taken = nothing_taken ctl mch net now is n at can.event.timely (can.kept, can.configured, can.event.placed, can.passes) cs d wakes idle v watch row old can.holds in
        subst (λ (x : BenchState C M). Answers (timed_bench_of x t v) old s s' (Ok tt)) (sym asked) (record {
          taken = taken;
          halted = tt;
          sized = taken.kept.sized;
          room = room_stays net now is can.room v cs p.inboxes p.values refl;
          configured = configured_then ctl mch net now is n at can.event.timely (can.kept, can.configured, can.event.placed, can.passes) cs d wakes;
          sizes = ap (λ (z : TimedBenchState C M). map mch.size z.machines) is;
          fixed = record { layout = ap (λ (z : TimedBenchState C M). z.layout) is; shape = ap (λ (z : TimedBenchState C M). z.shape) is; timing = ap (λ (z : TimedBenchState C M). z.timing) is; rows = ap (λ (z : TimedBenchState C M). z.rows) is };
          keeps = keeps_refl old;
          cause = refl;
          sound = λ sound. refl;
          prompt = λ quick. no_error tt NoMemory;
          ticks = λ ls stood k few. idle_ticks ctl mch n at can.event.timely net now is (can.kept, can.configured, can.event.placed, can.passes) cs d wakes ls stood k few s s' cost;
        })

    pub read_inboxes : length q.inboxes ≡ length q.shape.channels
    read_inboxes = subst (λ (x : BenchState C M). length x.inboxes ≡ length x.shape.channels) (sym asked) wake_inboxes

    pub read_ports : HasPorts q.shape.channels n q.ports
    read_ports = subst (λ (x : BenchState C M). HasPorts x.shape.channels n x.ports) (sym asked) wake_ports

    -- data is to be sent, and the acknowledgements were read
    module _ (sending : d ≡ Send) (mid : BenchState C M) (taken_q : TakenUpTo (length q.shape.channels) (is_to q.shape.channels n false) q.inboxes mid.inboxes) (rest : mid ≡ record q { inboxes = mid.inboxes }) where
      abbrev boxes : List InboxState
      boxes = mid.inboxes

      read_is : mid ≡ record p { controllers = cs; inboxes = boxes }
      read_is = rest ∙ ap (λ (x : BenchState C M). record x { inboxes = boxes }) asked

      taken : TakenUpTo (length p.shape.channels) (is_to p.shape.channels n false) p.inboxes boxes
      taken = subst (λ (x : BenchState C M). TakenUpTo (length x.shape.channels) (is_to x.shape.channels n false) x.inboxes boxes) asked taken_q

      bits_same : (c : ℕ) → (slice_index_or boxes c no_inbox).bit ≡ (slice_index_or p.inboxes c no_inbox).bit
      bits_same c = ap (λ (z : InboxState). z.bit) (taken.each c) ∙ marked_bit (nat_lt c (length p.shape.channels) && is_to p.shape.channels n false c) (slice_index_or p.inboxes c no_inbox)

      message_same : message_on p.buffers boxes ≡ message_on p.buffers p.inboxes
      message_same = λ i c. record { payload = slice_index_or p.buffers c []; bit = not (bits_same c i) }

      sized_read : (v : Times) → length v.lasts ≡ length w.lasts → length v.sends ≡ length w.sends → IsSized (timed_bench_of (record p { controllers = cs; inboxes = boxes }) t v)
      sized_read v lasts sends =
          let marks = taken_marks (is_to p.shape.channels n false) (is_to p.shape.channels n false) p.inboxes boxes (subst (λ k. TakenUpTo k (is_to p.shape.channels n false) p.inboxes boxes) (sym sized.inboxes) taken) (λ c lt. refl) in
          sized_by (timed_bench_of (record p { controllers = cs; inboxes = boxes }) t v) (sizes_read p (sizes_of net sized) cs (controls ∙ sym sized.controllers) (is_to p.shape.channels n false) boxes marks) (lasts ∙ sized.lasts) (sends ∙ sized.sends)

      pub data_can : CanSend (timed_bench_of mid t w) n true old
      data_can = subst (λ x. CanSend (timed_bench_of x t w) n true old) (sym read_is) (record {
        sized = sized_read w refl refl;
        few = let f = (subst (λ z. Rattle.lt_net.specs.Kept.IsFixed z.layout z.shape z.timing z.rows) (sym is) can.kept.fixed) in f.few;
        node = nb;
        ports = wake_ports;
        free = free_to_send ctl mch net now is n at can.event.timely (can.kept, can.configured, can.event.placed, can.passes) cs d wakes sending;
        kinds = record { count = kinds.count; each = kinds.each };
      })

      pub data_sent : (m : TimedBenchState C M) (fabric : FabricState) (s s' : ℕ) (r : Result (Unit {0}) LinkErr) → HasSent (timed_bench_of mid t w) m n true at old fabric s s' r → Answers m fabric s s' r
      data_sent m fabric s s' r has_mid =
          let v = m.watch in
          let has = subst (λ (x : BenchState C M). HasSent (timed_bench_of x t w) m n true at old fabric s s' r) read_is has_mid in
          subst (λ z. Answers z fabric s s' r) (sym has.is) (record {
            taken = on_ok_weaker r (λ tells.
                send_taken ctl mch net now is n at can.event.timely (can.kept, can.configured, can.event.placed, can.passes) cs d wakes sending old fabric can.holds tells.noted
                (subst (λ x. SendsUpTo (length p.shape.channels) (is_from p.shape.channels n true) x at old fabric w tells.noted) message_same tells.sent) v tells.watch boxes taken row) has.sent;
            halted = on_err_any r (λ ls stood. idle_halted ctl mch ls (Act n at) row net now is v cs boxes stood);
            sized = sized_read v has.lasts has.sends;
            room = room_stays net now is can.room v cs boxes p.values refl;
            configured = configured_then ctl mch net now is n at can.event.timely (can.kept, can.configured, can.event.placed, can.passes) cs d wakes;
            sizes = ap (λ (z : TimedBenchState C M). map mch.size z.machines) is;
            fixed = record { layout = ap (λ (z : TimedBenchState C M). z.layout) is; shape = ap (λ (z : TimedBenchState C M). z.shape) is; timing = ap (λ (z : TimedBenchState C M). z.timing) is; rows = ap (λ (z : TimedBenchState C M). z.rows) is };
            keeps = has.keeps;
            cause = has.cause;
            sound = has.sound;
            prompt = λ quick. has.prompt quick (empty_to_send ctl mch net now is n at can.event.timely (can.kept, can.configured, can.event.placed, can.passes) cs d wakes sending old can.holds);
            ticks = λ ls stood k few. send_ticks ctl mch n at can.event.timely net now is (can.kept, can.configured, can.event.placed, can.passes) cs d wakes ls stood k few sending s s' has.cost;
          })

    -- an instant is to be run
    module _ (executes : d ≡ Execute) where
      -- there is a row for it
      pub row_missing : {A : Type 0} → row ≡ None → A
      row_missing none =
          let g = row_given ctl mch n at can.event.timely row net now is (can.kept, can.configured, can.event.placed, can.passes, can.room, can.has_row) cs d wakes executes in
          absurd (no_row g.0 (sym none ∙ g.1))

      module _ (r : List Value) (r_is : row ≡ Some r) where
        pub instant_can : ((m : M) (f : Function) (rows : List (List Value)) → mch.stands m f rows → (mch.inputs m ≡ f.n_in) × (mch.outputs m ≡ length f.outs)) → CanExecute mch q n r
        instant_can numbers =
            subst (λ x. CanExecute mch x n r) (sym asked)
            (run_can ctl mch n at can.event.timely row net now is (can.kept, can.configured, can.event.placed, can.passes, can.room, can.has_row) cs d wakes executes r r_is numbers)

        module _ (mid : BenchState C M) (ran : Executes mch q mid n r) (rest : mid ≡ record q { machines = mid.machines; executed = mid.executed; inboxes = mid.inboxes; buffers = mid.buffers; tracks = mid.tracks }) where
          ran_p : Executes mch (record p { controllers = cs }) mid n r
          ran_p = subst (λ x. Executes mch x mid n r) asked ran

          mid_is : mid ≡ record p { controllers = cs; machines = mid.machines; executed = mid.executed; inboxes = mid.inboxes; buffers = mid.buffers; tracks = mid.tracks }
          mid_is = rest ∙ ap (λ (x : BenchState C M). record x { machines = mid.machines; executed = mid.executed; inboxes = mid.inboxes; buffers = mid.buffers; tracks = mid.tracks }) asked

          same_rest : (v : Times) → length v.lasts ≡ length w.lasts → length v.sends ≡ length w.sends → SameRest (record net { controllers = cs }) (timed_bench_of mid t v)
          same_rest v lasts sends = record {
            static = record { layout = ap (λ (x : BenchState C M). x.layout) mid_is; shape = ap (λ (x : BenchState C M). x.shape) mid_is; timing = refl; rows = ap (λ (x : BenchState C M). x.rows) mid_is };
            controllers = ap (λ (x : BenchState C M). x.controllers) mid_is;
            routes = ap (λ (x : BenchState C M). x.routes) mid_is;
            exits = ap (λ (x : BenchState C M). x.exits) mid_is;
            ports = ap (λ (x : BenchState C M). x.ports) mid_is;
            values = ap (λ (x : BenchState C M). x.values) mid_is;
            outs = ap (λ (x : BenchState C M). x.outs) mid_is;
            lasts = lasts;
            sends = sends;
          }

          shape_is : mid.shape ≡ p.shape
          shape_is = ap (λ (x : BenchState C M). x.shape) mid_is

          sized_ran : (v : Times) → length v.lasts ≡ length w.lasts → length v.sends ≡ length w.sends → IsSized (timed_bench_of mid t v)
          sized_ran v lasts sends = ran_sized ctl mch n at can.event.timely row net now is (can.kept, can.configured, can.event.placed, can.passes, can.room, can.has_row) cs d wakes executes r r_is (timed_bench_of mid t v) ran_p (same_rest v lasts sends)

          pub acks_can : CanSend (timed_bench_of mid t w) n false old
          acks_can = record {
            sized = sized_ran w refl refl;
            few = subst (λ x. chan_count x < 2 ^ 32) (sym shape_is) (let f = (subst (λ z. Rattle.lt_net.specs.Kept.IsFixed z.layout z.shape z.timing z.rows) (sym is) can.kept.fixed) in f.few);
            node = subst (λ x. n < node_count x) (sym shape_is) nb;
            ports = subst (λ (x : BenchState C M). HasPorts x.shape.channels n x.ports) (sym mid_is) wake_ports;
            free = subst (λ (x : Shape). (c : ℕ) → c < chan_count x → is_from x.channels n false c ≡ true → slice_index_or w.sends c None ≡ None) (sym shape_is)
                (run_free ctl mch n at can.event.timely row net now is (can.kept, can.configured, can.event.placed, can.passes, can.room, can.has_row) cs d wakes executes);
            kinds = let s = (same_rest w refl refl).static in kinds_kept net (timed_bench_of mid t w) old old kinds (record { layout = s.layout; shape = s.shape; timing = s.timing; rows = s.rows }) refl;
          }

          pub acks_sent : (m : TimedBenchState C M) (fabric : FabricState) (s between s' : ℕ) (x : Result (Unit {0}) LinkErr) → HasSent (timed_bench_of mid t w) m n false at old fabric between s' x → map mch.size mid.machines ≡ map mch.size q.machines →
              ((k : M) → slice_get q.machines n ≡ Some k → between ≤ s + mch.size k) → Answers m fabric s s' x
          acks_sent m fabric s between s' x has sizes step =
              let v = m.watch in
              let same = same_rest v has.lasts has.sends in
              let halts = ran_halted ctl mch n at can.event.timely row net now is (can.kept, can.configured, can.event.placed, can.passes, can.room, can.has_row) cs d wakes executes r r_is (timed_bench_of mid t v) ran_p same in
              subst (λ z. Answers z fabric s s' x) (sym has.is) (record {
                taken = on_ok_weaker x (λ tells.
                    ran_taken ctl mch n at can.event.timely row net now is (can.kept, can.configured, can.event.placed, can.passes, can.room, can.has_row) cs d wakes executes r r_is (timed_bench_of mid t v) ran_p same old fabric can.holds tells.noted
                    (subst (λ (y : Shape). SendsUpTo (length y.channels) (is_from y.channels n false) (message_on mid.buffers mid.inboxes) at old fabric w tells.noted) shape_is tells.sent) tells.watch) has.sent;
                halted = on_err_any x halts;
                sized = sized_ran v has.lasts has.sends;
                room = ran_room ctl mch n at can.event.timely row net now is (can.kept, can.configured, can.event.placed, can.passes, can.room, can.has_row) cs d wakes executes r r_is (timed_bench_of mid t v) ran_p same;
                configured = ran_configured ctl mch n at can.event.timely row net now is (can.kept, can.configured, can.event.placed, can.passes, can.room, can.has_row) cs d wakes executes r r_is (timed_bench_of mid t v) ran_p same;
                sizes = sizes ∙ ap (λ (y : BenchState C M). map mch.size y.machines) asked ∙ ap (λ (z : TimedBenchState C M). map mch.size z.machines) is;
                fixed = record {
                  layout = same.static.layout ∙ ap (λ (z : TimedBenchState C M). z.layout) is;
                  shape = same.static.shape ∙ ap (λ (z : TimedBenchState C M). z.shape) is;
                  timing = ap (λ (z : TimedBenchState C M). z.timing) is;
                  rows = same.static.rows ∙ ap (λ (z : TimedBenchState C M). z.rows) is;
                };
                keeps = has.keeps;
                cause = has.cause;
                sound = has.sound;
                prompt = λ quick. has.prompt quick (subst (λ (y : Shape). (c : ℕ) → c < chan_count y → is_from y.channels n false c ≡ true → old.transit c ≡ []) (sym shape_is)
                    (run_empty ctl mch n at can.event.timely row net now is (can.kept, can.configured, can.event.placed, can.passes, can.room, can.has_row) cs d wakes executes old can.holds));
                ticks = λ ls stood k few. run_ticks ctl mch n at can.event.timely net now is (can.kept, can.configured, can.event.placed, can.passes) cs d wakes ls stood k few executes ran_p.before ran_p.there s between s'
                    (step ran_p.before (ap (λ (y : BenchState C M). slice_get y.machines n) asked ∙ ran_p.there))
                    (subst (λ (y : Shape). (k : ℕ) → length w.lasts + length w.sends ≤ 2 ^ k → s' ≤ between + (how_many (is_from y.channels n false) (chan_count y) * (8 * k + 8) + (8 * k + 8))) shape_is has.cost);
              })
