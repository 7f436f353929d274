-- A delivery and a loss, by what code has.
use Rattle.std.proofs.Common.{◌≡◌, ◌≢◌, ℕ, ◌+◌, ◌<◌, ◌≤◌, Bool, true, false, List, [], length, map, set, Option, Some, None, refl, sym, ap, ◌∙◌, subst, arith, length-set}
use Rattle.std.specs.Prelude.{slice_index_or, ◌||◌, if◌then◌else◌}
use Rattle.std.specs.List.{slice_get}
use Rattle.std.proofs.lemmas.Option.{slice_get-get_or}
use Rattle.lt_base.specs.declared.value.Value.{Value}
use Rattle.lt_base.specs.Value.{ty_of}
use Rattle.lt_arch.specs.declared.limits.TheConstants.{GREATEST_TIME}
use Rattle.lt_arch.specs.declared.event.Event.TheVariants.{Del, End}
use Rattle.lt_arch.specs.declared.shape.Shape.{Shape}
use Rattle.lt_arch.specs.declared.timing.Timing.{Timing}
use Rattle.lt_arch.specs.Readers.{chan_count}
use Rattle.lt_io.specs.FabricState.{FabricState}
use Rattle.lt_link.specs.Bits.{differ}
use Rattle.lt_link.specs.Inbox.{InboxState, no_inbox, has_unread}
use Rattle.lt_lossy.specs.declared.event.LossyEvent.{LossyEvent}
use Rattle.lt_lossy.specs.declared.event.LossyEvent.TheVariants.{Plain, Lose}
use Rattle.lt_lossy.specs.State.{LossyState}
use Rattle.lt_lossy.specs.Step.{lossy_offence}
use Rattle.lt_lossy.specs.Times.{LossyTimes, HasLossyTimes, losses_at, without_oldest, with_losses, with_end, lossy_time_of}
use Rattle.lt_lossy.proofs.Changes.{loss_clear}
use Rattle.lt_net_bench.specs.Bench.{BenchState}
use Rattle.lt_net_node.specs.Payloads.{types_for}
use Rattle.lt_net_bench.specs.Room.{HasSizes, HasSpace}
use Rattle.lt_net_bench.proofs.SizesStay.{sizes_delivered}
use Rattle.lt_net_lossy.specs.Net.{LossyBenchState, LossyLists, lossy_bench_of, lossy_state_of}
use Rattle.lt_net_lossy.specs.Event.{PassesLossy, LossyGoesOn}
use Rattle.lt_net_lossy.specs.Kept.{HasLossySizes}
use Rattle.lt_net_lossy.specs.Laws.{StandsWith, KeepsDel}
use Rattle.lt_net_lossy.specs.Receives.{with_latest, ReceivesLossy, DropsOldest}
use Rattle.lt_net_lossy.specs.Taken.{LossyHeld, HasLossyKinds, SameLossyStatic, IsKeptLossy, IsTakenLossy}
use Rattle.lt_net_lossy.proofs.Fronts.{law-own}
use Rattle.lt_net_lossy.proofs.Keeps.{law-events_keep, same_own, delivery_stays}
use Rattle.lt_net_lossy.proofs.Oldest.{delivery_some, loss_some, some_held}
use Rattle.lt_net_lossy.proofs.Reached.{balanced}
use Rattle.lt_machine.specs.declared.machine.Machine.{Ghosts as Machines}
use Rattle.lt_arch.specs.declared.controller.Controller.{Ghosts as Controls}

latest_typed : (b : InboxState) (payload : List Value) (bit x : Bool) → map ty_of payload ≡ map ty_of b.payload → map ty_of (if x then record b { payload = payload; bit = bit } else b).payload ≡ map ty_of b.payload
latest_typed b payload bit true h = h
latest_typed b payload bit false h = refl

-- where every event of the net's times passes, one passes for all lists for which the net stands
abbrev pub PassesBy : {C M : Type 0} → LossyBenchState C M → LossyEvent → Type 0
PassesBy net e = (s : Shape) (t : Timing) (allowed : ℕ) (st : LossyState) → HasLossyTimes net.watch s t allowed st → lossy_offence s t allowed st e ≡ None

module _ {C M : Type 0} (ctl : Controls C) (mch : Machines M) where
  pub passes_for : (net : LossyBenchState C M) (e : LossyEvent) → lossy_time_of e ≤ GREATEST_TIME → PassesBy net e → (ls : LossyLists) (fabric : FabricState) → StandsWith ctl mch net ls fabric → PassesLossy net ls e
  passes_for net e timely passes ls fabric with = record { timely = timely; clear = passes net.shape net.timing net.watch.limit (lossy_state_of net ls) with.standing.times }

  -- the channel has a message in transit
  pub delivers_some : (net : LossyBenchState C M) (ch at : ℕ) (fabric : FabricState) → ch < chan_count net.shape → PassesBy net (Plain (Del ch at)) → LossyHeld ctl mch net fabric → fabric.transit ch ≢ []
  delivers_some net ch at fabric here passes held =
      let st = lossy_state_of net held.0 in
      some_held _ (st.link ch).transit (fabric.transit ch) (held.1.holds.transit ch here) (delivery_some net.shape net.timing net.watch.limit st ch at (passes net.shape net.timing net.watch.limit st held.1.standing.times))

  pub loses_some : (net : LossyBenchState C M) (ch at : ℕ) (fabric : FabricState) → ch < chan_count net.shape → PassesBy net (Lose ch at) → LossyHeld ctl mch net fabric → fabric.transit ch ≢ []
  loses_some net ch at fabric here passes held =
      let st = lossy_state_of net held.0 in
      some_held _ (st.link ch).transit (fabric.transit ch) (held.1.holds.transit ch here) (loss_some net.shape net.timing net.watch.limit st ch at (passes net.shape net.timing net.watch.limit st held.1.standing.times))

  -- and has lost fewer in a row than are allowed
  pub loses_few : (net : LossyBenchState C M) (ch at : ℕ) (fabric : FabricState) → ch < chan_count net.shape → PassesBy net (Lose ch at) → LossyHeld ctl mch net fabric → losses_at net.watch ch < net.watch.limit
  loses_few net ch at fabric here passes held =
      let s = held.1.standing in
      let st = lossy_state_of net held.0 in
      let most = (balanced ctl mch net held.0 s).ordered.losses ch here in
      let is = s.times.losses ch here in
      let other = loss_clear net.shape net.timing net.watch.limit st ch at (passes net.shape net.timing net.watch.limit st s.times) in
      omega (arith, most, is, other)

  pub loses_few_by : (net now : LossyBenchState C M) → net ≡ now → (ch at : ℕ) (fabric : FabricState) → ch < chan_count now.shape → PassesBy now (Lose ch at) → LossyHeld ctl mch now fabric → losses_at net.watch ch < net.watch.limit
  loses_few_by net now is ch at fabric here passes held = subst (λ (z : LossyBenchState C M). losses_at z.watch ch < z.watch.limit) (sym is) (loses_few now ch at fabric here passes held)

  module _ (p : BenchState C M) (t : Timing) (w0 : LossyTimes) (sent : List ℕ) (posted : List (List Value)) (kept : IsKeptLossy (lossy_bench_of p t w0 sent posted)) (ch at : ℕ) (timely : at ≤ GREATEST_TIME) (here : ch < chan_count p.shape)
      (old new : FabricState) (kinds : HasLossyKinds (lossy_bench_of p t w0 sent posted) old) (v : ℕ) (v_is : v ≡ p.values) where
    abbrev net : LossyBenchState C M
    net = lossy_bench_of p t w0 sent posted

    space_with : (ibs : List InboxState) → HasSpace (record p { inboxes = ibs; values = v })
    space_with ibs =
        let room = kept.space in
        record {
          messages = λ c h. subst (λ k. length (types_for p.layout p.shape c) ≤ k) (sym v_is) (room.messages c h);
          inputs = λ n h. subst (λ k. length (Rattle.lt_place.specs.Layout.part_of p.layout n).feeds ≤ k) (sym v_is) (room.inputs n h);
          outputs = room.outputs;
          tracks = room.tracks;
          cells = room.cells;
          routes = room.routes;
          exits = room.exits;
          ports = room.ports;
        }

    sized_with : (ibs : List InboxState) → HasSizes (record p { inboxes = ibs }) → (w : LossyTimes) → (losses : ℕ) → w ≡ with_losses (without_oldest w0 ch at) ch losses → HasLossySizes (lossy_bench_of (record p { inboxes = ibs; values = v }) t w sent posted)
    sized_with ibs z w losses is =
        let sized = kept.sized in
        record {
          bench = record { machines = z.machines; controllers = z.controllers; executed = z.executed; inboxes = z.inboxes; buffers = z.buffers; inbox_types = z.inbox_types; buffer_types = z.buffer_types };
          lasts = ap (λ (w : LossyTimes). length w.lasts) is ∙ sized.lasts;
          queues = ap (λ (w : LossyTimes). length w.queues) is ∙ length-set w0.queues ch _ ∙ sized.queues;
          losses = ap (λ (w : LossyTimes). length w.losses) is ∙ length-set w0.losses ch _ ∙ sized.losses;
          sent = sized.sent;
          posted = sized.posted;
          posted_types = sized.posted_types;
        }

    -- a delivery
    module _ (passes : PassesBy net (Plain (Del ch at))) (ibs : List InboxState) (received : ReceivesLossy p.inboxes ibs old new ch) (w : LossyTimes) (watch : w ≡ with_losses (without_oldest w0 ch at) ch 0) (row : Option (List Value)) where
      b : InboxState
      b = slice_index_or p.inboxes ch no_inbox

      at_inbox : slice_get p.inboxes ch ≡ Some (slice_index_or p.inboxes ch no_inbox)
      at_inbox = slice_get-get_or p.inboxes ch no_inbox (omega (arith, here, kept.sized.bench.inboxes))

      abbrev payload : List Value
      payload = received.message.payload

      typed : map ty_of (with_latest (slice_index_or p.inboxes ch no_inbox) received.message.payload received.message.bit).payload ≡ types_for p.layout p.shape ch
      typed =
          let types = kept.sized.bench.inbox_types ch here in
          latest_typed (slice_index_or p.inboxes ch no_inbox) received.message.payload received.message.bit (differ received.message.bit (slice_index_or p.inboxes ch no_inbox).bit || has_unread (slice_index_or p.inboxes ch no_inbox)) (received.delivers.typed ∙ kinds.each ch here ∙ sym types) ∙ types

      sizes : HasSizes (record p { inboxes = ibs })
      sizes = subst (λ ibs. HasSizes (record p { inboxes = ibs })) (sym received.inboxes) (sizes_delivered p kept.sized.bench ch here (with_latest (slice_index_or p.inboxes ch no_inbox) received.message.payload received.message.bit) typed)

      keeps : (ls next : LossyLists) → StandsWith ctl mch net ls old → LossyGoesOn net ls next (Plain (Del ch at)) row payload → KeepsDel ctl mch net ls next payload new ch at received.message (slice_index_or p.inboxes ch no_inbox)
      keeps ls next with goes = (law-events_keep ctl mch net ls next row payload old kept.fixed kept.sized with).delivery ch at received.message new (slice_index_or p.inboxes ch no_inbox)
          (passes_for net (Plain (Del ch at)) timely passes ls old with) here goes received.delivers at_inbox

      goes_on : (ls next : LossyLists) → StandsWith ctl mch net ls old → LossyGoesOn net ls next (Plain (Del ch at)) row payload → StandsWith ctl mch (lossy_bench_of (record p { inboxes = ibs; values = v }) t w sent posted) next new
      goes_on ls next with goes =
          let path : lossy_bench_of (record p { inboxes = ibs; values = v }) t w sent posted
          ≡ lossy_bench_of (record p { inboxes = set p.inboxes ch (with_latest (slice_index_or p.inboxes ch no_inbox) received.message.payload received.message.bit) }) t (with_losses (without_oldest w0 ch at) ch 0) sent posted =
          λ i. lossy_bench_of (record p { inboxes = received.inboxes i; values = v_is i }) t (watch i) sent posted in
          subst (λ z. StandsWith ctl mch z next new) (sym path) ((keeps ls next with goes).arrival refl)

      pub delivery_taken : IsTakenLossy ctl mch net (lossy_bench_of (record p { inboxes = ibs; values = v }) t w sent posted) (Plain (Del ch at)) row old new
      delivery_taken = record {
        payload = payload;
        goes = goes_on;
        carried = λ ls next with goes. (received.message, refl, received.delivers);
        own = λ faithful ls next with goes own. law-own ctl mch net ls next row payload old (Plain (Del ch at)) kept.fixed with own here goes (received.delivers.oldest, new.transit ch, received.delivers.taken, received.delivers.values faithful);
        stays = λ ls next with goes. delivery_stays ctl mch net ls next row payload old kept.fixed kept.sized with ch at (passes_for net (Plain (Del ch at)) timely passes ls old with) here goes
            received.delivers.oldest (new.transit ch) received.delivers.taken;
        kept = record { fixed = kept.fixed; sized = sized_with ibs sizes w 0 watch; space = space_with ibs };
        static = record { layout = refl; shape = refl; timing = refl; rows = refl; limit = ap (λ (w : LossyTimes). w.limit) watch };
        kinds = received.delivers.kinds;
      }

    -- a loss
    module _ (passes : PassesBy net (Lose ch at)) (dropped : DropsOldest old new ch) (w : LossyTimes) (watch : w ≡ with_losses (without_oldest w0 ch at) ch (losses_at w0 ch + 1)) (row : Option (List Value)) where
      lost_on : (ls next : LossyLists) → StandsWith ctl mch net ls old → LossyGoesOn net ls next (Lose ch at) row [] → StandsWith ctl mch (lossy_bench_of (record p { values = v }) t w sent posted) next new
      lost_on ls next with goes =
          let path : lossy_bench_of (record p { values = v }) t w sent posted ≡ lossy_bench_of p t (with_losses (without_oldest w0 ch at) ch (losses_at w0 ch + 1)) sent posted = λ i. lossy_bench_of (record p { values = v_is i }) t (watch i) sent posted in
          subst (λ z. StandsWith ctl mch z next new) (sym path)
          ((law-events_keep ctl mch net ls next row [] old kept.fixed kept.sized with).loss ch at dropped.message new (passes_for net (Lose ch at) timely passes ls old with) here goes dropped.delivers)

      pub loss_taken : IsTakenLossy ctl mch net (lossy_bench_of (record p { values = v }) t w sent posted) (Lose ch at) row old new
      loss_taken = record {
        payload = [];
        goes = lost_on;
        carried = λ ls next with goes. (dropped.message, dropped.delivers);
        own = λ faithful ls next with goes own. law-own ctl mch net ls next row [] old (Lose ch at) kept.fixed with own here goes tt;
        stays = λ ls next with goes. same_own ctl mch net ls next row [] old kept.fixed kept.sized with (λ i n. goes.inputs n i) (λ i c. goes.got c i);
        kept = record { fixed = kept.fixed; sized = sized_with p.inboxes kept.sized.bench w (losses_at w0 ch + 1) watch; space = space_with p.inboxes };
        static = record { layout = refl; shape = refl; timing = refl; rows = refl; limit = ap (λ (w : LossyTimes). w.limit) watch };
        kinds = dropped.delivers.kinds;
      }

  -- an end
  pub end_taken : (net now : LossyBenchState C M) → net ≡ now → IsKeptLossy now → (at : ℕ) → at ≤ GREATEST_TIME → PassesBy now (Plain (End at)) → (w : LossyTimes) → w ≡ with_end net.watch at → (row : Option (List Value)) (fabric : FabricState) →
      IsTakenLossy ctl mch now (record net { watch = w }) (Plain (End at)) row fabric fabric
  end_taken net now is kept at timely passes w watch row fabric =
      subst (λ (z : LossyBenchState C M). IsKeptLossy z → PassesBy z (Plain (End at)) → IsTakenLossy ctl mch z (record net { watch = w }) (Plain (End at)) row fabric fabric) is (λ kept passes.
      record {
        payload = [];
        goes = λ ls next with goes. subst (λ w. StandsWith ctl mch (record net { watch = w }) next fabric) (sym watch)
            ((law-events_keep ctl mch net ls next row [] fabric kept.fixed kept.sized with).ending at (passes_for net (Plain (End at)) timely passes ls fabric with) goes);
        carried = λ ls next with goes. record { kinds = refl; transit = λ c. refl; sent = λ told c. refl; delivered = λ told c. refl };
        own = λ faithful ls next with goes own. law-own ctl mch net ls next row [] fabric (Plain (End at)) kept.fixed with own tt goes tt;
        stays = λ ls next with goes. same_own ctl mch net ls next row [] fabric kept.fixed kept.sized with (λ i n. goes.inputs n i) (λ i c. goes.got c i);
        kept = record {
          fixed = kept.fixed;
          sized =
              let z = kept.sized in
              record {
                bench = z.bench;
                lasts = ap (λ (w : LossyTimes). length w.lasts) watch ∙ z.lasts;
                queues = ap (λ (w : LossyTimes). length w.queues) watch ∙ z.queues;
                losses = ap (λ (w : LossyTimes). length w.losses) watch ∙ z.losses;
                sent = z.sent;
                posted = z.posted;
                posted_types = z.posted_types;
              };
          space = kept.space;
        };
        static = record { layout = refl; shape = refl; timing = refl; rows = refl; limit = ap (λ (w : LossyTimes). w.limit) watch };
        kinds = refl;
      }) kept passes

  -- the same, by the parts that code has: a bench, and the net that it is in
  module _ (p q : BenchState C M) (t : Timing) (w0 : LossyTimes) (sent : List ℕ) (posted : List (List Value)) (now : LossyBenchState C M) (bench : p ≡ q) (is : lossy_bench_of q t w0 sent posted ≡ now) where
    pub net_is : lossy_bench_of p t w0 sent posted ≡ now
    net_is = ap (λ b. lossy_bench_of b t w0 sent posted) bench ∙ is

    pub delivered_taken : IsKeptLossy now → (ch at : ℕ) → at ≤ GREATEST_TIME → ch < chan_count now.shape → (old new : FabricState) → HasLossyKinds now old → PassesBy now (Plain (Del ch at)) → (ibs : List InboxState) → ReceivesLossy p.inboxes ibs old new ch →
        (w : LossyTimes) → w ≡ with_losses (without_oldest w0 ch at) ch 0 → (v : ℕ) → v ≡ p.values → (row : Option (List Value)) → IsTakenLossy ctl mch now (lossy_bench_of (record p { inboxes = ibs; values = v }) t w sent posted) (Plain (Del ch at)) row old new
    delivered_taken kept ch at timely here old new kinds passes ibs received w watch v v_is row =
        subst (λ (z : LossyBenchState C M). IsKeptLossy z → ch < chan_count z.shape → HasLossyKinds z old → PassesBy z (Plain (Del ch at)) → IsTakenLossy ctl mch z (lossy_bench_of (record p { inboxes = ibs; values = v }) t w sent posted) (Plain (Del ch at)) row old new) net_is
        (λ kept here kinds passes. delivery_taken p t w0 sent posted kept ch at timely here old new kinds v v_is passes ibs received w watch row) kept here kinds passes

    pub lost_taken : IsKeptLossy now → (ch at : ℕ) → at ≤ GREATEST_TIME → ch < chan_count now.shape → (old new : FabricState) → HasLossyKinds now old → PassesBy now (Lose ch at) → DropsOldest old new ch →
        (w : LossyTimes) → w ≡ with_losses (without_oldest w0 ch at) ch (losses_at w0 ch + 1) → (v : ℕ) → v ≡ p.values → (row : Option (List Value)) → IsTakenLossy ctl mch now (lossy_bench_of (record p { values = v }) t w sent posted) (Lose ch at) row old new
    lost_taken kept ch at timely here old new kinds passes dropped w watch v v_is row =
        subst (λ (z : LossyBenchState C M). IsKeptLossy z → ch < chan_count z.shape → HasLossyKinds z old → PassesBy z (Lose ch at) → IsTakenLossy ctl mch z (lossy_bench_of (record p { values = v }) t w sent posted) (Lose ch at) row old new) net_is
        (λ kept here kinds passes. loss_taken p t w0 sent posted kept ch at timely here old new kinds v v_is passes dropped w watch row) kept here kinds passes

-- what an end keeps
pub end_kept : {C M : Type 0} (net now : LossyBenchState C M) → net ≡ now → IsKeptLossy now → (at : ℕ) (w : LossyTimes) → w ≡ with_end net.watch at → IsKeptLossy (record net { watch = w })
end_kept net now is kept at w watch =
    let k : IsKeptLossy net = subst (λ z. IsKeptLossy z) (sym is) kept in
    let z = k.sized in
    record {
      fixed = k.fixed;
      sized = record {
        bench = z.bench;
        lasts = ap (λ (w : LossyTimes). length w.lasts) watch ∙ z.lasts;
        queues = ap (λ (w : LossyTimes). length w.queues) watch ∙ z.queues;
        losses = ap (λ (w : LossyTimes). length w.losses) watch ∙ z.losses;
        sent = z.sent;
        posted = z.posted;
        posted_types = z.posted_types;
      };
      space = k.space;
    }

pub end_static : {C M : Type 0} (net now : LossyBenchState C M) → net ≡ now → (at : ℕ) (w : LossyTimes) → w ≡ with_end net.watch at → SameLossyStatic now (record net { watch = w })
end_static net now is at w watch = subst (λ z. SameLossyStatic z (record net { watch = w })) is (record { layout = refl; shape = refl; timing = refl; rows = refl; limit = ap (λ (w : LossyTimes). w.limit) watch })
