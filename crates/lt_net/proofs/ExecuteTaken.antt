-- An activation that executes, by what code has.
use Rattle.std.proofs.Common.{map, ◌≡◌, inr, ℕ, ◌<◌, ◌≤◌, Bool, true, false, not, List, [], length, set, Some, None, refl, sym, ap, ◌∙◌, subst, arith, cond, length-set}
use Rattle.std.specs.Prelude.{slice_index_or, ◌&&◌, nat_lt}
use Rattle.std.specs.Prelude.{◌==◌}
use Rattle.lt_base.specs.declared.value.Value.{Value}
use Rattle.lt_base.specs.Value.{ty_of}
use Rattle.lt_arch.specs.declared.event.Deed.{Deed}
use Rattle.lt_arch.specs.declared.event.Deed.TheVariants.{Execute}
use Rattle.lt_arch.specs.declared.event.Event.TheVariants.{Act}
use Rattle.lt_arch.specs.declared.shape.Shape.{Shape}
use Rattle.lt_arch.specs.declared.timing.Timing.{Timing}
use Rattle.lt_arch.specs.State.{State}
use Rattle.lt_arch.specs.Readers.{node_count, chan_count, chan_of, carries_data}
use Rattle.lt_arch.specs.Deeds.{deed_at}
use Rattle.lt_arch.specs.Step.{offence_of, sends_on}
use Rattle.lt_arch.specs.Times.{Times, HasTimes, SentOn}
use Rattle.lt_io.specs.FabricState.{FabricState}
use Rattle.lt_net.specs.Net.{TimedBenchState, Lists, reached_state, bench_of}
use Rattle.lt_link.specs.Inbox.{InboxState, no_inbox}
use Rattle.lt_net_bench.specs.Standing.{HasRun}
use Rattle.lt_net.specs.Stands.{NetStands}
use Rattle.lt_net.specs.Halts.{HasHalted}
use Rattle.lt_net.specs.Event.{ListsGoOn, Happens, FabricHolds, InputsGo}
use Rattle.lt_net.specs.Kept.{Kept}
use Rattle.lt_net_node.specs.Acts.{marked}
use Rattle.lt_link.specs.Ports.{is_to, is_from}
use Rattle.lt_net.specs.Sends.{SendsUpTo, message_on, messages_with}
use Rattle.lt_net_node.specs.Wakes.{bits_of, Wakes, AreConfigured}
use Rattle.lt_net_node.proofs.Below.{lt_yes}
use Rattle.lt_arch.specs.declared.limits.TheConstants.{GREATEST_TIME}
use Rattle.lt_arch.specs.Readers.{is_data, no_chan, is_back_pressure}
use Rattle.lt_arch.proofs.Changes.{execute_sends}
use Rattle.lt_net.specs.Kept.{NetHasRoom, IsSized}
use Rattle.lt_net_node.specs.Payloads.{types_for}
use Rattle.lt_net_bench.specs.Changes.{GrowsByRow}
use Rattle.lt_net_bench.specs.Given.{FitsPart}
use Rattle.lt_net_bench.specs.Executes.{Executes}
use Rattle.lt_net.proofs.InstantStands.{instant_ran, instant_stands, buffers_typed}
use Rattle.lt_net.proofs.NextLists.{next_lists}
use Rattle.lt_net_bench.proofs.Activated.{marked_bit}
use Rattle.lt_net_bench.proofs.SizesStay.{sizes_ran}
use Rattle.lt_net.proofs.Benches.{sizes_of, sized_by}
use Rattle.lt_net_bench.proofs.Entries.{true_false}
use Rattle.lt_net.proofs.IdleActivation.{deed_by_bits, clear_of, woke_is, control_within, controls_length, sent_holds, carried_on}
use Rattle.lt_machine.specs.declared.machine.Machine.{Ghosts as Machines}
use Rattle.lt_arch.specs.declared.controller.Controller.{Ghosts as Controls}

and_acks : (b x : Bool) → (b ≡ false → x ≡ false) → x ≡ (b && x)
and_acks true x h = refl
and_acks false x h = h refl

ack_off : (a b : Bool) → b ≡ true → (a && not b) ≡ false
ack_off true true h = refl
ack_off false b h = refl
ack_off true false h = absurd (cc)

-- a node that executes sends its acknowledgements
pub acks_are : {C M : Type 0} (net : TimedBenchState C M) → (is_back_pressure net.timing.protocol ≡ false → (c : ℕ) → c < chan_count net.shape → carries_data net.shape c ≡ true) → (n c : ℕ) → c < chan_count net.shape →
    is_from net.shape.channels n false c ≡ sends_on net.shape net.timing n Execute c
unfolding chan_of
acks_are net no_acks n c h = and_acks (is_back_pressure net.timing.protocol) (is_from net.shape.channels n false c) (λ off. ack_off ((slice_index_or net.shape.channels c no_chan).from == n) (is_data (slice_index_or net.shape.channels c no_chan).kind) (no_acks off c h))

module _ {C M : Type 0} (ctl : Controls C) (mch : Machines M) (net : TimedBenchState C M) (kept : Kept ctl mch net) (configured : AreConfigured ctl net.timing net.controllers)
    (n at : ℕ) (timely : at ≤ GREATEST_TIME) (nb : n < node_count net.shape) (passes : (s : Shape) (t : Timing) (st : State) → HasTimes net.watch s t st → offence_of s t st (Act n at) ≡ None)
    (cs : List C) (d : Deed)
    (wakes : Wakes ctl net.controllers cs n (bits_of net.shape.channels net.inboxes net.executed net.rows n) d)
    (executes : d ≡ Execute) (room : NetHasRoom net) (row : List Value) (fits : FitsPart net.layout n row) (mid : TimedBenchState C M) (ex : Executes mch (record (bench_of net) { controllers = cs }) (bench_of mid) n row) where
  module _ (ls next : Lists) (s : NetStands ctl mch net ls) (goes : ListsGoOn net ls next (Act n at) (Some row) []) where
    exec_is : deed_at net.shape net.rows (reached_state net ls) n ≡ Execute
    exec_is = sym (deed_by_bits ctl mch net kept configured n at timely nb passes cs d wakes ls s) ∙ executes

    takes_row : GrowsByRow ls.inputs next.inputs n row
    takes_row = subst (λ x. InputsGo (Act n at) x (Some row) ls.inputs next.inputs) exec_is goes.inputs

    typed_next : (c : ℕ) → c < chan_count net.shape → map ty_of (slice_index_or mid.buffers c []) ≡ types_for net.layout net.shape c
    typed_next = buffers_typed ctl mch net n at kept.fixed.whole kept.fixed.laid kept.fixed.channels kept.fixed.one_place room.routes room.exits kept.sized room.tracks ls next s (clear_of ctl mch net kept configured n at timely nb passes cs d wakes ls s) goes.events goes.got nb exec_is row takes_row fits
        cs mid ex

  box_is : (c : ℕ) → slice_index_or mid.inboxes c no_inbox ≡ marked (nat_lt c (length net.shape.channels) && is_to net.shape.channels n true c) (slice_index_or net.inboxes c no_inbox)
  box_is c = ex.taken.each c

  bits_same : (c : ℕ) → c < chan_count net.shape → (slice_index_or mid.inboxes c no_inbox).bit ≡ (slice_index_or net.inboxes c no_inbox).bit
  bits_same c h = ap (λ (z : InboxState). z.bit) (box_is c) ∙ marked_bit _ (slice_index_or net.inboxes c no_inbox)

  found : (ls : Lists) × NetStands ctl mch net ls
  found = kept.standing

  then : (next : Lists) × ListsGoOn net (found.0) next (Act n at) (Some row) []
  then = next_lists net found.0 (Some row) [] (Act n at) (λ i t e x none. absurd (cc))

  -- the machines have run the row too, with any watch
  pub run_halted : (w : Times) (ls : Lists) → NetStands ctl mch net ls →
      HasHalted mch (record net { watch = w; controllers = cs; machines = set net.machines n ex.after; executed = mid.executed; inboxes = mid.inboxes; tracks = mid.tracks; buffers = mid.buffers }) ls (Act n at) (Some row)
  run_halted w ls s =
      let go = next_lists net ls (Some row) [] (Act n at) (λ i t e x none. absurd (cc)) in
      record {
        rows = (go.0).inputs;
        may_take = inr (takes_row ls go.0 s go.1);
        ran = subst (λ g. HasRun mch net.layout net.shape (set net.machines n ex.after) mid.executed mid.tracks (go.0).inputs g) (λ i c. go.1.got c i)
            (instant_ran ctl mch net n at kept.fixed.whole kept.fixed.laid kept.fixed.channels kept.fixed.one_place room.routes room.exits kept.sized room.tracks ls go.0 s (clear_of ctl mch net kept configured n at timely nb passes cs d wakes ls s) go.1.events go.1.got nb (exec_is ls go.0 s go.1) row (takes_row ls go.0 s go.1) fits
            cs mid ex);
      }

  -- what there is one of for each node and each channel, there is still, with any watch as large as before
  pub run_sized : (w : Times) → length w.lasts ≡ length net.watch.lasts → length w.sends ≡ length net.watch.sends →
      IsSized (record net { watch = w; controllers = cs; machines = set net.machines n ex.after; executed = mid.executed; inboxes = mid.inboxes; tracks = mid.tracks; buffers = mid.buffers })
  run_sized w lasts sends =
      let z = kept.sized in
      sized_by (record net { watch = w; controllers = cs; machines = set net.machines n ex.after; executed = mid.executed; inboxes = mid.inboxes; tracks = mid.tracks; buffers = mid.buffers })
      (sizes_ran (bench_of net) (sizes_of net z) cs (controls_length ctl mch net kept configured n at timely nb passes cs d wakes) mch n row (bench_of mid) ex (typed_next found.0 then.0 found.1 then.1))
      (lasts ∙ z.lasts) (sends ∙ z.sends)

  module _ (old new : FabricState) (holds : FabricHolds net old) (w1 : Times) (upto : SendsUpTo (length net.shape.channels) (is_from net.shape.channels n false) (message_on mid.buffers mid.inboxes) at old new net.watch w1)
      (w : Times) (watch : w ≡ record w1 { lasts = set w1.lasts n (Some at); latest = Some at }) where
    abbrev after_net : TimedBenchState C M
    after_net = record net { watch = w; controllers = cs; machines = set net.machines n ex.after; executed = mid.executed; inboxes = mid.inboxes; tracks = mid.tracks; buffers = mid.buffers }

    on_is : (c : ℕ) → c < chan_count net.shape → (nat_lt c (length net.shape.channels) && is_from net.shape.channels n false c) ≡ sends_on net.shape net.timing n d c
    on_is c h = ap (λ b. b && is_from net.shape.channels n false c) (lt_yes c (length net.shape.channels) h) ∙ acks_are net kept.fixed.no_acks n c h ∙ ap (λ x. sends_on net.shape net.timing n x c) (sym executes)

    on_sent : SentOn (sends_on net.shape net.timing n d) at net.watch.sends upto.notes.sends
    on_sent = record { same_length = upto.notes.same_length; each = λ c h. upto.notes.each c h ∙ ap (λ b. cond b (Some at) (slice_index_or net.watch.sends c None)) (on_is c (omega (arith, h, kept.sized.sends))) }

    watch_is : w ≡ record net.watch { lasts = set net.watch.lasts n (Some at); sends = upto.notes.sends; latest = Some at }
    watch_is = watch ∙ ap (λ (z : Times). record z { lasts = set z.lasts n (Some at); latest = Some at }) upto.notes.is

    module _ (ls next : Lists) (s : NetStands ctl mch net ls) (goes : ListsGoOn net ls next (Act n at) (Some row) []) where
      on_deed : SentOn (sends_on net.shape net.timing n (deed_at net.shape net.rows (reached_state net ls) n)) at net.watch.sends upto.notes.sends
      on_deed = subst (λ x. SentOn (sends_on net.shape net.timing n x) at net.watch.sends upto.notes.sends) (deed_by_bits ctl mch net kept configured n at timely nb passes cs d wakes ls s) on_sent

      stands_next : NetStands ctl mch after_net next
      stands_next = instant_stands ctl mch net n at kept.fixed.whole kept.fixed.laid kept.fixed.channels kept.fixed.one_place room.routes room.exits kept.sized room.tracks ls next s (clear_of ctl mch net kept configured n at timely nb passes cs d wakes ls s) goes.events goes.got nb (exec_is ls next s goes) row (takes_row ls next s goes) fits
          cs mid ex w upto.notes.sends on_deed watch_is wakes.after wakes.is (control_within ctl mch net kept configured n at timely nb passes cs d wakes) (woke_is ctl mch net kept configured n at timely nb passes cs d wakes ls s)

    pub execute_holds : FabricHolds after_net new
    execute_holds = record {
      transit = λ c h. sent_holds ctl mch net kept configured n at timely nb passes cs d wakes w upto.notes.sends on_sent (ap (λ (z : Times). z.sends) watch_is) mid.inboxes bits_same old new holds
          (message_on mid.buffers mid.inboxes) (λ c h. ap not (bits_same c h)) (λ c h. upto.sends.transit c ∙ ap (λ b. messages_with b (old.transit c) (message_on mid.buffers mid.inboxes c)) (on_is c h)) c h;
    }

    pub execute_happens : Happens (NetStands ctl mch net) (NetStands ctl mch after_net) net (Act n at) (Some row) old new
    execute_happens = record {
      payload = [];
      goes = λ ls next s goes. stands_next ls next s goes;
      carried = λ ls next s goes. carried_on ctl mch net kept configured n at timely nb passes cs d wakes ls next s old new (message_on mid.buffers mid.inboxes) upto.sends.kinds (λ c h. ap not (bits_same c h))
          (λ c h. upto.sends.transit c ∙ ap (λ b. messages_with b (old.transit c) (message_on mid.buffers mid.inboxes c)) (on_is c h))
          (λ t c h. upto.sends.sent t c ∙ ap (λ b. messages_with b (old.sent c) (message_on mid.buffers mid.inboxes c)) (on_is c h))
          (λ t c h. upto.sends.delivered t c)
          (λ c h on carries. absurd (true_false (sym on ∙ ap (λ x. sends_on net.shape net.timing n x c) executes ∙ execute_sends net.shape net.timing n c carries)));
    }

    pub execute_kept : Kept ctl mch after_net
    execute_kept = record {
      fixed = kept.fixed;
      sized = run_sized w (ap (λ (z : Times). length z.lasts) watch_is ∙ length-set net.watch.lasts n (Some at)) (ap (λ (z : Times). length z.sends) watch_is ∙ upto.notes.same_length);
      standing = (then.0, stands_next found.0 then.0 found.1 then.1);
    }
