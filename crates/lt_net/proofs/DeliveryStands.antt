-- A net after a delivery.
use Rattle.std.proofs.Common.{◌≡◌, ◌≢◌, ℕ, ◌+◌, ◌<◌, Bool, not, List, [], ◌∷◌, length, set, Option, Some, None, refl, sym, ap, ◌∙◌, subst, arith}
use Rattle.std.specs.List.{slice_get}
use Rattle.lt_base.specs.declared.value.Value.{Value}
use Rattle.lt_base.specs.Program.{Function}
use Rattle.lt_arch.specs.declared.event.Event.TheVariants.{Del}
use Rattle.lt_arch.specs.declared.shape.Shape.{Shape}
use Rattle.lt_arch.specs.declared.timing.Timing.{Timing}
use Rattle.lt_arch.specs.State.{State, ChanState, start}
use Rattle.lt_arch.specs.Readers.{chan_count}
use Rattle.lt_arch.specs.Step.{after, own_offence, too_early, with_delivered, updated}
use Rattle.lt_arch.specs.Schedule.{after_all, HasNoOffence, OnePlace}
use Rattle.lt_arch.specs.Times.{HasTimes}
use Rattle.lt_arch.proofs.Noted.{noted-del}
use Rattle.lt_arch.proofs.Facts.{clear}
use Rattle.lt_arch.proofs.Changes.{updated-here, updated-other}
use Rattle.lt_net_node.specs.Layout.{IsLaidOut}
use Rattle.lt_net.specs.Net.{TimedBenchState, Lists, bench_of, reached_state}
use Rattle.lt_link.specs.Inbox.{InboxState}
use Rattle.lt_net.specs.Stands.{NetStands}
use Rattle.lt_net_node.specs.Channels.{HasChannels}
use Rattle.lt_net.specs.Event.{ListsGoOn}
use Rattle.lt_net_bench.specs.Changes.{DeliversOn}
use Rattle.lt_net_bench.specs.Standing.{StandsAt}
use Rattle.lt_net_bench.proofs.Delivered.{delivered_at}
use Rattle.lt_net.proofs.Activations.{ahead_of}
use Rattle.lt_net.proofs.EndStands.{Passes, timely-more, after_all-more, clean-more}
use Rattle.lt_arch.specs.Schedule.{AreUpTo}
use Rattle.lt_arch.specs.declared.limits.TheConstants.{GREATEST_TIME}
use Rattle.lt_machine.specs.declared.machine.Machine.{Ghosts as Machines}
use Rattle.lt_arch.specs.declared.controller.Controller.{Ghosts as Controls}

came : (c dmin at : ℕ) (ch : ChanState) (xs : List ℕ) → too_early c dmin at xs ≡ None → (with_delivered ch xs).delivered ≡ ch.delivered + 1
came c dmin at ch [] h = absurd (cc)
came c dmin at ch (x ∷ xs) h = refl

module _ (s : Shape) (t : Timing) (rows : ℕ) (st : State) (ch at : ℕ) where
  pub del-node : (n : ℕ) → (after s t rows st (Del ch at)).node n ≡ st.node n
  unfolding after
  del-node n = refl

  del-chan : (c : ℕ) → (after s t rows st (Del ch at)).chan c ≡ updated st.chan ch (with_delivered (st.chan ch) (st.chan ch).transit) c
  unfolding after
  del-chan c = refl

  del-here : own_offence s t st (Del ch at) ≡ None → ((after s t rows st (Del ch at)).chan ch).delivered ≡ (st.chan ch).delivered + 1
  del-here h = ap (λ c. c.delivered) (del-chan ch ∙ updated-here st.chan ch _ ch refl) ∙ came ch _ at (st.chan ch) (st.chan ch).transit h

  del-other : (c : ℕ) → c ≢ ch → ((after s t rows st (Del ch at)).chan c).delivered ≡ (st.chan c).delivered
  del-other c ne = ap (λ c. c.delivered) (del-chan c ∙ updated-other st.chan ch _ c ne)

module _ {C M : Type 0} (ctl : Controls C) (mch : Machines M) (net : TimedBenchState C M) (ch at : ℕ)
    (f : Function) (placed : IsLaidOut f net.layout) (channels : HasChannels net.layout net.shape) (one_place : OnePlace net.shape net.timing net.rows)
    (ls next : Lists) (s : NetStands ctl mch net ls) (offence : Passes net.shape net.timing (reached_state net ls) (Del ch at))
    (payload : List Value) (row : Option (List Value)) (goes : ListsGoOn net ls next (Del ch at) row payload)
    (b : InboxState) (at_inbox : slice_get net.inboxes ch ≡ Some b) (here : ch < chan_count net.shape) (bit : Bool) (bit_is : bit ≡ not b.bit) where
  abbrev delivered_net : TimedBenchState C M
  delivered_net = record net {
    inboxes = set net.inboxes ch (record b { payload = payload; bit = bit });
    watch = record net.watch { sends = set net.watch.sends ch None; latest = Some at };
  }

  state_is : reached_state net next ≡ after net.shape net.timing net.rows (reached_state net ls) (Del ch at)
  state_is = ap (after_all net.shape net.timing net.rows (start net.timing.protocol)) goes.events ∙ after_all-more net.shape net.timing net.rows (start net.timing.protocol) ls.events (Del ch at)

  node_same : (n : ℕ) → (reached_state net next).node n ≡ (reached_state net ls).node n
  node_same n = ap (λ (z : State). z.node n) state_is ∙ del-node net.shape net.timing net.rows (reached_state net ls) ch at n

  own_clear : own_offence net.shape net.timing (reached_state net ls) (Del ch at) ≡ None
  own_clear = (clear net.shape net.timing (reached_state net ls) (Del ch at) offence.1).own

  delivers_on : DeliversOn ch (reached_state net ls) (reached_state net next)
  delivers_on = record {
    nodes = node_same;
    here = ap (λ (z : State). (z.chan ch).delivered) state_is ∙ del-here net.shape net.timing net.rows (reached_state net ls) ch at own_clear;
    elsewhere = λ c ne. ap (λ (z : State). (z.chan c).delivered) state_is ∙ del-other net.shape net.timing net.rows (reached_state net ls) ch at c ne;
  }

  inputs_are : next.inputs ≡ ls.inputs
  inputs_are = λ i n. goes.inputs n i

  pub delivered_stands : length net.machines ≡ length net.layout.nodes → NetStands ctl mch delivered_net next
  delivered_stands machines = record {
    timely = subst (λ es. AreUpTo GREATEST_TIME es) (sym goes.events) (timely-more GREATEST_TIME ls.events (Del ch at) s.timely offence.0);
    clean = subst (λ es. HasNoOffence net.shape net.timing net.rows (start net.timing.protocol) es) (sym goes.events) (clean-more net.shape net.timing net.rows (start net.timing.protocol) ls.events (Del ch at) s.clean offence.1);
    times = subst (λ z. HasTimes delivered_net.watch net.shape net.timing z) (sym state_is) (noted-del net.watch net.shape net.timing net.rows (reached_state net ls) s.times ch at (omega (arith, here, s.times.chan_count)) own_clear);
    bench = subst (λ rs. StandsAt ctl mch (bench_of delivered_net) (reached_state net next) rs next.got) (sym inputs_are)
        (delivered_at ctl mch (bench_of net) (reached_state net ls) (reached_state net next) ls.inputs ls.got s.bench ch delivers_on f placed channels (ahead_of net.shape (reached_state net ls) (one_place ls.events s.timely s.clean)) next.got payload goes.got
        b at_inbox here bit bit_is machines);
  }
