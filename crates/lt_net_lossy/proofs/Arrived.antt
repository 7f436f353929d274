-- A net after a delivery, a loss and an end.
use Rattle.std.proofs.Common.{◌≡◌, ℕ, suc, ◌+◌, ◌<◌, ◌≤◌, Bool, true, false, not, List, [], ◌∷◌, ◌++◌, length, set, Option, Some, refl, sym, ap, ◌∙◌, subst, arith}
use Rattle.std.specs.Prelude.{slice_index_or}
use Rattle.std.specs.List.{slice_get}
use Rattle.std.proofs.lemmas.Bool.{ltb-true, ltb-false}
use Rattle.lt_base.specs.declared.value.Value.{Value}
use Rattle.lt_arch.specs.declared.event.Event.TheVariants.{Del, End}
use Rattle.lt_arch.specs.Readers.{node_count, chan_count, from_of, to_of, carries_data}
use Rattle.lt_link.specs.Inbox.{InboxState}
use Rattle.lt_lossy.specs.declared.event.LossyEvent.{LossyEvent}
use Rattle.lt_lossy.specs.declared.event.LossyEvent.TheVariants.{Plain, Lose}
use Rattle.lt_lossy.specs.State.{Message, LinkState, LossyState, plain_of, sent_count, number_on}
use Rattle.lt_lossy.specs.Step.{lossy_after, link_delivered}
use Rattle.lt_lossy.specs.Times.{LossyTimes, HasLossyTimes, losses_at, without_oldest, with_losses, with_end}
use Rattle.lt_lossy.specs.Laws.{Ascends}
use Rattle.lt_lossy.proofs.Changes.{node-del, node-lose, node-end, link-end, link-del, link-lose}
use Rattle.lt_lossy.proofs.Noted.{law-times}
use Rattle.lt_lossy.proofs.Numbers.{ascends-ends, newest-lost}
use Rattle.lt_net_bench.specs.Changes.{DeliversOn, StaysOn, Gets, HasEnough}
use Rattle.lt_net_bench.specs.Standing.{HasOwnValues, StandsAt}
use Rattle.lt_net_bench.proofs.Delivered.{delivered_at, enough_ahead, stays_at}
use Rattle.lt_net_bench.proofs.OwnValues.{grows_extends, own_extended}
use Rattle.lt_net_lossy.specs.Net.{LossyBenchState, LossyLists, bench_of_lossy, lossy_state_of}
use Rattle.lt_net_lossy.specs.Stands.{StandsLossy}
use Rattle.lt_net_lossy.specs.Event.{PassesLossy, LossyGoesOn, GetsBy, is_newer, brings_new}
use Rattle.lt_net_lossy.specs.Kept.{IsFixedLossy, HasLossySizes}
use Rattle.lt_net_lossy.proofs.Reached.{balanced, one_now, ahead, state_is, clean_next, timely_next}
use Rattle.lt_machine.specs.declared.machine.Machine.{Ghosts as Machines}
use Rattle.lt_arch.specs.declared.controller.Controller.{Ghosts as Controls}

-- The number of the oldest message in transit, where the sender counts at most one more than was delivered.

pub new_number : (link : LinkState) (ms : List Message) (high : ℕ) → is_newer link.newest ms ≡ true → Ascends link.newest ms high → high ≤ link.newest + 1 → (link_delivered link ms).newest ≡ link.newest + 1
new_number link [] high new up le = absurd (cc)
new_number link (m ∷ later) high new up le = let a = ltb-true link.newest m.number new in let b = ascends-ends m.number later high up.1 in omega (arith, a, b, le)

pub old_number : (link : LinkState) (ms : List Message) (high : ℕ) → is_newer link.newest ms ≡ false → Ascends link.newest ms high → (link_delivered link ms).newest ≡ link.newest
old_number link [] high old up = refl
old_number link (m ∷ later) high old up = let a = ltb-false link.newest m.number old in let b = up.0 in omega (arith, a, b)

pub got_new : (b unread : Bool) (old new : ℕ → List (List Value)) (ch : ℕ) (payload : List Value) → b ≡ true → GetsBy b unread old new ch payload → Gets old new ch payload
got_new b unread old new ch payload is go = subst (λ b. GetsBy b unread old new ch payload) is go

pub got_copy : (b unread : Bool) (old new : ℕ → List (List Value)) (ch : ℕ) (payload : List Value) → b ≡ false → GetsBy b unread old new ch payload → GetsBy false unread old new ch payload
got_copy b unread old new ch payload is go = subst (λ b. GetsBy b unread old new ch payload) is go

module _ {C M : Type 0} (ctl : Controls C) (mch : Machines M) (net : LossyBenchState C M) (ls next : LossyLists) (s : StandsLossy ctl mch net ls) (e : LossyEvent) (passes : PassesLossy net ls e)
    (events : next.events ≡ ls.events ++ e ∷ []) where
  next_is : lossy_state_of net next ≡ lossy_after net.shape net.timing net.rows (lossy_state_of net ls) e
  next_is = state_is ctl mch net ls s e passes next events

  -- where nothing changed that nodes and channels count they stand as before, if they do with the inboxes and the payloads that they have now
  module _ (inputs : next.inputs ≡ ls.inputs) (ibs : List InboxState) (bench : StandsAt ctl mch (record (bench_of_lossy net) { inboxes = ibs }) (plain_of (lossy_state_of net ls)) ls.inputs next.got)
      (posted : (c k : ℕ) → c < chan_count net.shape → carries_data net.shape c ≡ true → sent_count ((lossy_state_of net ls).node (from_of net.shape c)) ≡ suc k →
      HasOwnValues net.layout net.shape ls.inputs next.got (from_of net.shape c) (to_of net.shape c) k (slice_index_or net.posted c []))
      (nodes : (i : ℕ) → (lossy_after net.shape net.timing net.rows (lossy_state_of net ls) e).node i ≡ (lossy_state_of net ls).node i)
      (newest : (c : ℕ) → ((lossy_after net.shape net.timing net.rows (lossy_state_of net ls) e).link c).newest ≡ ((lossy_state_of net ls).link c).newest)
      (w : LossyTimes) (limit : w.limit ≡ net.watch.limit) (times : HasLossyTimes w net.shape net.timing net.watch.limit (lossy_after net.shape net.timing net.rows (lossy_state_of net ls) e)) where
    same_node : (i : ℕ) → (lossy_state_of net next).node i ≡ (lossy_state_of net ls).node i
    same_node i = ap (λ (z : LossyState). z.node i) next_is ∙ nodes i

    stays_on : StaysOn (plain_of (lossy_state_of net ls)) (plain_of (lossy_state_of net next))
    stays_on = record { nodes = same_node; delivered = λ c. ap (λ (z : LossyState). (z.link c).newest) next_is ∙ newest c }

    pub stays_stands : StandsLossy ctl mch (record net { inboxes = ibs; watch = w }) next
    stays_stands = record {
      timely = timely_next ctl mch net ls s e passes next events;
      clean = subst (λ k. Rattle.lt_lossy.specs.Schedule.IsLossyOffenceFree net.shape net.timing k net.rows next.events) (sym limit) (clean_next ctl mch net ls s e passes next events);
      times = subst (λ k. HasLossyTimes w net.shape net.timing k (lossy_state_of net next)) (sym limit) (subst (λ z. HasLossyTimes w net.shape net.timing net.watch.limit z) (sym next_is) times);
      bench = subst (λ rs. StandsAt ctl mch (record (bench_of_lossy net) { inboxes = ibs }) (plain_of (lossy_state_of net next)) rs next.got) (sym inputs)
          (stays_at ctl mch (record (bench_of_lossy net) { inboxes = ibs }) (plain_of (lossy_state_of net ls)) (plain_of (lossy_state_of net next)) ls.inputs next.got bench stays_on);
      sent = λ i lt. s.sent i lt ∙ ap sent_count (sym (same_node i));
      posted = λ c k lt carries is. subst (λ rs. HasOwnValues net.layout net.shape rs next.got (from_of net.shape c) (to_of net.shape c) k (slice_index_or net.posted c [])) (sym inputs)
          (posted c k lt carries (ap sent_count (sym (same_node (from_of net.shape c))) ∙ is));
    }

  -- and so they do where the payloads did not change either
  pub still_stands : next.inputs ≡ ls.inputs → next.got ≡ ls.got → ((i : ℕ) → (lossy_after net.shape net.timing net.rows (lossy_state_of net ls) e).node i ≡ (lossy_state_of net ls).node i) →
      ((c : ℕ) → ((lossy_after net.shape net.timing net.rows (lossy_state_of net ls) e).link c).newest ≡ ((lossy_state_of net ls).link c).newest) → (w : LossyTimes) → w.limit ≡ net.watch.limit →
      HasLossyTimes w net.shape net.timing net.watch.limit (lossy_after net.shape net.timing net.rows (lossy_state_of net ls) e) → StandsLossy ctl mch (record net { watch = w }) next
  still_stands inputs got = stays_stands inputs net.inboxes (subst (λ g. StandsAt ctl mch (bench_of_lossy net) (plain_of (lossy_state_of net ls)) ls.inputs g) (sym got) s.bench)
      (λ c k lt carries is. subst (λ g. HasOwnValues net.layout net.shape ls.inputs g (from_of net.shape c) (to_of net.shape c) k (slice_index_or net.posted c [])) (sym got) (s.posted c k lt carries is))

module _ {C M : Type 0} (ctl : Controls C) (mch : Machines M) (net : LossyBenchState C M) (ls next : LossyLists) (s : StandsLossy ctl mch net ls) (sized : HasLossySizes net)
    (row : Option (List Value)) (payload : List Value) where
  -- an end
  pub ended : (at : ℕ) → PassesLossy net ls (Plain (End at)) → LossyGoesOn net ls next (Plain (End at)) row payload → StandsLossy ctl mch (record net { watch = with_end net.watch at }) next
  ended at passes goes =
      still_stands ctl mch net ls next s (Plain (End at)) passes goes.events (λ i n. goes.inputs n i) (λ i c. goes.got c i) (λ i. node-end net.shape net.timing net.rows (lossy_state_of net ls) at i)
      (λ c. ap (λ (l : LinkState). l.newest) (link-end net.shape net.timing net.rows (lossy_state_of net ls) at c)) (with_end net.watch at) refl
      ((law-times net.watch net.shape net.timing net.watch.limit net.rows (lossy_state_of net ls) s.times).ending at)

  module _ (ch at : ℕ) (here : ch < chan_count net.shape) where
    -- a loss
    pub lost : PassesLossy net ls (Lose ch at) → LossyGoesOn net ls next (Lose ch at) row payload → StandsLossy ctl mch (record net { watch = with_losses (without_oldest net.watch ch at) ch (losses_at net.watch ch + 1) }) next
    lost passes goes =
        let st = lossy_state_of net ls in
        still_stands ctl mch net ls next s (Lose ch at) passes goes.events (λ i n. goes.inputs n i) (λ i c. goes.got c i) (λ i. node-lose net.shape net.timing net.rows (lossy_state_of net ls) ch at i)
        (λ c. link-lose net.shape net.timing net.rows (lossy_state_of net ls) ch at (λ l. l.newest ≡ ((lossy_state_of net ls).link c).newest) c
        (λ is. newest-lost ((lossy_state_of net ls).link ch) ((lossy_state_of net ls).link ch).transit ∙ ap (λ i. ((lossy_state_of net ls).link i).newest) (sym is)) (λ ne. refl))
        (with_losses (without_oldest net.watch ch at) ch (losses_at net.watch ch + 1)) refl
        ((law-times net.watch net.shape net.timing net.watch.limit net.rows st s.times).loss ch at (omega (arith, here, sized.queues)) passes.clear)

    abbrev taken : LossyTimes
    taken = with_losses (without_oldest net.watch ch at) ch 0

    module _ (passes : PassesLossy net ls (Plain (Del ch at))) (goes : LossyGoesOn net ls next (Plain (Del ch at)) row payload) where
      pub ascends : Ascends ((lossy_state_of net ls).link ch).newest ((lossy_state_of net ls).link ch).transit (number_on net.shape ((lossy_state_of net ls).node (from_of net.shape ch)) ch)
      ascends = (balanced ctl mch net ls s).ordered.ascends ch here

      -- a message came that is new
      module _ (fixed : IsFixedLossy net.layout net.shape net.timing) (new : brings_new (lossy_state_of net ls) ch ≡ true) (b : InboxState) (at_inbox : slice_get net.inboxes ch ≡ Some b) (bit : Bool) (bit_is : bit ≡ not b.bit) where
        abbrev arrived_net : LossyBenchState C M
        arrived_net = record net { inboxes = set net.inboxes ch (record b { payload = payload; bit = bit }); watch = taken }

        arrived_is : lossy_state_of net next ≡ lossy_after net.shape net.timing net.rows (lossy_state_of net ls) (Plain (Del ch at))
        arrived_is = state_is ctl mch net ls s (Plain (Del ch at)) passes next goes.events

        node_still : (i : ℕ) → (lossy_state_of net next).node i ≡ (lossy_state_of net ls).node i
        node_still i = ap (λ (z : LossyState). z.node i) arrived_is ∙ node-del net.shape net.timing net.rows (lossy_state_of net ls) ch at i

        newer : ((lossy_after net.shape net.timing net.rows (lossy_state_of net ls) (Plain (Del ch at))).link ch).newest ≡ ((lossy_state_of net ls).link ch).newest + 1
        newer = link-del net.shape net.timing net.rows (lossy_state_of net ls) ch at (λ l. l.newest ≡ ((lossy_state_of net ls).link ch).newest + 1) ch
            (λ is. new_number ((lossy_state_of net ls).link ch) ((lossy_state_of net ls).link ch).transit _ new ascends ((one_now ctl mch net ls s fixed).next ch here)) (λ ne. absurd (ne refl))

        delivers_on : DeliversOn ch (plain_of (lossy_state_of net ls)) (plain_of (lossy_state_of net next))
        delivers_on = record {
          nodes = node_still;
          here = ap (λ (z : LossyState). (z.link ch).newest) arrived_is ∙ newer;
          elsewhere = λ c ne. ap (λ (z : LossyState). (z.link c).newest) arrived_is
              ∙ link-del net.shape net.timing net.rows (lossy_state_of net ls) ch at (λ l. l.newest ≡ ((lossy_state_of net ls).link c).newest) c (λ is. absurd (ne is)) (λ other. refl);
        }

        gets : Gets ls.got next.got ch payload
        gets = got_new _ _ ls.got next.got ch payload new goes.got

        inputs_are : next.inputs ≡ ls.inputs
        inputs_are = λ i n. goes.inputs n i

        enough : HasEnough net.layout net.shape ls.inputs ls.got
        enough = enough_ahead ctl mch (bench_of_lossy net) fixed.whole fixed.laid fixed.channels (plain_of (lossy_state_of net ls)) ls.inputs ls.got s.bench (ahead ctl mch net ls s fixed)

        -- what was an own value before is one over the longer lists
        pub own_still : (i j k : ℕ) (p : List Value) → i < node_count net.shape → k < length (ls.inputs i) → HasOwnValues net.layout net.shape ls.inputs ls.got i j k p → HasOwnValues net.layout net.shape next.inputs next.got i j k p
        own_still i j k p ib h own = subst (λ rs. HasOwnValues net.layout net.shape rs next.got i j k p) (sym inputs_are)
            (own_extended fixed.whole net.layout net.shape fixed.laid ls.inputs ls.got next.got enough (grows_extends net.shape ls.got next.got ch payload gets) i j k p (omega (arith, ib, fixed.channels.nodes)) h own)

        pub arrived : StandsLossy ctl mch arrived_net next
        arrived = record {
          timely = timely_next ctl mch net ls s (Plain (Del ch at)) passes next goes.events;
          clean = clean_next ctl mch net ls s (Plain (Del ch at)) passes next goes.events;
          times = subst (λ z. HasLossyTimes taken net.shape net.timing net.watch.limit z) (sym arrived_is)
              ((law-times net.watch net.shape net.timing net.watch.limit net.rows (lossy_state_of net ls) s.times).delivery ch at (omega (arith, here, sized.queues)) passes.clear);
          bench = subst (λ rs. StandsAt ctl mch (bench_of_lossy arrived_net) (plain_of (lossy_state_of net next)) rs next.got) (sym inputs_are)
              (delivered_at ctl mch (bench_of_lossy net) (plain_of (lossy_state_of net ls)) (plain_of (lossy_state_of net next)) ls.inputs ls.got s.bench ch delivers_on fixed.whole fixed.laid fixed.channels (ahead ctl mch net ls s fixed)
              next.got payload gets b at_inbox here bit bit_is sized.bench.machines);
          sent = λ i lt. s.sent i lt ∙ ap sent_count (sym (node_still i));
          posted = λ c k lt carries is.
              let before = ap sent_count (sym (node_still (from_of net.shape c))) ∙ is in
              let there : from_of net.shape c < node_count net.shape = let e = fixed.channels.ends c lt in omega (arith, e, fixed.channels.nodes) in
              let rows = s.bench.rows (from_of net.shape c) there in
              own_still (from_of net.shape c) (to_of net.shape c) k (slice_index_or net.posted c []) there (omega (arith, before, rows)) (s.posted c k lt carries before);
        }
