-- A net after a copy of the newest message of a channel came again.
use Rattle.std.proofs.Common.{◌≡◌, ◌≢◌, ℕ, suc, ◌<◌, ◌≤◌, Bool, true, false, List, [], length, set, Option, Some, refl, sym, ap, ◌∙◌, subst, arith, nat_le}
use Rattle.std.specs.Prelude.{slice_index_or, ◌&&◌, ◌||◌, if◌then◌else◌}
use Rattle.std.specs.List.{slice_get}
use Rattle.lt_base.specs.declared.value.Value.{Value}
use Rattle.lt_arch.specs.declared.event.Event.TheVariants.{Del}
use Rattle.lt_arch.specs.Readers.{node_count, chan_count, from_of, to_of, carries_data}
use Rattle.lt_link.specs.Bits.{bit_of, differ}
use Rattle.lt_link.specs.Inbox.{InboxState, has_unread}
use Rattle.lt_lossy.specs.declared.event.LossyEvent.TheVariants.{Plain}
use Rattle.lt_lossy.specs.State.{LossyState, plain_of, sent_count}
use Rattle.lt_lossy.specs.Times.{without_oldest, with_losses}
use Rattle.lt_lossy.proofs.Changes.{node-del, link-del}
use Rattle.lt_lossy.proofs.Noted.{law-times}
use Rattle.lt_place.specs.Layout.{crossing_of}
use Rattle.lt_net_node.specs.Payloads.{payloads_between, message_of}
use Rattle.lt_net_bench.specs.Standing.{HasOwnValues, StandsAt}
use Rattle.lt_net_bench.proofs.Bits.{differ_same, data_fresh, leb-le}
use Rattle.lt_net_bench.proofs.Entries.{and_parts}
use Rattle.lt_net_bench.proofs.OwnValues.{SeesSame, own_seen}
use Rattle.lt_net_bench.proofs.Replaced.{replaced_length, replaced_last, sees_replaced, replaced_at}
use Rattle.lt_net_lossy.specs.Net.{LossyBenchState, LossyLists, bench_of_lossy, lossy_state_of}
use Rattle.lt_net_lossy.specs.Stands.{StandsLossy}
use Rattle.lt_net_lossy.specs.Event.{PassesLossy, LossyGoesOn, GetsBy, is_unread, brings_new}
use Rattle.lt_net_lossy.specs.Kept.{IsFixedLossy, HasLossySizes}
use Rattle.lt_net_lossy.specs.Receives.{with_latest}
use Rattle.lt_net_lossy.proofs.Arrived.{old_number, ascends, stays_stands}
use Rattle.lt_net_lossy.proofs.Reached.{one_now}
use Rattle.lt_machine.specs.declared.machine.Machine.{Ghosts as Machines}
use Rattle.lt_arch.specs.declared.controller.Controller.{Ghosts as Controls}

-- an inbox with a copy of the message that it has: an unread one takes the copy's payload
abbrev with_copy : InboxState → List Value → InboxState
with_copy b payload = record b { payload = if has_unread b then payload else b.payload }

pub copy_latest : (b : InboxState) (payload : List Value) (bit : Bool) → bit ≡ b.bit → with_latest b payload bit ≡ with_copy b payload
copy_latest b payload bit is =
    (λ i. if differ (is i) b.bit || has_unread b then record b { payload = payload; bit = is i } else b)
    ∙ ap (λ x. if x || has_unread b then record b { payload = payload } else b) (differ_same b.bit)
    ∙ by_fresh (has_unread b)
  where
    by_fresh : (x : Bool) → (if x then record b { payload = payload } else b) ≡ record b { payload = if x then payload else b.payload }
    by_fresh true = refl
    by_fresh false = refl

module _ {C M : Type 0} (ctl : Controls C) (mch : Machines M) (net : LossyBenchState C M) (ls : LossyLists) (s : StandsLossy ctl mch net ls) (fixed : IsFixedLossy net.layout net.shape net.timing)
    (ch : ℕ) (here : ch < chan_count net.shape) where
  receiver : to_of net.shape ch < node_count net.shape
  receiver =
      let partner = fixed.partners ch here in
      let ends = fixed.channels.ends partner.0 partner.1 in
      let to = partner.2.from_is in
      omega (arith, ends, to, fixed.channels.nodes)

  -- the receiver of an unread message has run on the earlier ones alone
  pub unread_most : is_unread net.shape (lossy_state_of net ls) ch ≡ true → length (ls.inputs (to_of net.shape ch)) ≤ length (ls.got ch)
  unread_most unread =
      let st = lossy_state_of net ls in
      let fresh = leb-le (st.node (to_of net.shape ch)).executed (st.link ch).newest (and_parts (carries_data net.shape ch) (nat_le (st.node (to_of net.shape ch)).executed (st.link ch).newest) unread).1 in
      let rows = s.bench.rows (to_of net.shape ch) receiver in
      let count = s.bench.messages ch here in
      omega (arith, fresh, rows, count)

module _ {C M : Type 0} (ctl : Controls C) (mch : Machines M) (net : LossyBenchState C M) (ls next : LossyLists) (s : StandsLossy ctl mch net ls) (sized : HasLossySizes net)
    (fixed : IsFixedLossy net.layout net.shape net.timing) (ch : ℕ) (here : ch < chan_count net.shape) (b : InboxState) (at_inbox : slice_get net.inboxes ch ≡ Some b) (payload : List Value) where
  abbrev st : LossyState
  st = lossy_state_of net ls

  -- the inbox of a data channel is fresh where its message is unread
  fresh_is : carries_data net.shape ch ≡ true → has_unread b ≡ is_unread net.shape st ch
  fresh_is carries =
      let one = one_now ctl mch net ls s fixed in
      (λ i. differ (s.bench.bits ch b at_inbox i) (s.bench.data_reads ch b at_inbox carries i))
      ∙ ap (λ x. differ (bit_of x) (bit_of (suc (st.node (to_of net.shape ch)).executed))) (s.bench.messages ch here)
      ∙ data_fresh (st.node (to_of net.shape ch)).executed (st.link ch).newest (one.data_low ch here carries) (one.data_high ch here carries)
      ∙ ap (λ x. x && nat_le (st.node (to_of net.shape ch)).executed (st.link ch).newest) (sym carries)

  -- what nodes and channels need of the payloads that a copy leaves
  pub record Copied (unread : Bool) : Type 0 where
    pub counts : (c : ℕ) → length (next.got c) ≡ length (ls.got c)
    pub elsewhere : (c : ℕ) → c ≢ ch → next.got c ≡ ls.got c
    pub sees : (n : ℕ) → SeesSame net.layout (payloads_between net.shape ls.got) (payloads_between net.shape next.got) n (length (ls.inputs n))
    pub there : carries_data net.shape ch ≡ true → (if unread then payload else b.payload) ≡ message_of net.layout net.shape next.got ch (length (next.got ch))

  pub copied_lists : (unread : Bool) (k : ℕ) → is_unread net.shape st ch ≡ unread → length (ls.got ch) ≡ suc k → GetsBy false unread ls.got next.got ch payload → Copied unread
  copied_lists true k is count replaces = record {
    counts = replaced_length ls.got next.got ch payload replaces;
    elsewhere = replaces.elsewhere;
    sees = sees_replaced ls.got next.got ch payload replaces net.layout net.shape fixed.channels ls.inputs (unread_most ctl mch net ls s fixed ch here is);
    there = λ carries. sym (ap (message_of net.layout net.shape next.got ch) (replaced_length ls.got next.got ch payload replaces ch ∙ count) ∙ replaced_last ls.got next.got ch payload replaces k count);
  }
  copied_lists false k is count same =
      let got : next.got ≡ ls.got = λ i c. same c i in
      record {
        counts = λ c. ap length (same c);
        elsewhere = λ c ne. same c;
        sees = λ n. record { same = λ c k cb to h. ap (λ g. slice_index_or (payloads_between net.shape g (crossing_of net.layout c).from (crossing_of net.layout c).to) k []) got };
        there = λ carries. s.bench.payloads ch b at_inbox carries ∙ sym (ap (λ g. message_of net.layout net.shape g ch (length (g ch))) got);
      }

  module _ (is_copy : Copied (is_unread net.shape st ch)) where
    pub copy_own : (i j k : ℕ) (p : List Value) → i < node_count net.shape → k < length (ls.inputs i) → HasOwnValues net.layout net.shape ls.inputs ls.got i j k p → HasOwnValues net.layout net.shape ls.inputs next.got i j k p
    copy_own i j k p ib h own = own_seen fixed.whole net.layout net.shape fixed.laid ls.inputs ls.got next.got is_copy.sees i j k p (omega (arith, ib, fixed.channels.nodes)) h own

    copy_bench : StandsAt ctl mch (record (bench_of_lossy net) { inboxes = set net.inboxes ch (with_copy b payload) }) (plain_of st) ls.inputs next.got
    copy_bench =
        replaced_at ctl mch (bench_of_lossy net) (plain_of st) ls.inputs ls.got s.bench fixed.whole fixed.laid fixed.channels sized.bench.machines next.got is_copy.sees is_copy.counts ch is_copy.elsewhere b at_inbox
        (if has_unread b then payload else b.payload) (λ carries. ap (λ x. if x then payload else b.payload) (fresh_is carries) ∙ is_copy.there carries)

    pub copied : (row : Option (List Value)) (at : ℕ) → PassesLossy net ls (Plain (Del ch at)) → LossyGoesOn net ls next (Plain (Del ch at)) row payload → brings_new st ch ≡ false → (bit : Bool) → bit ≡ b.bit →
        StandsLossy ctl mch (record net { inboxes = set net.inboxes ch (with_latest b payload bit); watch = with_losses (without_oldest net.watch ch at) ch 0 }) next
    copied row at passes goes old bit bit_is =
        subst (λ x. StandsLossy ctl mch (record net { inboxes = set net.inboxes ch x; watch = with_losses (without_oldest net.watch ch at) ch 0 }) next) (sym (copy_latest b payload bit bit_is))
        (stays_stands ctl mch net ls next s (Plain (Del ch at)) passes goes.events (λ i n. goes.inputs n i) (set net.inboxes ch (with_copy b payload)) copy_bench posted
        (λ i. node-del net.shape net.timing net.rows st ch at i)
        (λ c. link-del net.shape net.timing net.rows st ch at (λ l. l.newest ≡ (st.link c).newest) c
        (λ is. old_number (st.link ch) (st.link ch).transit _ old (ascends ctl mch net ls next s sized row payload ch at here passes goes) ∙ ap (λ i. (st.link i).newest) (sym is)) (λ ne. refl))
        (with_losses (without_oldest net.watch ch at) ch 0) refl ((law-times net.watch net.shape net.timing net.watch.limit net.rows st s.times).delivery ch at (omega (arith, here, sized.queues)) passes.clear))
      where
        posted : (c k : ℕ) → c < chan_count net.shape → carries_data net.shape c ≡ true → sent_count (st.node (from_of net.shape c)) ≡ suc k →
            HasOwnValues net.layout net.shape ls.inputs next.got (from_of net.shape c) (to_of net.shape c) k (slice_index_or net.posted c [])
        posted c k lt carries is =
            let ends = fixed.channels.ends c lt in
            let there : from_of net.shape c < node_count net.shape = omega (arith, ends, fixed.channels.nodes) in
            let rows = s.bench.rows (from_of net.shape c) there in
            copy_own (from_of net.shape c) (to_of net.shape c) k (slice_index_or net.posted c []) there (omega (arith, is, rows)) (s.posted c k lt carries is)
