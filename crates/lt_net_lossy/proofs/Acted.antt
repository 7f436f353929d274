-- A net after an activation.
use Rattle.std.proofs.Common.{◌≡◌, ℕ, suc, ◌+◌, ◌<◌, ◌≤◌, true, false, List, [], ◌∷◌, ◌++◌, length, set, Option, Some, None, refl, sym, ap, ◌∙◌, subst, cond, arith}
use Rattle.std.specs.Prelude.{slice_index_or, ◌==◌, ◌&&◌}
use Rattle.lt_base.specs.declared.value.Value.{Value}
use Rattle.lt_arch.specs.declared.event.Deed.{Deed}
use Rattle.lt_arch.specs.declared.event.Deed.TheVariants.{Nothing, Execute, Send}
use Rattle.lt_arch.specs.declared.event.Event.TheVariants.{Act}
use Rattle.lt_arch.specs.State.{Phase, sent_of}
use Rattle.lt_arch.specs.Readers.{node_count, chan_count, from_of, to_of, carries_data}
use Rattle.lt_arch.specs.Deeds.{deed_at, phase_at}
use Rattle.lt_arch.specs.Step.{is_execute, woken}
use Rattle.lt_link.specs.Inbox.{InboxState}
use Rattle.lt_lossy.specs.declared.event.LossyEvent.TheVariants.{Plain}
use Rattle.lt_lossy.specs.State.{LossyState, plain_of, sent_count}
use Rattle.lt_lossy.specs.Step.{lossy_after}
use Rattle.lt_lossy.specs.Times.{LossyTimes, HasLossyTimes, with_last}
use Rattle.lt_lossy.proofs.Noted.{law-times}
use Rattle.lt_net_node.specs.Acts.{takes_on, MarkedOn}
use Rattle.lt_net_bench.specs.Changes.{ActsOn, NoListChanged, GrowsByRow}
use Rattle.lt_net_bench.specs.Executes.{Executes}
use Rattle.lt_net_bench.specs.Given.{FitsPart}
use Rattle.lt_net_bench.specs.Bench.{BenchState}
use Rattle.lt_net_bench.specs.Room.{HasSpace}
use Rattle.lt_net_bench.specs.Standing.{HasOwnValues, StandsAt}
use Rattle.lt_net_bench.proofs.Activated.{idle_at, plus_none}
use Rattle.lt_net_bench.proofs.InstantRun.{instant_at}
use Rattle.lt_net_bench.proofs.OwnValues.{own_taken}
use Rattle.lt_net_lossy.specs.Changes.{Posts, posts_on, sent_after, NotesAct, IsWoken}
use Rattle.lt_net_lossy.specs.Net.{LossyBenchState, LossyLists, bench_of_lossy, lossy_state_of}
use Rattle.lt_net_lossy.specs.Stands.{StandsLossy}
use Rattle.lt_net_lossy.specs.Event.{PassesLossy, LossyGoesOn, RowsGo}
use Rattle.lt_net_lossy.specs.Kept.{IsFixedLossy, HasLossySizes}
use Rattle.lt_net_lossy.proofs.Reached.{acts_on, balanced, ahead, ahead_next, state_is, clean_next, timely_next}
use Rattle.lt_net_lossy.proofs.SentAgain.{sent_next, posted_next}
use Rattle.lt_machine.specs.declared.machine.Machine.{Ghosts as Machines}
use Rattle.lt_arch.specs.declared.controller.Controller.{Ghosts as Controls}

pub idle_rows : (d : Deed) (n : ℕ) (row : Option (List Value)) (old new : ℕ → List (List Value)) → is_execute d ≡ false → RowsGo n d row old new → NoListChanged old new
idle_rows Nothing n row old new h go = go
idle_rows Send n row old new h go = go
idle_rows Execute n row old new h go = absurd (cc)

pub took_row : (d : Deed) (n : ℕ) (row : List Value) (old new : ℕ → List (List Value)) → d ≡ Execute → RowsGo n d (Some row) old new → GrowsByRow old new n row
took_row Nothing n row old new h go = absurd (cc)
took_row Send n row old new h go = absurd (cc)
took_row Execute n row old new h go = go

module _ {C M : Type 0} (ctl : Controls C) (mch : Machines M) (net : LossyBenchState C M) (fixed : IsFixedLossy net.layout net.shape net.timing) (sized : HasLossySizes net)
    (ls next : LossyLists) (s : StandsLossy ctl mch net ls) (n at : ℕ) (passes : PassesLossy net ls (Plain (Act n at))) (nb : n < node_count net.shape) (row : Option (List Value)) (payload : List Value)
    (goes : LossyGoesOn net ls next (Plain (Act n at)) row payload) where
  abbrev deed : Deed
  deed = deed_at net.shape net.rows (plain_of (lossy_state_of net ls)) n

  abbrev woke : Phase
  woke = phase_at net.shape net.timing net.rows (plain_of (lossy_state_of net ls)) n

  next_is : lossy_state_of net next ≡ lossy_after net.shape net.timing net.rows (lossy_state_of net ls) (Plain (Act n at))
  next_is = state_is ctl mch net ls s (Plain (Act n at)) passes next goes.events

  acts : ActsOn n deed woke (plain_of (lossy_state_of net ls)) (plain_of (lossy_state_of net next))
  acts = subst (λ z. ActsOn n deed woke (plain_of (lossy_state_of net ls)) (plain_of z)) (sym next_is) (acts_on net.shape net.timing net.watch.limit net.rows (lossy_state_of net ls) (balanced ctl mch net ls s) n at)

  got_is : next.got ≡ ls.got
  got_is = λ i c. goes.got c i

  -- the watch, with what was sent
  times_next : (queues : List (List ℕ)) → Rattle.lt_lossy.specs.Times.AreQueued (Rattle.lt_lossy.specs.Step.sends_number net.shape n (woken net.shape net.timing net.rows (plain_of (lossy_state_of net ls)) n at)) at net.watch.queues queues →
      HasLossyTimes (record (with_last net.watch n at) { queues = queues }) net.shape net.timing net.watch.limit (lossy_state_of net next)
  times_next queues are = subst (λ z. HasLossyTimes (record (with_last net.watch n at) { queues = queues }) net.shape net.timing net.watch.limit z) (sym next_is)
      ((law-times net.watch net.shape net.timing net.watch.limit net.rows (lossy_state_of net ls) s.times).activation n at queues (omega (arith, nb, sized.lasts)) are)

  sent_acted : (i : ℕ) → i < node_count net.shape → slice_index_or (sent_after net.sent n deed) i 0 ≡ sent_count ((lossy_state_of net next).node i)
  sent_acted i lt = sent_next ctl mch net ls s sized n at passes nb i lt ∙ ap (λ (z : LossyState). sent_count (z.node i)) (sym next_is)

  module _ (w : LossyTimes) (notes : NotesAct net.shape n at (woken net.shape net.timing net.rows (plain_of (lossy_state_of net ls)) n at) net.watch w)
      (cs : List C) (controls : IsWoken ctl n woke net.controllers cs) where
    -- a deed other than Execute
    module _ (idle : is_execute deed ≡ false) (ibs : List InboxState) (marks : MarkedOn (takes_on net.shape n deed) net.inboxes ibs) (posted : List (List Value)) (posts : Posts (posts_on net.shape n deed) net.buffers net.posted posted) where
      inputs_are : next.inputs ≡ ls.inputs
      inputs_are = λ i m. idle_rows deed n row ls.inputs next.inputs idle goes.inputs m i

      abbrev idle_net : LossyTimes → LossyBenchState C M
      idle_net w = record net { watch = w; controllers = cs; inboxes = ibs; sent = sent_after net.sent n deed; posted = posted }

      posted_idle : (c k : ℕ) → c < chan_count net.shape → carries_data net.shape c ≡ true → sent_count ((lossy_state_of net next).node (from_of net.shape c)) ≡ suc k →
          HasOwnValues net.layout net.shape ls.inputs ls.got (from_of net.shape c) (to_of net.shape c) k (slice_index_or posted c [])
      posted_idle c k lt carries is = posted_next ctl mch net ls s sized n at passes nb idle posted posts c k lt carries (ap (λ (z : LossyState). sent_count (z.node (from_of net.shape c))) (sym next_is) ∙ is)

      pub idle_stands : StandsLossy ctl mch (idle_net w) next
      idle_stands = subst (λ w. StandsLossy ctl mch (idle_net w) next) (sym notes.is) (record {
        timely = timely_next ctl mch net ls s (Plain (Act n at)) passes next goes.events;
        clean = clean_next ctl mch net ls s (Plain (Act n at)) passes next goes.events;
        times = times_next notes.queues notes.are;
        bench = subst (λ rs. StandsAt ctl mch (record (bench_of_lossy net) { controllers = cs; inboxes = ibs }) (plain_of (lossy_state_of net next)) rs next.got) (sym inputs_are)
            (subst (λ g. StandsAt ctl mch (record (bench_of_lossy net) { controllers = cs; inboxes = ibs }) (plain_of (lossy_state_of net next)) ls.inputs g) (sym got_is)
            (idle_at ctl mch (bench_of_lossy net) n deed woke (plain_of (lossy_state_of net ls)) (plain_of (lossy_state_of net next)) ls.inputs ls.got s.bench acts
            (ahead ctl mch net ls s fixed) (ahead_next ctl mch net ls s (Plain (Act n at)) passes next goes.events fixed)
            ibs marks sized.bench.inboxes idle cs controls.control controls.is controls.within controls.woke));
        sent = sent_acted;
        posted = λ c k lt carries is. subst (λ rs. HasOwnValues net.layout net.shape rs next.got (from_of net.shape c) (to_of net.shape c) k (slice_index_or posted c [])) (sym inputs_are)
            (subst (λ g. HasOwnValues net.layout net.shape ls.inputs g (from_of net.shape c) (to_of net.shape c) k (slice_index_or posted c [])) (sym got_is) (posted_idle c k lt carries is));
      })

    -- an instant
    module _ (executes : deed ≡ Execute) (input : List Value) (is_row : row ≡ Some input) (fits : FitsPart net.layout n input) (room : HasSpace (bench_of_lossy net)) (mid : BenchState C M)
        (ex : Executes mch (record (bench_of_lossy net) { controllers = cs }) mid n input) where
      takes : GrowsByRow ls.inputs next.inputs n input
      takes = took_row deed n input ls.inputs next.inputs executes (subst (λ r. RowsGo n deed r ls.inputs next.inputs) is_row goes.inputs)

      acts_execute : ActsOn n Execute woke (plain_of (lossy_state_of net ls)) (plain_of (lossy_state_of net next))
      acts_execute = subst (λ d. ActsOn n d woke (plain_of (lossy_state_of net ls)) (plain_of (lossy_state_of net next))) executes acts

      abbrev instant_net : LossyTimes → LossyBenchState C M
      instant_net w = record net { watch = w; controllers = cs; machines = set net.machines n ex.after; executed = mid.executed; inboxes = mid.inboxes; tracks = mid.tracks; buffers = mid.buffers }

      -- no instant more was sent
      same_sent : (i : ℕ) → sent_count ((lossy_state_of net next).node i) ≡ sent_count ((lossy_state_of net ls).node i)
      same_sent i = acts_execute.sent i ∙ ap (λ b. sent_of (plain_of (lossy_state_of net ls)) i + cond b 1 0) (neither (i == n)) ∙ plus_none _
        where
          neither : (b : Rattle.std.proofs.Common.Bool) → (b && false) ≡ false
          neither true = refl
          neither false = refl

      -- an instant that was sent was executed
      executed_first : (i k : ℕ) → i < node_count net.shape → sent_count ((lossy_state_of net ls).node i) ≡ suc k → k < length (ls.inputs i)
      executed_first i k lt is = let rows = s.bench.rows i lt in omega (arith, is, rows)

      posted_instant : (c k : ℕ) → c < chan_count net.shape → carries_data net.shape c ≡ true → sent_count ((lossy_state_of net next).node (from_of net.shape c)) ≡ suc k →
          HasOwnValues net.layout net.shape next.inputs ls.got (from_of net.shape c) (to_of net.shape c) k (slice_index_or net.posted c [])
      posted_instant c k lt carries is =
          let before = sym (same_sent (from_of net.shape c)) ∙ is in
          let there : from_of net.shape c < node_count net.shape = let e = fixed.channels.ends c lt in omega (arith, e, fixed.channels.nodes) in
          own_taken net.layout net.shape ls.inputs next.inputs ls.got n input takes (from_of net.shape c) (to_of net.shape c) k (slice_index_or net.posted c []) (executed_first (from_of net.shape c) k there before) (s.posted c k lt carries before)

      pub instant_stands : StandsLossy ctl mch (instant_net w) next
      instant_stands = subst (λ w. StandsLossy ctl mch (instant_net w) next) (sym notes.is) (record {
        timely = timely_next ctl mch net ls s (Plain (Act n at)) passes next goes.events;
        clean = clean_next ctl mch net ls s (Plain (Act n at)) passes next goes.events;
        times = times_next notes.queues notes.are;
        bench = subst (λ g. StandsAt ctl mch (bench_of_lossy (instant_net w)) (plain_of (lossy_state_of net next)) next.inputs g) (sym got_is)
            (instant_at ctl mch (bench_of_lossy net) n fixed.whole fixed.laid fixed.channels room.routes room.exits sized.bench room.tracks woke (plain_of (lossy_state_of net ls)) (plain_of (lossy_state_of net next)) ls.inputs next.inputs ls.got s.bench acts_execute
            (ahead ctl mch net ls s fixed) (ahead_next ctl mch net ls s (Plain (Act n at)) passes next goes.events fixed) nb input takes fits cs mid ex controls.control controls.is controls.within controls.woke);
        sent = λ i lt. s.sent i lt ∙ sym (same_sent i);
        posted = λ c k lt carries is. subst (λ g. HasOwnValues net.layout net.shape next.inputs g (from_of net.shape c) (to_of net.shape c) k (slice_index_or net.posted c [])) (sym got_is) (posted_instant c k lt carries is);
      })
