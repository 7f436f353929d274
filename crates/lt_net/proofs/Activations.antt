-- What an activation does to the state of the architecture, and a net after one that does not execute.
use Rattle.std.proofs.Common.{◌≡◌, ◌≢◌, ℕ, ◌+◌, ◌<◌, Bool, true, false, List, [], ◌∷◌, ◌++◌, length, set, Option, Some, refl, sym, ap, ◌∙◌, subst, cond}
use Rattle.std.specs.Prelude.{◌==◌, ◌&&◌}
use Rattle.lt_arch.specs.declared.shape.Shape.{Shape}
use Rattle.lt_arch.specs.declared.event.Event.TheVariants.{Act}
use Rattle.lt_arch.specs.State.{State, NodeState, start, executed_of, sent_of}
use Rattle.lt_arch.specs.Readers.{chan_count}
use Rattle.lt_arch.specs.Deeds.{deed_at, phase_at}
use Rattle.lt_arch.specs.Step.{after, is_execute, is_send, sends_on, woken}
use Rattle.lt_arch.specs.Times.{Times, HasTimes, SentOn}
use Rattle.lt_arch.specs.Schedule.{AreUpTo, after_all, HasNoOffence, OnePlace, IsOnePlace}
use Rattle.lt_arch.specs.declared.limits.TheConstants.{GREATEST_TIME}
use Rattle.lt_arch.proofs.Changes.{executed-act, delivered-act, one_if, updated-here, updated-other}
use Rattle.lt_arch.proofs.Noted.{noted-act}
use Rattle.lt_link.specs.Inbox.{InboxState}
use Rattle.lt_net_node.specs.Acts.{takes_on, MarkedOn}
use Rattle.lt_net_bench.specs.Changes.{IsAhead, ActsOn}
use Rattle.lt_net_bench.specs.Standing.{StandsAt}
use Rattle.lt_net_bench.proofs.Activated.{idle_at}
use Rattle.lt_net.specs.Net.{TimedBenchState, Lists, bench_of, reached_state}
use Rattle.lt_net.specs.Stands.{NetStands}
use Rattle.lt_net.proofs.EndStands.{Passes, timely-more, after_all-more, clean-more}
use Rattle.lt_net.proofs.Counts.{counted, sent-act}
use Rattle.lt_machine.specs.declared.machine.Machine.{Ghosts as Machines}
use Rattle.lt_arch.specs.declared.controller.Controller.{Ghosts as Controls}

one_is : (b : Bool) → one_if b ≡ cond b 1 0
one_is true = refl
one_is false = refl

-- no channel is more than one message ahead, or behind, where each has one place
pub ahead_of : (s : Shape) (st : State) → IsOnePlace s st → IsAhead s st
ahead_of s st one = record { data_low = one.data_low; data_high = one.data_high; ack_low = one.ack_low; ack_high = one.ack_high }

module _ {C M : Type 0} (ctl : Controls C) (mch : Machines M) (net : TimedBenchState C M) (n at : ℕ)
    (one_place : OnePlace net.shape net.timing net.rows) (ls next : Lists) (s : NetStands ctl mch net ls)
    (offence : Passes net.shape net.timing (reached_state net ls) (Act n at)) (events : next.events ≡ ls.events ++ Act n at ∷ []) where
  pub state_is : reached_state net next ≡ after net.shape net.timing net.rows (reached_state net ls) (Act n at)
  state_is = ap (after_all net.shape net.timing net.rows (start net.timing.protocol)) events ∙ after_all-more net.shape net.timing net.rows (start net.timing.protocol) ls.events (Act n at)

  pub clean_next : HasNoOffence net.shape net.timing net.rows (start net.timing.protocol) next.events
  clean_next = subst (λ es. HasNoOffence net.shape net.timing net.rows (start net.timing.protocol) es) (sym events) (clean-more net.shape net.timing net.rows (start net.timing.protocol) ls.events (Act n at) s.clean offence.1)

  pub timely_next : AreUpTo GREATEST_TIME next.events
  timely_next = subst (λ es. AreUpTo GREATEST_TIME es) (sym events) (timely-more GREATEST_TIME ls.events (Act n at) s.timely offence.0)

  pub one_next : IsOnePlace net.shape (after net.shape net.timing net.rows (reached_state net ls) (Act n at))
  one_next = subst (λ z. IsOnePlace net.shape z) state_is (one_place next.events timely_next clean_next)

  pub ahead : IsAhead net.shape (reached_state net ls)
  ahead = ahead_of net.shape (reached_state net ls) (one_place ls.events s.timely s.clean)

  pub ahead_next : IsAhead net.shape (reached_state net next)
  ahead_next = ahead_of net.shape (reached_state net next) (one_place next.events timely_next clean_next)

  phase-here : (after net.shape net.timing net.rows (reached_state net ls) (Act n at)).node n ≡ woken net.shape net.timing net.rows (reached_state net ls) n at
  unfolding after
  phase-here = updated-here ((reached_state net ls).node) n _ n refl

  phase-other : (i : ℕ) → i ≢ n → (after net.shape net.timing net.rows (reached_state net ls) (Act n at)).node i ≡ (reached_state net ls).node i
  unfolding after
  phase-other i ne = updated-other ((reached_state net ls).node) n _ i ne

  pub acts_on : ActsOn n (deed_at net.shape net.rows (reached_state net ls) n) (phase_at net.shape net.timing net.rows (reached_state net ls) n) (reached_state net ls) (reached_state net next)
  acts_on = record {
    executed = λ i. ap (λ (z : State). (z.node i).executed) state_is ∙ executed-act net.shape net.timing net.rows (reached_state net ls) n at i
        ∙ ap (λ k. executed_of (reached_state net ls) i + k) (one_is ((i == n) && is_execute (deed_at net.shape net.rows (reached_state net ls) n)));
    sent = λ i. ap (λ (z : State). sent_of z i) state_is ∙ sent-act net.shape net.timing net.rows (reached_state net ls) (counted net.shape net.timing net.rows ls.events s.clean) n at i
        ∙ ap (λ k. sent_of (reached_state net ls) i + k) (one_is ((i == n) && is_send (deed_at net.shape net.rows (reached_state net ls) n)));
    here = ap (λ (z : State). (z.node n).phase) state_is ∙ ap (λ (v : NodeState). v.phase) phase-here;
    elsewhere = λ i ne. ap (λ (z : State). (z.node i).phase) state_is ∙ ap (λ (v : NodeState). v.phase) (phase-other i ne);
    delivered = λ c. ap (λ (z : State). (z.chan c).delivered) state_is ∙ delivered-act net.shape net.timing net.rows (reached_state net ls) n at c;
  }

  pub times_are : n < length net.watch.lasts → (w : Times) (sends : List (Option ℕ)) → SentOn (sends_on net.shape net.timing n (deed_at net.shape net.rows (reached_state net ls) n)) at net.watch.sends sends →
      w ≡ record net.watch { lasts = set net.watch.lasts n (Some at); sends = sends; latest = Some at } → HasTimes w net.shape net.timing (reached_state net next)
  times_are b w sends on is =
      subst (λ z. HasTimes w net.shape net.timing z) (sym state_is)
      (subst (λ w. HasTimes w net.shape net.timing (after net.shape net.timing net.rows (reached_state net ls) (Act n at))) (sym is)
      (noted-act net.watch net.shape net.timing net.rows (reached_state net ls) s.times n at sends b on (λ c h. one_next.one c h)))

  -- after a deed other than Execute
  module _ (got : (c : ℕ) → next.got c ≡ ls.got c) (b : n < length net.watch.lasts) (idle : is_execute (deed_at net.shape net.rows (reached_state net ls) n) ≡ false) (inputs : (i : ℕ) → next.inputs i ≡ ls.inputs i)
      (w : Times) (sends : List (Option ℕ)) (on : SentOn (sends_on net.shape net.timing n (deed_at net.shape net.rows (reached_state net ls) n)) at net.watch.sends sends)
      (watch : w ≡ record net.watch { lasts = set net.watch.lasts n (Some at); sends = sends; latest = Some at })
      (cs : List C) (control : C) (controls : cs ≡ set net.controllers n control) (within : n < length net.controllers) (woke : ctl.phase control ≡ phase_at net.shape net.timing net.rows (reached_state net ls) n)
      (ibs : List InboxState) (marks : MarkedOn (takes_on net.shape n (deed_at net.shape net.rows (reached_state net ls) n)) net.inboxes ibs) (inboxes : length net.inboxes ≡ chan_count net.shape) where
    next_is : next ≡ record ls { events = next.events }
    next_is = λ i. record { events = next.events; inputs = λ m. inputs m i; got = λ c. got c i }

    pub idle_stands : NetStands ctl mch (record net { watch = w; controllers = cs; inboxes = ibs }) next
    idle_stands = record {
      timely = timely_next;
      clean = clean_next;
      times = times_are b w sends on watch;
      bench = subst (λ (z : Lists). StandsAt ctl mch (record (bench_of net) { controllers = cs; inboxes = ibs }) (reached_state net next) z.inputs z.got) (sym next_is)
          (idle_at ctl mch (bench_of net) n (deed_at net.shape net.rows (reached_state net ls) n) (phase_at net.shape net.timing net.rows (reached_state net ls) n) (reached_state net ls) (reached_state net next) ls.inputs ls.got s.bench acts_on ahead ahead_next
          ibs marks inboxes idle cs control controls within woke);
    }
