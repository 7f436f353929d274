-- Where one event more leads.
use Rattle.std.proofs.Common.{◌≡◌, ℕ, ◌+◌, ◌≤◌, Bool, true, false, List, [], ◌∷◌, ◌++◌, None, refl, sym, ap, ◌∙◌, subst, cond, arith}
use Rattle.std.specs.Prelude.{◌==◌, ◌&&◌}
use Rattle.lt_arch.specs.declared.limits.TheConstants.{GREATEST_TIME}
use Rattle.lt_arch.specs.declared.event.Event.TheVariants.{Act}
use Rattle.lt_arch.specs.declared.shape.Shape.{Shape}
use Rattle.lt_arch.specs.declared.timing.Timing.{Timing}
use Rattle.lt_arch.specs.State.{NodeState, Phase, Wait, Ready, First, Sending, Executing, executed_of, sent_of, unsent}
use Rattle.lt_arch.specs.Deeds.{deed_at, phase_at}
use Rattle.lt_arch.specs.Step.{after, is_execute, is_send, updated, woken}
use Rattle.lt_arch.proofs.Changes.{executed-act, one_if, grown_at}
use Rattle.lt_lossy.specs.declared.event.LossyEvent.{LossyEvent}
use Rattle.lt_lossy.specs.declared.event.LossyEvent.TheVariants.{Plain}
use Rattle.lt_lossy.specs.State.{LossyState, lossy_start, plain_of, sent_count}
use Rattle.lt_lossy.specs.Step.{lossy_offence, lossy_after}
use Rattle.lt_lossy.specs.Schedule.{lossy_after_all, HasNoLossyOffence, IsLossyOffenceFree}
use Rattle.lt_lossy.specs.Times.{lossy_time_of}
use Rattle.lt_lossy.specs.Laws.{IsOneAhead}
use Rattle.lt_lossy.proofs.Changes.{node-act_here, node-act_other, newest-act}
use Rattle.lt_lossy.proofs.Balance.{IsBalanced, kept_all, balanced-start, law-one_ahead, sent-woken}
use Rattle.lt_net_bench.specs.Changes.{IsAhead, ActsOn}
use Rattle.lt_net_lossy.specs.Net.{LossyBenchState, LossyLists, lossy_state_of}
use Rattle.lt_net_lossy.specs.Stands.{AreLossyUpTo, StandsLossy}
use Rattle.lt_net_lossy.specs.Event.{PassesLossy}
use Rattle.lt_net_lossy.specs.Kept.{IsFixedLossy}
use Rattle.lt_machine.specs.declared.machine.Machine.{Ghosts as Machines}
use Rattle.lt_arch.specs.declared.controller.Controller.{Ghosts as Controls}

pub after_all-more : (s : Shape) (t : Timing) (rows : ℕ) (st : LossyState) (es : List LossyEvent) (e : LossyEvent) → lossy_after_all s t rows st (es ++ e ∷ []) ≡ lossy_after s t rows (lossy_after_all s t rows st es) e
after_all-more s t rows st [] e = refl
after_all-more s t rows st (x ∷ es) e = after_all-more s t rows (lossy_after s t rows st x) es e

clean-more : (s : Shape) (t : Timing) (limit rows : ℕ) (st : LossyState) (es : List LossyEvent) (e : LossyEvent) → HasNoLossyOffence s t limit rows st es → lossy_offence s t limit (lossy_after_all s t rows st es) e ≡ None →
    HasNoLossyOffence s t limit rows st (es ++ e ∷ [])
clean-more s t limit rows st [] e h none = (none, tt)
clean-more s t limit rows st (x ∷ es) e h none = (h.0, clean-more s t limit rows (lossy_after s t rows st x) es e h.1 none)

timely-more : (limit : ℕ) (es : List LossyEvent) (e : LossyEvent) → AreLossyUpTo limit es → lossy_time_of e ≤ limit → AreLossyUpTo limit (es ++ e ∷ [])
timely-more limit [] e h le = (le, tt)
timely-more limit (x ∷ es) e h le = (h.0, timely-more limit es e h.1 le)

-- no channel is more than one message ahead of its receiver, or behind it
pub ahead_of : (s : Shape) (st : LossyState) → IsOneAhead s st → IsAhead s (plain_of st)
ahead_of s st one = record { data_low = one.data_low; data_high = one.data_high; ack_low = one.ack_low; ack_high = one.ack_high }

one_is : (b : Bool) → one_if b ≡ cond b 1 0
one_is true = refl
one_is false = refl

pub unsent_most : (ph : Phase) → unsent ph ≤ 1
unsent_most Wait = omega arith
unsent_most Ready = omega arith
unsent_most First = omega arith
unsent_most (Sending left) = omega arith
unsent_most (Executing left) = omega arith

-- What an activation does to nodes and channels, as the architecture without losses has them.
module _ (s : Shape) (t : Timing) (limit rows : ℕ) (st : LossyState) (inv : IsBalanced s limit st) (n at : ℕ) where
  node_is : (i : ℕ) → (lossy_after s t rows st (Plain (Act n at))).node i ≡ updated st.node n (woken s t rows (plain_of st) n at) i
  unfolding lossy_after
  node_is i = refl

  plain_node_is : (i : ℕ) → (after s t rows (plain_of st) (Act n at)).node i ≡ updated st.node n (woken s t rows (plain_of st) n at) i
  unfolding after
  plain_node_is i = refl

  pub acts_on : ActsOn n (deed_at s rows (plain_of st) n) (phase_at s t rows (plain_of st) n) (plain_of st) (plain_of (lossy_after s t rows st (Plain (Act n at))))
  acts_on = record {
    executed = λ i. ap (λ (v : NodeState). v.executed) (node_is i ∙ sym (plain_node_is i)) ∙ executed-act s t rows (plain_of st) n at i
        ∙ ap (λ k. executed_of (plain_of st) i + k) (one_is ((i == n) && is_execute (deed_at s rows (plain_of st) n)));
    sent = λ i. ap sent_count (node_is i) ∙ grown_at sent_count st.node n i (woken s t rows (plain_of st) n at) (is_send (deed_at s rows (plain_of st) n)) (sent-woken s t limit rows st inv n at)
        ∙ ap (λ k. sent_of (plain_of st) i + k) (one_is ((i == n) && is_send (deed_at s rows (plain_of st) n)));
    here = ap (λ (v : NodeState). v.phase) (node-act_here s t rows st n at n refl);
    elsewhere = λ i ne. ap (λ (v : NodeState). v.phase) (node-act_other s t rows st n at i ne);
    delivered = λ c. newest-act s t rows st n at c;
  }

module _ {C M : Type 0} (ctl : Controls C) (mch : Machines M) (net : LossyBenchState C M) (ls : LossyLists) (s : StandsLossy ctl mch net ls) where
  pub balanced : IsBalanced net.shape net.watch.limit (lossy_state_of net ls)
  balanced = kept_all net.shape net.timing net.watch.limit net.rows lossy_start ls.events (balanced-start net.shape net.watch.limit) s.clean

  module _ (fixed : IsFixedLossy net.layout net.shape net.timing) where
    pub one_now : IsOneAhead net.shape (lossy_state_of net ls)
    one_now = law-one_ahead net.shape net.timing net.watch.limit net.rows ls.events fixed.partners s.clean

    pub ahead : IsAhead net.shape (plain_of (lossy_state_of net ls))
    ahead = ahead_of net.shape (lossy_state_of net ls) one_now

  module _ (e : LossyEvent) (passes : PassesLossy net ls e) (next : LossyLists) (events : next.events ≡ ls.events ++ e ∷ []) where
    pub state_is : lossy_state_of net next ≡ lossy_after net.shape net.timing net.rows (lossy_state_of net ls) e
    state_is = ap (lossy_after_all net.shape net.timing net.rows lossy_start) events ∙ after_all-more net.shape net.timing net.rows lossy_start ls.events e

    pub clean_next : IsLossyOffenceFree net.shape net.timing net.watch.limit net.rows next.events
    clean_next = subst (λ es. IsLossyOffenceFree net.shape net.timing net.watch.limit net.rows es) (sym events) (clean-more net.shape net.timing net.watch.limit net.rows lossy_start ls.events e s.clean passes.clear)

    pub timely_next : AreLossyUpTo GREATEST_TIME next.events
    timely_next = subst (λ es. AreLossyUpTo GREATEST_TIME es) (sym events) (timely-more GREATEST_TIME ls.events e s.timely passes.timely)

    pub ahead_next : IsFixedLossy net.layout net.shape net.timing → IsAhead net.shape (plain_of (lossy_state_of net next))
    ahead_next fixed = ahead_of net.shape (lossy_state_of net next) (law-one_ahead net.shape net.timing net.watch.limit net.rows next.events fixed.partners clean_next)
