-- What is due by the times of each round, over links that lose messages. Every node has executed instant k by a time; from then on each of its activations acknowledges it. A channel loses so many
-- messages in a row at most, so as many periods and a delay later it is acknowledged; a period later it is sent, as many periods and a delay later it has come, and a period later the next instant is executed.
use Rattle.std.proofs.Common.{◌≡◌, ◌≢◌, ℕ, zero, suc, ◌+◌, ◌-◌, ◌*◌, ◌<◌, ◌≤◌, List, [], ◌∷◌, Some, None, Bool, true, false, cond, refl, ◌∙◌, arith, ◌⊎◌, inl, inr, ◌/◌, min, ltb, ltb-false, le-leb}
use Rattle.std.proofs.Math.Nat.{min-le_left, min-le_right, le-div_iff_mul-le}
use Rattle.std.proofs.lemmas.Bool.Decides.{leb_tells}
use Rattle.lt_arch.specs.declared.event.Event.TheVariants.{Act, Del, End}
use Rattle.lt_arch.specs.declared.event.Deed.{Deed}
use Rattle.lt_arch.specs.declared.event.Deed.TheVariants.{Execute, Send}
use Rattle.lt_arch.specs.declared.timing.Timing.{Timing}
use Rattle.lt_arch.specs.declared.shape.Shape.{Shape}
use Rattle.lt_arch.specs.State.{Phase, Wait, Ready, First, Sending, Executing, unsent}
use Rattle.lt_arch.specs.Readers.{node_count, chan_count, from_of, to_of, carries_data, tmax_of, dmax_of, most_of, slowest_of}
use Rattle.lt_arch.specs.Deeds.{deed_of, deed_at}
use Rattle.lt_arch.specs.Deadline.{node_deadline}
use Rattle.lt_arch.specs.Shapes.{HaveSameNodes}
use Rattle.lt_arch.specs.Step.{offence_of, woken, is_send, is_execute}
use Rattle.lt_arch.proofs.Changes.{same_or_not, one_if}
use Rattle.lt_arch.proofs.Facts.{ends-of, in_time-node, in_time-chan}
use Rattle.lt_arch.proofs.Fresh.{all_in-from, all_ack-from}
use Rattle.lt_arch.proofs.Ranges.{tmax-slowest, slowest-some, dmax-most}
use Rattle.lt_bp.proofs.Balance.{IsPhase}
use Rattle.lt_lossy.specs.declared.event.LossyEvent.{LossyEvent}
use Rattle.lt_lossy.specs.declared.event.LossyEvent.TheVariants.{Plain, Lose}
use Rattle.lt_lossy.specs.State.{Message, LossyState, lossy_start, plain_of, sent_count, number_on}
use Rattle.lt_lossy.specs.Step.{lossy_offence, lossy_after}
use Rattle.lt_lossy.specs.Schedule.{lossy_after_all, HasNoLossyOffence}
use Rattle.lt_lossy.specs.Laws.{lossy_cycle, lossy_bound, ReachesLossyBound}
use Rattle.lt_lossy.proofs.Changes.{plain_clear, node-act, node-act_here, node-act_other, link-act_from, link-act_other, newest-act, link-del, link-lose}
use Rattle.lt_lossy.proofs.Numbers.{newest-delivered, newest-lost}
use Rattle.lt_lossy.proofs.Balance.{IsBalanced, kept, balanced-start, executed-grows, sent-woken}
use Rattle.lt_lossy.proofs.Resending.{Resends, IsInTimeBy, resends-sent, resends-delivered, resends-lost, resends-due, resends-start}
use Rattle.lt_lossy.proofs.Schedules.{lossy_offence_free}

-- the greatest numbers of a timing cover those of a shape's nodes and pairs
record IsCovered (s : Shape) (t : Timing) : Type 0 where
  slowest : (n : ℕ) → n < node_count s → tmax_of t n ≤ slowest_of t
  most : (c : ℕ) → c < chan_count s → dmax_of t (from_of s c) (to_of s c) ≤ most_of t
  positive : 1 ≤ slowest_of t

covered : (s : Shape) (t : Timing) → HaveSameNodes s t → IsCovered s t
covered s t same = record {
  slowest = λ n lt. tmax-slowest t n (omega arith);
  most = λ c lc. let e = ends-of s c lc in dmax-most t (from_of s c) (to_of s c) (rw same e.from_in) (rw same e.to_in) e.differ;
  positive = let some = s.inhabited in slowest-some t 0 (omega (arith, some));
}

-- How long a message is on its way: it is sent again as often as it may be lost, and then takes the greatest delay.
abbrev pub passage : Timing → (limit : ℕ) → ℕ
passage t limit = limit * slowest_of t + most_of t

-- by when every node has executed instant k
unfoldable pub executed_by : Timing → (limit k : ℕ) → ℕ
executed_by t limit zero = slowest_of t
executed_by t limit (suc k) = executed_by t limit k + 2 * (slowest_of t + passage t limit)

-- and by when every node has sent it
abbrev pub all_sent_by : Timing → (limit k : ℕ) → ℕ
all_sent_by t limit k = executed_by t limit k + passage t limit + slowest_of t

executed_by-more : (t : Timing) (limit k : ℕ) → executed_by t limit (suc k) ≡ executed_by t limit k + 2 * (slowest_of t + passage t limit)
unfolding executed_by
executed_by-more t limit k = refl

executed_by-first : (t : Timing) (limit k : ℕ) → slowest_of t ≤ executed_by t limit k
unfolding executed_by
executed_by-first t limit zero = omega arith
executed_by-first t limit (suc k) = let h = executed_by-first t limit k in omega (arith, h)

-- the next activation of node n is due by then
abbrev pub deadline_in : Timing → LossyState → (n : ℕ) → ℕ
deadline_in t st n = node_deadline t (plain_of st) n

pub record IsOnPace (s : Shape) (t : Timing) (limit : ℕ) (st : LossyState) (k : ℕ) : Type 0 where
  pub execs : (n : ℕ) → n < node_count s → (st.node n).executed ≤ k → deadline_in t st n ≤ executed_by t limit k
  pub acks : (c : ℕ) → c < chan_count s → carries_data s c ≡ false → (st.link c).newest ≤ k → Resends (slowest_of t) k (executed_by t limit k) (st.link c) (deadline_in t st (from_of s c))
  pub sends : (n : ℕ) → n < node_count s → sent_count (st.node n) ≤ k → deadline_in t st n ≤ all_sent_by t limit k
  pub datas : (c : ℕ) → c < chan_count s → carries_data s c ≡ true → (st.link c).newest ≤ k → Resends (slowest_of t) k (all_sent_by t limit k) (st.link c) (deadline_in t st (from_of s c))

-- an event at this time is in time for each node and each channel
record IsTimely (s : Shape) (t : Timing) (st : LossyState) (at : ℕ) : Type 0 where
  nodes : (n : ℕ) → n < node_count s → at ≤ deadline_in t st n
  links : (c : ℕ) → c < chan_count s → IsInTimeBy at (dmax_of t (from_of s c) (to_of s c)) (st.link c).transit

oldest_in_time : (at delay : ℕ) (xs : List Message) → ((m : Message) (later : List Message) → xs ≡ m ∷ later → at ≤ m.sent_at + delay) → IsInTimeBy at delay xs
oldest_in_time at delay [] h = tt
oldest_in_time at delay (m ∷ later) h = h m later refl

timely : (s : Shape) (t : Timing) (st : LossyState) (n at : ℕ) → offence_of s t (plain_of st) (Act n at) ≡ None → IsTimely s t st at
timely s t st n at clean = record {
  nodes = λ i li. in_time-node s t (plain_of st) (Act n at) clean i li;
  links = λ c lc. oldest_in_time at (dmax_of t (from_of s c) (to_of s c)) (st.link c).transit
      (λ m later e. in_time-chan s t (plain_of st) (Act n at) clean c (m.sent_at + dmax_of t (from_of s c) (to_of s c)) lc (rw e refl));
}

-- What an event after the times of a round finds.

module _ (s : Shape) (t : Timing) (limit : ℕ) (of : IsCovered s t) (st : LossyState) (bal : IsBalanced s limit st) (at k : ℕ) (pace : IsOnPace s t limit st k) (time : IsTimely s t st at) where
  all_executed : executed_by t limit k < at → (n : ℕ) → n < node_count s → k < (st.node n).executed
  all_executed late n lt = elim (leb_tells (st.node n).executed k) [
    | inl h ↦ let p = pace.execs n lt h.1 in let q = time.nodes n lt in absurd (omega (arith, p, q))
    | inr h ↦ h.1
  ]

  early : (by c : ℕ) → c < chan_count s → Resends (slowest_of t) k by (st.link c) (deadline_in t st (from_of s c)) → at ≤ by + limit * slowest_of t + most_of t
  early by c lc h = resends-due (slowest_of t) k by (deadline_in t st (from_of s c)) (dmax_of t (from_of s c) (to_of s c)) (most_of t) limit at (st.link c) h (time.nodes (from_of s c) (ends-of s c lc).from_in) (time.links c lc) (of.most c lc) (bal.ordered.losses c lc)

  all_acked : executed_by t limit k + passage t limit < at → (c : ℕ) → c < chan_count s → carries_data s c ≡ false → k < (st.link c).newest
  all_acked late c lc kind = elim (leb_tells (st.link c).newest k) [
    | inl h ↦ let e = early (executed_by t limit k) c lc (pace.acks c lc kind h.1) in absurd (omega (arith, e))
    | inr h ↦ h.1
  ]

  all_sent : all_sent_by t limit k < at → (n : ℕ) → n < node_count s → k < sent_count (st.node n)
  all_sent late n lt = elim (leb_tells (sent_count (st.node n)) k) [
    | inl h ↦ let p = pace.sends n lt h.1 in let q = time.nodes n lt in absurd (omega (arith, p, q))
    | inr h ↦ h.1
  ]

  all_delivered : all_sent_by t limit k + passage t limit < at → (c : ℕ) → c < chan_count s → carries_data s c ≡ true → k < (st.link c).newest
  all_delivered late c lc kind = elim (leb_tells (st.link c).newest k) [
    | inl h ↦ let e = early (all_sent_by t limit k) c lc (pace.datas c lc kind h.1) in absurd (omega (arith, e))
    | inr h ↦ h.1
  ]

wait_if : (ph : Phase) (e : ℕ) → IsPhase ph e → e ≤ e - unsent ph → ph ≡ Wait
wait_if Wait e p h = refl
wait_if Ready e p h = absurd (omega arith)
wait_if First e p h = absurd p
wait_if (Sending k) e p h = absurd p
wait_if (Executing k) e p h = absurd p

ready_if : (ph : Phase) (e : ℕ) → IsPhase ph e → e - unsent ph < e → (ph ≡ Ready) × (e ≡ (e - unsent ph) + 1)
ready_if Wait e p h = absurd (omega arith)
ready_if Ready e p h = (refl, omega arith)
ready_if First e p h = absurd p
ready_if (Sending k) e p h = absurd p
ready_if (Executing k) e p h = absurd p

unsent-one : (ph : Phase) → unsent ph ≤ 1
unsent-one Wait = omega arith
unsent-one Ready = omega arith
unsent-one First = omega arith
unsent-one (Sending k) = omega arith
unsent-one (Executing k) = omega arith

executes : (ph : Phase) (ins some acks left : Bool) → ph ≡ Wait → ins ≡ true → left ≡ true → deed_of ph ins some acks left ≡ Execute
executes ph ins some acks left a b c = rw (a, b, c) refl

sends : (ph : Phase) (ins some acks left : Bool) → ph ≡ Ready → acks ≡ true → deed_of ph ins some acks left ≡ Send
sends ph ins some acks left a b = rw (a, b) refl

executed_with : (d : Deed) (e : ℕ) → d ≡ Execute → cond (is_execute d) (e + 1) e ≡ e + 1
executed_with d e is = rw is refl

sent_with : (d : Deed) (k : ℕ) → d ≡ Send → k + one_if (is_send d) ≡ k + 1
sent_with d k is = rw is refl

module _ (s : Shape) (t : Timing) (limit rows : ℕ) (of : IsCovered s t) (st : LossyState) (bal : IsBalanced s limit st) (n at : ℕ) (ln : n < node_count s) (time : IsTimely s t st at) where
  -- what it has executed and sent afterwards
  executed_then : deed_at s rows (plain_of st) n ≡ Execute → (woken s t rows (plain_of st) n at).executed ≡ (st.node n).executed + 1
  executed_then is = executed_with (deed_at s rows (plain_of st) n) (st.node n).executed is

  sent_then : deed_at s rows (plain_of st) n ≡ Send → sent_count (woken s t rows (plain_of st) n at) ≡ sent_count (st.node n) + 1
  sent_then is = sent-woken s t limit rows st bal n at ∙ sent_with (deed_at s rows (plain_of st) n) (sent_count (st.node n)) is

  -- a node that has executed nothing does so when it is activated
  executes_first : 0 < rows → (st.node n).executed ≤ 0 → deed_at s rows (plain_of st) n ≡ Execute
  executes_first r e = executes (st.node n).phase _ _ _ _
      (wait_if (st.node n).phase (st.node n).executed (bal.phases n) (omega arith))
      (all_in-from s (plain_of st) n (λ c lt k. omega arith))
      (le-leb (suc (st.node n).executed) rows (omega arith))

  executes_next : (j : ℕ) → suc j < rows → IsOnPace s t limit st j → all_sent_by t limit j + passage t limit < at → (st.node n).executed ≤ suc j → deed_at s rows (plain_of st) n ≡ Execute
  executes_next j r pace late e =
      let sent = all_sent s t limit of st bal at j pace time (omega arith) n ln in
      executes (st.node n).phase _ _ _ _
      (wait_if (st.node n).phase (st.node n).executed (bal.phases n) (omega (arith, sent)))
      (all_in-from s (plain_of st) n (λ c lt k. let d = all_delivered s t limit of st bal at j pace time late c lt k in omega arith))
      (le-leb (suc (st.node n).executed) rows (omega arith))

  sends_next : (k : ℕ) → IsOnPace s t limit st k → executed_by t limit k + passage t limit < at → sent_count (st.node n) ≤ k → deed_at s rows (plain_of st) n ≡ Send
  sends_next k pace late e =
      let before = all_executed s t limit of st bal at k pace time (omega arith) n ln in
      let r = ready_if (st.node n).phase (st.node n).executed (bal.phases n) (omega arith) in
      sends (st.node n).phase _ _ _ _ r.0
      (all_ack-from s (plain_of st) n (λ c lt kind. let d = all_acked s t limit of st bal at k pace time late c lt kind in omega (arith, r.1)))

pub record IsPacedState (s : Shape) (t : Timing) (limit rows : ℕ) (st : LossyState) : Type 0 where
  pub balanced : IsBalanced s limit st
  pub pace : (k : ℕ) → k < rows → IsOnPace s t limit st k
  pub first : (n : ℕ) → n < node_count s → 0 < rows → (st.node n).executed ≤ 0 → deadline_in t st n ≤ tmax_of t n
  pub ended : (h : ℕ) → st.horizon ≡ Some h → (n : ℕ) → n < node_count s → (k : ℕ) → k < rows → executed_by t limit k ≤ h → k < (st.node n).executed
  pub ended_first : (h : ℕ) → st.horizon ≡ Some h → (n : ℕ) → n < node_count s → 0 < rows → tmax_of t n ≤ h → 0 < (st.node n).executed

-- the deadline of a node after an activation
deadline-here : (s : Shape) (t : Timing) (rows : ℕ) (st : LossyState) (n at i : ℕ) → i ≡ n → deadline_in t (lossy_after s t rows st (Plain (Act n at))) i ≡ at + tmax_of t i
deadline-here s t rows st n at i e = rw (node-act_here s t rows st n at i e) refl

deadline-other : (s : Shape) (t : Timing) (rows : ℕ) (st : LossyState) (n at i : ℕ) → i ≢ n → deadline_in t (lossy_after s t rows st (Plain (Act n at))) i ≡ deadline_in t st i
deadline-other s t rows st n at i ne = rw (node-act_other s t rows st n at i ne) refl

module _ (s : Shape) (t : Timing) (limit rows : ℕ) (of : IsCovered s t) (st : LossyState) (inv : IsPacedState s t limit rows st) where
  module _ (n at : ℕ) (clean : lossy_offence s t limit st (Plain (Act n at)) ≡ None) where
    time : IsTimely s t st at
    time = timely s t st n at (plain_clear s t limit st (Act n at) clean)

    exec-here : n < node_count s → (k : ℕ) → k < rows → (woken s t rows (plain_of st) n at).executed ≤ k → at + tmax_of t n ≤ executed_by t limit k
    exec-here ln zero lk le =
        let e = executed-grows s t limit rows st inv.balanced n at in
        let is = executes_first s t limit rows of st inv.balanced n at ln time lk (omega (arith, e)) in
        let e' = executed_then s t limit rows of st inv.balanced n at ln time is in absurd (omega (arith, e'))
    exec-here ln (suc j) lk le = elim (leb_tells at (all_sent_by t limit j + passage t limit)) [
      | inl h ↦ let x = executed_by-more t limit j in let y = of.slowest n ln in omega (arith, h.1, x, y)
      | inr h ↦
          let e = executed-grows s t limit rows st inv.balanced n at in
          let pace = inv.pace j (omega arith) in
          let is = executes_next s t limit rows of st inv.balanced n at ln time j lk pace h.1 (omega (arith, e)) in
          let e' = executed_then s t limit rows of st inv.balanced n at ln time is in
          let before = all_executed s t limit of st inv.balanced at j pace time (omega (arith, h.1)) n ln in
          absurd (omega (arith, e', before))
    ]

    send-here : n < node_count s → (k : ℕ) → k < rows → sent_count (woken s t rows (plain_of st) n at) ≤ k → at + tmax_of t n ≤ all_sent_by t limit k
    send-here ln k lk le = elim (leb_tells at (executed_by t limit k + passage t limit)) [
      | inl h ↦ let y = of.slowest n ln in omega (arith, h.1, y)
      | inr h ↦
          let e = sent-woken s t limit rows st inv.balanced n at in
          let pace = inv.pace k lk in
          let is = sends_next s t limit rows of st inv.balanced n at ln time k pace h.1 (omega (arith, e)) in
          let e' = sent_then s t limit rows of st inv.balanced n at ln time is in
          let before = all_executed s t limit of st inv.balanced at k pace time (omega (arith, h.1)) n ln in
          let u = unsent-one (st.node n).phase in
          absurd (omega (arith, e', before, u))
    ]

    kept-bal : IsBalanced s limit (lossy_after s t rows st (Plain (Act n at)))
    kept-bal = kept s t limit rows st inv.balanced (Plain (Act n at)) clean

    -- the node's next activation comes a period after this one, which was in time
    moved : n < node_count s → at + tmax_of t n ≤ deadline_in t st n + slowest_of t
    moved ln = let a = time.nodes n ln in let b = of.slowest n ln in omega (arith, a, b)

    -- a channel from the node, on which it sends again: what it counts there is above k, or it is early
    resent : (k by c : ℕ) → n < node_count s → from_of s c ≡ n → Resends (slowest_of t) k by (st.link c) (deadline_in t st (from_of s c)) → (number_on s (woken s t rows (plain_of st) n at) c ≤ k → at + tmax_of t n ≤ by) →
        Resends (slowest_of t) k by ((lossy_after s t rows st (Plain (Act n at))).link c) (deadline_in t (lossy_after s t rows st (Plain (Act n at))) (from_of s c))
    resent k by c ln e h early =
        let a = time.nodes n ln in
        rw (link-act_from s t rows st n at c e, deadline-here s t rows st n at (from_of s c) e, e)
        (resends-sent (slowest_of t) k by (deadline_in t st n) (at + tmax_of t n) (number_on s (woken s t rows (plain_of st) n at) c) at (st.link c) (rw e at h) a (moved ln)
        (λ le. let x = early le in (omega (arith, x), x)))

    passed : (k by c : ℕ) → from_of s c ≢ n → Resends (slowest_of t) k by (st.link c) (deadline_in t st (from_of s c)) →
        Resends (slowest_of t) k by ((lossy_after s t rows st (Plain (Act n at))).link c) (deadline_in t (lossy_after s t rows st (Plain (Act n at))) (from_of s c))
    passed k by c ne h = rw (link-act_other s t rows st n at c ne, deadline-other s t rows st n at (from_of s c) ne) h

    acks-act : (k : ℕ) → k < rows → (c : ℕ) → c < chan_count s → carries_data s c ≡ false → ((lossy_after s t rows st (Plain (Act n at))).link c).newest ≤ k →
        Resends (slowest_of t) k (executed_by t limit k) ((lossy_after s t rows st (Plain (Act n at))).link c) (deadline_in t (lossy_after s t rows st (Plain (Act n at))) (from_of s c))
    acks-act k lk c lc kind le =
        let h = (inv.pace k lk).acks c lc kind (rw (newest-act s t rows st n at c) at le) in
        elim (same_or_not (from_of s c) n) [
          | inl e ↦ let ln = rw e at (ends-of s c lc).from_in in resent k (executed_by t limit k) c ln e h (λ few. exec-here ln k lk (rw kind at few))
          | inr ne ↦ passed k (executed_by t limit k) c ne h
        ]

    datas-act : (k : ℕ) → k < rows → (c : ℕ) → c < chan_count s → carries_data s c ≡ true → ((lossy_after s t rows st (Plain (Act n at))).link c).newest ≤ k →
        Resends (slowest_of t) k (all_sent_by t limit k) ((lossy_after s t rows st (Plain (Act n at))).link c) (deadline_in t (lossy_after s t rows st (Plain (Act n at))) (from_of s c))
    datas-act k lk c lc kind le =
        let h = (inv.pace k lk).datas c lc kind (rw (newest-act s t rows st n at c) at le) in
        elim (same_or_not (from_of s c) n) [
          | inl e ↦ let ln = rw e at (ends-of s c lc).from_in in resent k (all_sent_by t limit k) c ln e h (λ few. send-here ln k lk (rw kind at few))
          | inr ne ↦ passed k (all_sent_by t limit k) c ne h
        ]

    execs-act : (k : ℕ) → k < rows → (i : ℕ) → i < node_count s → ((lossy_after s t rows st (Plain (Act n at))).node i).executed ≤ k → deadline_in t (lossy_after s t rows st (Plain (Act n at))) i ≤ executed_by t limit k
    execs-act k lk i li le = elim (same_or_not i n) [
      | inl e ↦ rw (deadline-here s t rows st n at i e, e) (exec-here (rw e at li) k lk (rw (node-act_here s t rows st n at i e) at le))
      | inr ne ↦ rw (deadline-other s t rows st n at i ne) ((inv.pace k lk).execs i li (rw (node-act_other s t rows st n at i ne) at le))
    ]

    sends-act : (k : ℕ) → k < rows → (i : ℕ) → i < node_count s → sent_count ((lossy_after s t rows st (Plain (Act n at))).node i) ≤ k → deadline_in t (lossy_after s t rows st (Plain (Act n at))) i ≤ all_sent_by t limit k
    sends-act k lk i li le = elim (same_or_not i n) [
      | inl e ↦ rw (deadline-here s t rows st n at i e, e) (send-here (rw e at li) k lk (rw (node-act_here s t rows st n at i e) at le))
      | inr ne ↦ rw (deadline-other s t rows st n at i ne) ((inv.pace k lk).sends i li (rw (node-act_other s t rows st n at i ne) at le))
    ]

    first-act : (i : ℕ) → i < node_count s → 0 < rows → ((lossy_after s t rows st (Plain (Act n at))).node i).executed ≤ 0 → deadline_in t (lossy_after s t rows st (Plain (Act n at))) i ≤ tmax_of t i
    first-act i li r le = elim (same_or_not i n) [
      | inl e ↦
          let ln = rw e at li in
          let le' = rw (node-act_here s t rows st n at i e) at le in
          let g = executed-grows s t limit rows st inv.balanced n at in
          let is = executes_first s t limit rows of st inv.balanced n at ln time r (omega (arith, g, le')) in
          let e' = executed_then s t limit rows of st inv.balanced n at ln time is in absurd (omega (arith, e', le'))
      | inr ne ↦ rw (deadline-other s t rows st n at i ne) (inv.first i li r (rw (node-act_other s t rows st n at i ne) at le))
    ]

    -- no count goes down
    executed-kept : (i k : ℕ) → k < (st.node i).executed → k < ((lossy_after s t rows st (Plain (Act n at))).node i).executed
    executed-kept i k lt = node-act s t rows st n at (λ v. k < v.executed) i (λ e. let g = executed-grows s t limit rows st inv.balanced n at in let lt' = rw e at lt in omega (arith, g, lt')) (λ ne. lt)

    horizon-act : (lossy_after s t rows st (Plain (Act n at))).horizon ≡ st.horizon
    unfolding lossy_after
    horizon-act = refl

    paced-act : IsPacedState s t limit rows (lossy_after s t rows st (Plain (Act n at)))
    paced-act = record {
      balanced = kept-bal;
      pace = λ k lk. record { execs = execs-act k lk; acks = λ c lc kind le. acks-act k lk c lc kind le; sends = sends-act k lk; datas = λ c lc kind le. datas-act k lk c lc kind le };
      first = first-act;
      ended = λ h e i li k lk x. executed-kept i k (inv.ended h (rw horizon-act at e) i li k lk x);
      ended_first = λ h e i li r x. executed-kept i 0 (inv.ended_first h (rw horizon-act at e) i li r x);
    }

  module _ (c at : ℕ) (clean : lossy_offence s t limit st (Plain (Del c at)) ≡ None) where
    -- on any channel, where nothing above k is delivered afterwards
    resends-del : (k by d i : ℕ) → i < chan_count s → ((st.link i).newest ≤ k → Resends (slowest_of t) k by (st.link i) d) → ((lossy_after s t rows st (Plain (Del c at))).link i).newest ≤ k → Resends (slowest_of t) k by ((lossy_after s t rows st (Plain (Del c at))).link i) d
    resends-del k by d i li h = link-del s t rows st c at (λ l. l.newest ≤ k → Resends (slowest_of t) k by l d) i
        (λ e le.
        let g = newest-delivered (st.link c) (st.link c).transit _ refl (rw e at (inv.balanced.ordered.ascends i li)) in
        let old : (st.link i).newest ≤ k = rw e (omega (arith, g, le)) in
        resends-delivered (slowest_of t) k by d (st.link c) (st.link c).transit refl (rw e at (h old)) le)
        (λ ne. h)

    paced-del : IsPacedState s t limit rows (lossy_after s t rows st (Plain (Del c at)))
    unfolding lossy_after
    paced-del = record {
      balanced = kept s t limit rows st inv.balanced (Plain (Del c at)) clean;
      pace = λ k lk. record {
        execs = (inv.pace k lk).execs;
        acks = λ i li kind. resends-del k (executed_by t limit k) _ i li ((inv.pace k lk).acks i li kind);
        sends = (inv.pace k lk).sends;
        datas = λ i li kind. resends-del k (all_sent_by t limit k) _ i li ((inv.pace k lk).datas i li kind);
      };
      first = inv.first;
      ended = inv.ended;
      ended_first = inv.ended_first;
    }

  module _ (c at : ℕ) (clean : lossy_offence s t limit st (Lose c at) ≡ None) where
    resends-lose : (k by d i : ℕ) → i < chan_count s → ((st.link i).newest ≤ k → Resends (slowest_of t) k by (st.link i) d) → ((lossy_after s t rows st (Lose c at)).link i).newest ≤ k → Resends (slowest_of t) k by ((lossy_after s t rows st (Lose c at)).link i) d
    resends-lose k by d i li h = link-lose s t rows st c at (λ l. l.newest ≤ k → Resends (slowest_of t) k by l d) i
        (λ e le.
        let old : (st.link i).newest ≤ k = rw e (rw (newest-lost (st.link c) (st.link c).transit) at le) in
        resends-lost (slowest_of t) k by d _ (st.link c) (st.link c).transit refl (rw e at (inv.balanced.ordered.ascends i li)) (rw e at (h old)))
        (λ ne. h)

    paced-lose : IsPacedState s t limit rows (lossy_after s t rows st (Lose c at))
    unfolding lossy_after
    paced-lose = record {
      balanced = kept s t limit rows st inv.balanced (Lose c at) clean;
      pace = λ k lk. record {
        execs = (inv.pace k lk).execs;
        acks = λ i li kind. resends-lose k (executed_by t limit k) _ i li ((inv.pace k lk).acks i li kind);
        sends = (inv.pace k lk).sends;
        datas = λ i li kind. resends-lose k (all_sent_by t limit k) _ i li ((inv.pace k lk).datas i li kind);
      };
      first = inv.first;
      ended = inv.ended;
      ended_first = inv.ended_first;
    }

  module _ (h : ℕ) (clean : lossy_offence s t limit st (Plain (End h)) ≡ None) where
    before_deadline : (i : ℕ) → i < node_count s → h < deadline_in t st i
    before_deadline i lt = in_time-node s t (plain_of st) (End h) (plain_clear s t limit st (End h) clean) i lt

    horizon-end : (x : ℕ) → (lossy_after s t rows st (Plain (End h))).horizon ≡ Some x → h ≡ x
    unfolding lossy_after
    horizon-end x e = cc

    paced-end : IsPacedState s t limit rows (lossy_after s t rows st (Plain (End h)))
    unfolding lossy_after
    paced-end = record {
      balanced = kept s t limit rows st inv.balanced (Plain (End h)) clean;
      pace = λ k lk. record { execs = (inv.pace k lk).execs; acks = (inv.pace k lk).acks; sends = (inv.pace k lk).sends; datas = (inv.pace k lk).datas };
      first = inv.first;
      ended = λ x e i li k lk le. elim (leb_tells (st.node i).executed k) [
        | inl y ↦ let d = before_deadline i li in let p = (inv.pace k lk).execs i li y.1 in let same' = horizon-end x e in absurd (omega (arith, d, p, same'))
        | inr y ↦ y.1
      ];
      ended_first = λ x e i li r le. elim (leb_tells (st.node i).executed 0) [
        | inl y ↦ let d = before_deadline i li in let p = inv.first i li r y.1 in let same' = horizon-end x e in absurd (omega (arith, d, p, same'))
        | inr y ↦ y.1
      ];
    }

  paced-after : (e : LossyEvent) → lossy_offence s t limit st e ≡ None → IsPacedState s t limit rows (lossy_after s t rows st e)
  paced-after (Plain (Act n at)) clean = paced-act n at clean
  paced-after (Plain (Del c at)) clean = paced-del c at clean
  paced-after (Plain (End h)) clean = paced-end h clean
  paced-after (Lose c at) clean = paced-lose c at clean

paced-all : (s : Shape) (t : Timing) (limit rows : ℕ) (of : IsCovered s t) (st : LossyState) (es : List LossyEvent) → IsPacedState s t limit rows st → HasNoLossyOffence s t limit rows st es → IsPacedState s t limit rows (lossy_after_all s t rows st es)
paced-all s t limit rows of st [] inv h = inv
paced-all s t limit rows of st (e ∷ es) inv h = paced-all s t limit rows of (lossy_after s t rows st e) es (paced-after s t limit rows of st inv e h.0) h.1

module _ (s : Shape) (t : Timing) (limit rows : ℕ) (of : IsCovered s t) where
  start-early : (k n : ℕ) → n < node_count s → tmax_of t n ≤ executed_by t limit k
  start-early k n ln = let a = of.slowest n ln in let b = executed_by-first t limit k in omega (arith, a, b)

  start-sent : (k n : ℕ) → n < node_count s → tmax_of t n ≤ all_sent_by t limit k
  start-sent k n ln = let a = start-early k n ln in omega (arith, a)

  paced-start : IsPacedState s t limit rows lossy_start
  paced-start = record {
    balanced = balanced-start s limit;
    pace = λ k lk. record {
      execs = λ n ln le. start-early k n ln;
      acks = λ c lc kind le. resends-start (slowest_of t) k (executed_by t limit k) _ (lossy_start.link c) refl (start-early k (from_of s c) (ends-of s c lc).from_in);
      sends = λ n ln le. start-sent k n ln;
      datas = λ c lc kind le. resends-start (slowest_of t) k (all_sent_by t limit k) _ (lossy_start.link c) refl (start-sent k (from_of s c) (ends-of s c lc).from_in);
    };
    first = λ n ln r le. omega arith;
    ended = λ h e. cc;
    ended_first = λ h e. cc;
  }

executed_by-is : (t : Timing) (limit k : ℕ) → executed_by t limit k ≡ slowest_of t + k * lossy_cycle t limit
unfolding executed_by
executed_by-is t limit zero = omega arith
executed_by-is t limit (suc k) = let h = executed_by-is t limit k in omega (arith, h)

-- the round that a horizon has reached
reached-by : (t : Timing) (limit h k : ℕ) → 1 ≤ slowest_of t → slowest_of t ≤ h → k ≤ (h - slowest_of t) / lossy_cycle t limit → executed_by t limit k ≤ h
reached-by t limit h k pos le less =
    let m = (le-div_iff_mul-le {k = lossy_cycle t limit} {x = k} {y = h - slowest_of t} (omega arith)).0 less in
    let d = executed_by-is t limit k in
    omega (arith, m, d)

at_least : (b rows e : ℕ) → ((k : ℕ) → k < b → k < rows → k < e) → min b rows ≤ e
at_least b rows e f = elim (leb_tells (min b rows) e) [
  | inl h ↦ h.1
  | inr h ↦
      let l = min-le_left b rows in let r = min-le_right b rows in
      let x = f e (omega (arith, h.1, l)) (omega (arith, h.1, r)) in absurd (omega (arith, x))
]

-- how many rounds a bound has, by its two tests
below_bound : (early late : Bool) (q k : ℕ) → k < cond early 0 (cond late 1 (q + 1)) → (early ≡ false) × ((late ≡ true) × (k ≡ 0) ⊎ (late ≡ false) × (k ≤ q))
below_bound true late q k h = absurd (omega arith)
below_bound false true q k h = (refl, inl (refl, omega arith))
below_bound false false q k h = (refl, inr (refl, omega arith))

pub law : ReachesLossyBound
law s t limit rows es h n partners same ok end ln =
    let of = covered s t same in
    let inv = paced-all s t limit rows of lossy_start es (paced-start s t limit rows of) (lossy_offence_free s t limit rows es ok) in
    at_least (lossy_bound t limit n h) rows _ (λ k lb lr.
    let p = below_bound (ltb h (tmax_of t n)) (ltb h (slowest_of t)) ((h - slowest_of t) / lossy_cycle t limit) k lb in
    let first' = ltb-false h (tmax_of t n) p.0 in
    elim p.1 [
      | inl x ↦ let y = inv.ended_first h end n ln (omega (arith, lr)) first' in omega (arith, x.1, y)
      | inr x ↦ inv.ended h end n ln k lr (reached-by t limit h k of.positive (ltb-false h (slowest_of t) x.0) x.1)
    ])
