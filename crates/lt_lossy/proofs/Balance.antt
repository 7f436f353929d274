-- Over links that lose messages, what a node counts, sends and hears goes up in step. On a data channel from i to j, and the acknowledgement channel from j to i,
--     the executed count of j - 1 <= the newest data <= the sent count of i <= the newest acknowledgement <= the executed count of j
-- where the outer steps are freshness: nothing is executed before its message came, and nothing sent before its acknowledgement; and the inner ones are that numbers go up.
use Rattle.std.proofs.Common.{◌≡◌, ◌≢◌, ℕ, ◌+◌, ◌<◌, ◌≤◌, List, [], ◌∷◌, None, Bool, true, false, not, cond, refl, sym, subst, arith, inl, inr, if◌then◌else◌}
use Rattle.lt_arch.specs.declared.event.Event.TheVariants.{Act, Del, End}
use Rattle.lt_arch.specs.declared.event.Deed.{Deed}
use Rattle.lt_arch.specs.declared.event.Deed.TheVariants.{Nothing, Execute, Send}
use Rattle.lt_arch.specs.declared.timing.Timing.{Timing}
use Rattle.lt_arch.specs.declared.shape.Shape.{Shape}
use Rattle.lt_arch.specs.State.{NodeState, Phase, Wait, Ready, First, Sending, Executing}
use Rattle.lt_arch.specs.Readers.{chan_count, from_of, to_of, carries_data, send_of, execute_of}
use Rattle.lt_arch.specs.Deeds.{all_in, all_ack, any_in, more, deed_of, phase_after, deed_at}
use Rattle.lt_arch.specs.Step.{woken, is_send, is_execute}
use Rattle.lt_arch.specs.Shapes.{IsBackPressureShape}
use Rattle.lt_arch.proofs.Fresh.{all_in-at, all_ack-at}
use Rattle.lt_arch.proofs.Changes.{one_if, same_or_not}
use Rattle.lt_bp.proofs.Balance.{IsPhase, Woke, either}
use Rattle.lt_lossy.specs.declared.event.LossyEvent.{LossyEvent}
use Rattle.lt_lossy.specs.declared.event.LossyEvent.TheVariants.{Plain, Lose}
use Rattle.lt_lossy.specs.State.{LossyState, lossy_start, plain_of, sent_count, number_on}
use Rattle.lt_lossy.specs.Step.{lossy_offence, lossy_after}
use Rattle.lt_lossy.specs.Schedule.{lossy_after_all, HasNoLossyOffence}
use Rattle.lt_lossy.specs.Laws.{Ascends, IsOrdered, IsOneAhead, HasMessageNumbers, KeepsOrder, KeepsOneAhead, ReadsItsNumber}
use Rattle.lt_lossy.proofs.Changes.{loss_clear, node-act, node-act_here, node-act_other, link-act_from, link-act_other, newest-act, losses-act, link-del, link-lose, node-del, node-lose}
use Rattle.lt_lossy.proofs.Numbers.{ascends-ends, ascends-sent, ascends-delivered, ascends-lost, newest-delivered, newest-lost, losses-delivered, losses-lost}

pub record IsBalanced (s : Shape) (limit : ℕ) (st : LossyState) : Type 0 where
  pub phases : (n : ℕ) → IsPhase (st.node n).phase (st.node n).executed
  -- numbers go up, and losses in a row are few
  pub ordered : IsOrdered s limit st
  -- nothing is executed before its messages came, and nothing is sent before its acknowledgements came
  pub read : (c : ℕ) → c < chan_count s → carries_data s c ≡ true → (st.node (to_of s c)).executed ≤ (st.link c).newest + 1
  pub heard : (c : ℕ) → c < chan_count s → carries_data s c ≡ false → sent_count (st.node (to_of s c)) ≤ (st.link c).newest

-- What one activation of a node does to its counts.

woke : (ph : Phase) (e p q : ℕ) (ins some acks left : Bool) → IsPhase ph e →
    Woke ph e ins acks (deed_of ph ins some acks left) (phase_after p q ph (deed_of ph ins some acks left)) (cond (is_execute (deed_of ph ins some acks left)) (e + 1) e)
woke Wait e p q true some acks true h = record { phase = omega arith; sends = omega arith; needs_ins = λ x. refl; needs_acks = λ x. cc }
woke Wait e p q true some acks false h = record { phase = tt; sends = omega arith; needs_ins = λ x. refl; needs_acks = λ x. cc }
woke Wait e p q false some acks left h = record { phase = tt; sends = omega arith; needs_ins = λ x. cc; needs_acks = λ x. cc }
woke Ready e p q ins some true left h = record { phase = tt; sends = omega arith; needs_ins = λ x. cc; needs_acks = λ x. (refl, omega arith) }
woke Ready e p q ins some false left h = record { phase = h; sends = omega arith; needs_ins = λ x. cc; needs_acks = λ x. cc }
woke First e p q ins some acks left h = absurd h
woke (Sending k) e p q ins some acks left h = absurd h
woke (Executing k) e p q ins some acks left h = absurd h

-- a count that grows by one only with a deed
grown_by : (d : Deed) (e m : ℕ) → e ≤ m → (d ≡ Execute → e + 1 ≤ m) → cond (is_execute d) (e + 1) e ≤ m
grown_by Nothing e m le more = le
grown_by Execute e m le more = more refl
grown_by Send e m le more = le

sent_more : (d : Deed) (k m : ℕ) → k ≤ m → (d ≡ Send → k + 1 ≤ m) → k + one_if (is_send d) ≤ m
sent_more Nothing k m le more = omega arith
sent_more Execute k m le more = omega arith
sent_more Send k m le more = more refl

executed_more : (d : Deed) (e : ℕ) → e ≤ cond (is_execute d) (e + 1) e
executed_more Nothing e = omega arith
executed_more Execute e = omega arith
executed_more Send e = omega arith

number_more : (b : Bool) (v w : NodeState) → sent_count v ≤ sent_count w → v.executed ≤ w.executed → (if b then sent_count v else v.executed) ≤ (if b then sent_count w else w.executed)
number_more true v w sent executed = sent
number_more false v w sent executed = executed

module _ (s : Shape) (t : Timing) (limit rows : ℕ) (st : LossyState) (inv : IsBalanced s limit st) where
  module _ (n at : ℕ) where
    pub woke-n : Woke (st.node n).phase (st.node n).executed (all_in s (plain_of st) n) (all_ack s (plain_of st) n) (deed_at s rows (plain_of st) n) (woken s t rows (plain_of st) n at).phase (woken s t rows (plain_of st) n at).executed
    woke-n = woke (st.node n).phase (st.node n).executed (send_of t n) (execute_of t n) (all_in s (plain_of st) n) (any_in s (plain_of st) n) (all_ack s (plain_of st) n) (more rows (plain_of st) n) (inv.phases n)

    pub executed-grows : (st.node n).executed ≤ (woken s t rows (plain_of st) n at).executed
    executed-grows = executed_more (deed_at s rows (plain_of st) n) (st.node n).executed

    pub sent-woken : sent_count (woken s t rows (plain_of st) n at) ≡ sent_count (st.node n) + one_if (is_send (deed_at s rows (plain_of st) n))
    sent-woken = woke-n.sends

    pub number-grows : (c : ℕ) → number_on s (st.node n) c ≤ number_on s (woken s t rows (plain_of st) n at) c
    number-grows c = number_more (carries_data s c) (st.node n) (woken s t rows (plain_of st) n at) (omega (arith, sent-woken)) executed-grows

    -- a node that executes has every message, and one that sends has every acknowledgement
    pub has_message : (c : ℕ) → c < chan_count s → to_of s c ≡ n → carries_data s c ≡ true → deed_at s rows (plain_of st) n ≡ Execute → (st.node n).executed ≤ (st.link c).newest
    has_message c lc to carries is = all_in-at s (plain_of st) n c (woke-n.needs_ins is) lc to carries

    pub has_ack : (c : ℕ) → c < chan_count s → to_of s c ≡ n → carries_data s c ≡ false → deed_at s rows (plain_of st) n ≡ Send → (st.node n).executed ≤ (st.link c).newest
    has_ack c lc to carries is = all_ack-at s (plain_of st) n c (woke-n.needs_acks is).0 lc to carries

    ascends-act : (c : ℕ) → c < chan_count s → Ascends ((lossy_after s t rows st (Plain (Act n at))).link c).newest ((lossy_after s t rows st (Plain (Act n at))).link c).transit (number_on s ((lossy_after s t rows st (Plain (Act n at))).node (from_of s c)) c)
    ascends-act c lc = elim (same_or_not (from_of s c) n) [
      | inl e ↦ rw (link-act_from s t rows st n at c e, node-act_here s t rows st n at (from_of s c) e)
          (ascends-sent _ (number_on s (woken s t rows (plain_of st) n at) c) at (number_on s (st.node (from_of s c)) c) (st.link c) (inv.ordered.ascends c lc) (rw e (number-grows c)))
      | inr ne ↦ rw (link-act_other s t rows st n at c ne, node-act_other s t rows st n at (from_of s c) ne) (inv.ordered.ascends c lc)
    ]

    pub read-act : (c : ℕ) → c < chan_count s → carries_data s c ≡ true → ((lossy_after s t rows st (Plain (Act n at))).node (to_of s c)).executed ≤ ((lossy_after s t rows st (Plain (Act n at))).link c).newest + 1
    read-act c lc d = rw (newest-act s t rows st n at c) (node-act s t rows st n at (λ v. v.executed ≤ (st.link c).newest + 1) (to_of s c)
        (λ e. let before = rw e at (inv.read c lc d) in grown_by (deed_at s rows (plain_of st) n) (st.node n).executed ((st.link c).newest + 1) before (λ is. let m = has_message c lc e d is in omega (arith, m)))
        (λ ne. inv.read c lc d))

    heard-act : (c : ℕ) → c < chan_count s → carries_data s c ≡ false → sent_count ((lossy_after s t rows st (Plain (Act n at))).node (to_of s c)) ≤ ((lossy_after s t rows st (Plain (Act n at))).link c).newest
    heard-act c lc d = rw (newest-act s t rows st n at c) (node-act s t rows st n at (λ v. sent_count v ≤ (st.link c).newest) (to_of s c)
        (λ e. let before = rw e at (inv.heard c lc d) in rw sent-woken (sent_more (deed_at s rows (plain_of st) n) (sent_count (st.node n)) (st.link c).newest before (λ is. let m = has_ack c lc e d is in let k = (woke-n.needs_acks is).1 in omega (arith, m, k))))
        (λ ne. inv.heard c lc d))

    kept-act : IsBalanced s limit (lossy_after s t rows st (Plain (Act n at)))
    kept-act = record {
      phases = λ i. node-act s t rows st n at (λ v. IsPhase v.phase v.executed) i (λ e. woke-n.phase) (λ ne. inv.phases i);
      ordered = record { ascends = ascends-act; losses = λ c lc. rw (losses-act s t rows st n at c) (inv.ordered.losses c lc) };
      read = read-act;
      heard = heard-act;
    }

  module _ (c at : ℕ) where
    kept-del : IsBalanced s limit (lossy_after s t rows st (Plain (Del c at)))
    kept-del = record {
      phases = λ i. rw (node-del s t rows st c at i) (inv.phases i);
      ordered = record {
        ascends = λ i li. rw (node-del s t rows st c at (from_of s i)) (link-del s t rows st c at (λ l. Ascends l.newest l.transit (number_on s (st.node (from_of s i)) i)) i
            (λ e. ascends-delivered (st.link c) (st.link c).transit _ refl (subst (λ k. Ascends (st.link k).newest (st.link k).transit (number_on s (st.node (from_of s i)) i)) e (inv.ordered.ascends i li)))
            (λ ne. inv.ordered.ascends i li));
        losses = λ i li. link-del s t rows st c at (λ l. l.losses ≤ limit) i
            (λ e. let f = losses-delivered (st.link c) (st.link c).transit in let before = rw e at (inv.ordered.losses i li) in omega (arith, f, before))
            (λ ne. inv.ordered.losses i li);
      };
      read = λ i li d. rw (node-del s t rows st c at (to_of s i)) (link-del s t rows st c at (λ l. (st.node (to_of s i)).executed ≤ l.newest + 1) i
          (λ e. let f = newest-delivered (st.link c) (st.link c).transit _ refl (subst (λ k. Ascends (st.link k).newest (st.link k).transit (number_on s (st.node (from_of s i)) i)) e (inv.ordered.ascends i li)) in let before = subst (λ k. (st.node (to_of s i)).executed ≤ (st.link k).newest + 1) e (inv.read i li d) in omega (arith, f, before))
          (λ ne. inv.read i li d));
      heard = λ i li d. rw (node-del s t rows st c at (to_of s i)) (link-del s t rows st c at (λ l. sent_count (st.node (to_of s i)) ≤ l.newest) i
          (λ e. let f = newest-delivered (st.link c) (st.link c).transit _ refl (subst (λ k. Ascends (st.link k).newest (st.link k).transit (number_on s (st.node (from_of s i)) i)) e (inv.ordered.ascends i li)) in let before = subst (λ k. sent_count (st.node (to_of s i)) ≤ (st.link k).newest) e (inv.heard i li d) in omega (arith, f, before))
          (λ ne. inv.heard i li d));
    }

    kept-lose : (st.link c).losses ≢ limit → IsBalanced s limit (lossy_after s t rows st (Lose c at))
    kept-lose few = record {
      phases = λ i. rw (node-lose s t rows st c at i) (inv.phases i);
      ordered = record {
        ascends = λ i li. rw (node-lose s t rows st c at (from_of s i)) (link-lose s t rows st c at (λ l. Ascends l.newest l.transit (number_on s (st.node (from_of s i)) i)) i
            (λ e. ascends-lost (st.link c) (st.link c).transit _ refl (subst (λ k. Ascends (st.link k).newest (st.link k).transit (number_on s (st.node (from_of s i)) i)) e (inv.ordered.ascends i li)))
            (λ ne. inv.ordered.ascends i li));
        losses = λ i li. link-lose s t rows st c at (λ l. l.losses ≤ limit) i
            (λ e. let f = losses-lost (st.link c) (st.link c).transit in let before = rw e at (inv.ordered.losses i li) in omega (arith, f, before, few))
            (λ ne. inv.ordered.losses i li);
      };
      read = λ i li d. rw (node-lose s t rows st c at (to_of s i)) (link-lose s t rows st c at (λ l. (st.node (to_of s i)).executed ≤ l.newest + 1) i
          (λ e. rw (newest-lost (st.link c) (st.link c).transit) (subst (λ k. (st.node (to_of s i)).executed ≤ (st.link k).newest + 1) e (inv.read i li d)))
          (λ ne. inv.read i li d));
      heard = λ i li d. rw (node-lose s t rows st c at (to_of s i)) (link-lose s t rows st c at (λ l. sent_count (st.node (to_of s i)) ≤ l.newest) i
          (λ e. rw (newest-lost (st.link c) (st.link c).transit) (subst (λ k. sent_count (st.node (to_of s i)) ≤ (st.link k).newest) e (inv.heard i li d)))
          (λ ne. inv.heard i li d));
    }

  kept-end : (at : ℕ) → IsBalanced s limit (lossy_after s t rows st (Plain (End at)))
  unfolding lossy_after
  kept-end at = record { phases = inv.phases; ordered = record { ascends = inv.ordered.ascends; losses = inv.ordered.losses }; read = inv.read; heard = inv.heard }

  pub kept : (e : LossyEvent) → lossy_offence s t limit st e ≡ None → IsBalanced s limit (lossy_after s t rows st e)
  kept (Plain (Act n at)) h = kept-act n at
  kept (Plain (Del c at)) h = kept-del c at
  kept (Plain (End at)) h = kept-end at
  kept (Lose c at) h = kept-lose c at (loss_clear s t limit st c at h)

pub kept_all : (s : Shape) (t : Timing) (limit rows : ℕ) (st : LossyState) (es : List LossyEvent) → IsBalanced s limit st → HasNoLossyOffence s t limit rows st es → IsBalanced s limit (lossy_after_all s t rows st es)
kept_all s t limit rows st [] inv h = inv
kept_all s t limit rows st (e ∷ es) inv h = kept_all s t limit rows (lossy_after s t rows st e) es (kept s t limit rows st inv e h.0) h.1

number-start : (b : Bool) → 0 ≤ (if b then 0 else 0)
number-start true = omega arith
number-start false = omega arith

pub balanced-start : (s : Shape) (limit : ℕ) → IsBalanced s limit lossy_start
balanced-start s limit = record {
  phases = λ n. tt;
  ordered = record { ascends = λ c lc. omega arith; losses = λ c lc. omega arith };
  read = λ c lc d. omega arith;
  heard = λ c lc d. omega arith;
}

pub law-order : KeepsOrder
law-order s t limit rows es free = (kept_all s t limit rows lossy_start es (balanced-start s limit) free).ordered

-- Where each channel has one that answers it.

other : (b c : Bool) → b ≢ c → b ≡ not c
other true true h = absurd (h refl)
other true false h = refl
other false true h = refl
other false false h = absurd (h refl)

record IsChain (s : Shape) (st : LossyState) (c d : ℕ) : Type 0 where
  read : (st.node (to_of s c)).executed ≤ (st.link c).newest + 1
  came : (st.link c).newest ≤ sent_count (st.node (from_of s c))
  heard : sent_count (st.node (from_of s c)) ≤ (st.link d).newest
  answered : (st.link d).newest ≤ (st.node (to_of s c)).executed

-- a data channel and the one that acknowledges it
chain : (s : Shape) (limit : ℕ) (st : LossyState) → IsBalanced s limit st → (c d : ℕ) → c < chan_count s → d < chan_count s → from_of s d ≡ to_of s c → to_of s d ≡ from_of s c → carries_data s c ≡ true → carries_data s d ≡ false → IsChain s st c d
chain s limit st inv c d lc ld f b dc dd = record {
  read = inv.read c lc dc;
  came = rw dc at (ascends-ends _ _ _ (inv.ordered.ascends c lc));
  heard = rw b at (inv.heard d ld dd);
  answered = rw (dd, f) at (ascends-ends _ _ _ (inv.ordered.ascends d ld));
}

module _ (s : Shape) (limit : ℕ) (st : LossyState) (partners : IsBackPressureShape s) (inv : IsBalanced s limit st) where
  chain_data : (c : ℕ) → c < chan_count s → carries_data s c ≡ true → (d : ℕ) × IsChain s st c d
  chain_data c lc k =
      let p = partners c lc in
      let k' : carries_data s p.0 ≡ false = rw k at (other _ _ p.2.other_kind) in
      (p.0, chain s limit st inv c p.0 lc p.1 p.2.from_is p.2.to_is k k')

  chain_ack : (d : ℕ) → d < chan_count s → carries_data s d ≡ false → (c : ℕ) × (from_of s c ≡ to_of s d) × (to_of s c ≡ from_of s d) × IsChain s st c d
  chain_ack d ld k =
      let p = partners d ld in
      let k' : carries_data s p.0 ≡ true = rw k at (other _ _ p.2.other_kind) in
      (p.0, p.2.from_is, p.2.to_is, chain s limit st inv p.0 d p.1 ld (sym p.2.to_is) (sym p.2.from_is) k' k)

  next-data : (c : ℕ) → c < chan_count s → carries_data s c ≡ true → sent_count (st.node (from_of s c)) ≤ (st.link c).newest + 1
  next-data c lc k = let h = (chain_data c lc k).1 in omega (arith, h.read, h.heard, h.answered)

  next-ack : (d : ℕ) → d < chan_count s → carries_data s d ≡ false → (st.node (from_of s d)).executed ≤ (st.link d).newest + 1
  next-ack d ld k = let h = chain_ack d ld k in let x = h.3 in let y : (st.node (to_of s h.0)).executed ≡ (st.node (from_of s d)).executed = rw h.2 refl in let z : sent_count (st.node (from_of s h.0)) ≤ (st.link d).newest = x.heard in omega (arith, x.read, x.came, z, y)

  one_ahead : IsOneAhead s st
  one_ahead = record {
    next = λ c lc. elim (either (carries_data s c)) [ inl k ↦ rw k (next-data c lc k) | inr k ↦ rw k (next-ack c lc k) ];
    data_low = inv.read;
    data_high = λ c lc k. let h = (chain_data c lc k).1 in omega (arith, h.came, h.heard, h.answered);
    ack_low = inv.heard;
    ack_high = λ d ld k. let h = chain_ack d ld k in let x = h.3 in let y : sent_count (st.node (from_of s h.0)) ≡ sent_count (st.node (to_of s d)) = rw h.1 refl in omega (arith, x.read, x.came, x.answered, y);
  }

  -- what a node reads at its next activation
  has_numbers : (t : Timing) (rows n : ℕ) → HasMessageNumbers s rows st n
  has_numbers t rows n = record {
    executes = λ is c lc to k.
        let low = has_message s t limit rows st inv n 0 c lc to k is in
        let high = rw to at (one_ahead.data_high c lc k) in
        omega (arith, low, high);
    sends = λ is c lc to k.
        let low = has_ack s t limit rows st inv n 0 c lc to k is in
        let high = rw to at (one_ahead.ack_high c lc k) in
        let unsent_one = ((woke-n s t limit rows st inv n 0).needs_acks is).1 in
        omega (arith, low, high, unsent_one);
  }

pub law-one_ahead : KeepsOneAhead
law-one_ahead s t limit rows es partners free = one_ahead s limit _ partners (kept_all s t limit rows lossy_start es (balanced-start s limit) free)

pub law-own_number : ReadsItsNumber
law-own_number s t limit rows es n partners free = has_numbers s limit _ partners (kept_all s t limit rows lossy_start es (balanced-start s limit) free) t rows n
