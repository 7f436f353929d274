-- What an auditor holds is the next state of the architecture, after an event that has no offence.
use Rattle.std.proofs.Common.{◌≡◌, ◌≢◌, ◌∙◌, ℕ, ◌<◌, ◌&&◌, nat_lt, Bool, List, [], ◌∷◌, ◌++◌, length, set, None, cond, refl, sym, ap, subst, arith, inl, inr, slice_index_or, lt-ltb}
use Rattle.std.proofs.lemmas.List.{get_or-set_same, get_or-set_other}
use Rattle.lt_arch.specs.declared.event.Event.TheVariants.{Act, Del, End}
use Rattle.lt_arch.specs.declared.timing.Timing.{Timing}
use Rattle.lt_arch.specs.State.{NodeState}
use Rattle.lt_arch.specs.Readers.{node_count, chan_count}
use Rattle.lt_arch.specs.Step.{woken}
use Rattle.lt_arch.proofs.Changes.{same_or_not}
use Rattle.lt_lossy.specs.declared.event.LossyEvent.{LossyEvent}
use Rattle.lt_lossy.specs.declared.event.LossyEvent.TheVariants.{Plain, Lose}
use Rattle.lt_lossy.specs.State.{LinkState, LossyState, plain_of}
use Rattle.lt_lossy.specs.Step.{lossy_after, lossy_offence, link_delivered, link_lost, link_with_message, link_woken, sends_number}
use Rattle.lt_lossy.specs.Times.{AreQueued, HasLossyTimes, LossyTimes, queue_at, with_last}
use Rattle.lt_lossy.specs.Events.{IsLossyPlacedIn}
use Rattle.lt_lossy.proofs.Changes.{link-del, link-lose, node-act}
use Rattle.lt_lossy.proofs.Noted.{law-times}
use Rattle.lt_lossy_audit.specs.declared.seen.Seen.{Seen}
use Rattle.lt_lossy_audit.specs.Links.{link_seen, no_link}
use Rattle.lt_lossy_audit.specs.Nodes.{IsSeen, node_seen, nothing_seen, sends_seen}
use Rattle.lt_lossy_audit.specs.LossyAudit.{LossyAuditState, HasLossyState}
use Rattle.lt_lossy_audit.specs.LossyActs.{LossyAuditActs, LossyAuditDelivers, LossyAuditLoses, LossyAuditTakes}
use Rattle.lt_lossy_audit.proofs.NodeSeen.{counts, sends, woken_seen}

-- a list that was set at one place
set_there : {A : Type 0} (xs : List A) (c i : ℕ) (v d w : A) → c < length xs → (i ≡ c → v ≡ w) → (i ≢ c → slice_index_or xs i d ≡ w) → slice_index_or (set xs c v) i d ≡ w
set_there xs c i v d w lt here there = elim (same_or_not i c) [
  | inl e ↦ subst (λ j. slice_index_or (set xs c v) j d ≡ v) (sym e) (get_or-set_same xs c v d lt) ∙ here e
  | inr ne ↦ get_or-set_other xs c i v d ne ∙ there ne
]

module _ (a : LossyAuditState) (t : Timing) (limit : ℕ) (st : LossyState) (h : HasLossyState a a.shape t limit st) (nodes : length a.nodes ≡ node_count a.shape) (links : length a.links ≡ chan_count a.shape) where
  -- An activation.
  module _ (n at : ℕ) (ln : n < node_count a.shape) (b : LossyAuditState) (acts : LossyAuditActs a b n at) where
    abbrev v : NodeState
    v = woken a.shape t a.rows (plain_of st) n at

    now_seen : IsSeen acts.woken v
    now_seen = woken_seen a t limit st h n ln acts.woken acts.wakes at

    on_is : (c : ℕ) → c < chan_count a.shape → (nat_lt c (chan_count a.shape) && sends_seen a.shape n acts.woken c) ≡ sends_number a.shape n v c
    on_is c lc = λ i. lt-ltb c (chan_count a.shape) lc i && sends a.shape n acts.woken v now_seen c i

    link_is : (c : ℕ) → c < chan_count a.shape → link_seen acts.links c ≡ link_woken a.shape n at v c (st.link c)
    link_is c lc = acts.sends.links c (omega (arith, lc, links)) ∙ (λ i. link_with_message (on_is c lc i) (counts a.shape n acts.woken v now_seen c i) at (h.link c lc i))

    queued : AreQueued (sends_number a.shape n v) at a.watch.queues acts.sent.queues
    queued = record {
      same_length = acts.sends.queues.same_length;
      each = λ c lc.
          let size = h.times.queue_count in
          acts.sends.queues.each c lc ∙ ap (λ (x : Bool). cond x (queue_at a.watch c ++ at ∷ []) (queue_at a.watch c)) (on_is c (omega (arith, lc, size)));
    }

    times_next : HasLossyTimes (with_last acts.sent n at) a.shape t limit (lossy_after a.shape t a.rows st (Plain (Act n at)))
    times_next =
        subst (λ (w : LossyTimes). HasLossyTimes (with_last w n at) a.shape t limit (lossy_after a.shape t a.rows st (Plain (Act n at)))) (sym acts.sends.watch)
        ((law-times a.watch a.shape t limit a.rows st h.times).activation n at acts.sent.queues (let size = h.times.node_count in omega (arith, ln, size)) queued)

    link_next : (c : ℕ) → c < chan_count a.shape → link_seen acts.links c ≡ (lossy_after a.shape t a.rows st (Plain (Act n at))).link c
    unfolding lossy_after
    link_next c lc = link_is c lc

    node_next : (i : ℕ) → i < node_count a.shape → IsSeen (node_seen (set a.nodes n acts.woken) i) ((lossy_after a.shape t a.rows st (Plain (Act n at))).node i)
    node_next i li = node-act a.shape t a.rows st n at (λ (k : NodeState). IsSeen (node_seen (set a.nodes n acts.woken) i) k) i
        (λ e. subst (λ (x : Seen). IsSeen x v) (sym (ap (λ (j : ℕ). node_seen (set a.nodes n acts.woken) j) e ∙ get_or-set_same a.nodes n acts.woken nothing_seen (omega (arith, ln, nodes)))) now_seen)
        (λ ne. subst (λ (x : Seen). IsSeen x (st.node i)) (sym (get_or-set_other a.nodes n i acts.woken nothing_seen ne)) (h.node i li))

    pub after_acting : HasLossyState b a.shape t limit (lossy_after a.shape t a.rows st (Plain (Act n at)))
    after_acting = subst (λ (k : LossyAuditState). HasLossyState k a.shape t limit (lossy_after a.shape t a.rows st (Plain (Act n at)))) (sym acts.is) (record {
      shape = refl;
      times = times_next;
      node = node_next;
      link = link_next;
    })

  -- A message that leaves its channel.
  module _ (c at : ℕ) (lc : c < chan_count a.shape) (b : LossyAuditState) where
    queue_in : c < length a.watch.queues
    queue_in = let size = h.times.queue_count in omega (arith, lc, size)

    link_in : c < length a.links
    link_in = omega (arith, lc, links)

    node_delivered : (i : ℕ) → i < node_count a.shape → IsSeen (node_seen a.nodes i) ((lossy_after a.shape t a.rows st (Plain (Del c at))).node i)
    unfolding lossy_after
    node_delivered i li = h.node i li

    node_lost : (i : ℕ) → i < node_count a.shape → IsSeen (node_seen a.nodes i) ((lossy_after a.shape t a.rows st (Lose c at)).node i)
    unfolding lossy_after
    node_lost i li = h.node i li

    pub after_delivering : lossy_offence a.shape t limit st (Plain (Del c at)) ≡ None → LossyAuditDelivers a b c at → HasLossyState b a.shape t limit (lossy_after a.shape t a.rows st (Plain (Del c at)))
    after_delivering none is = subst (λ (k : LossyAuditState). HasLossyState k a.shape t limit (lossy_after a.shape t a.rows st (Plain (Del c at)))) (sym is) (record {
      shape = refl;
      times = (law-times a.watch a.shape t limit a.rows st h.times).delivery c at queue_in none;
      node = node_delivered;
      link = λ i li. link-del a.shape t a.rows st c at (λ (l : LinkState). link_seen (set a.links c (link_delivered (link_seen a.links c) (link_seen a.links c).transit)) i ≡ l) i
          (λ e. set_there a.links c i _ no_link _ link_in (λ _. ap (λ (l : LinkState). link_delivered l l.transit) (h.link c lc)) (λ ne. absurd (ne e)))
          (λ ne. set_there a.links c i _ no_link _ link_in (λ e. absurd (ne e)) (λ _. h.link i li));
    })

    pub after_losing : lossy_offence a.shape t limit st (Lose c at) ≡ None → LossyAuditLoses a b c at → HasLossyState b a.shape t limit (lossy_after a.shape t a.rows st (Lose c at))
    after_losing none is = subst (λ (k : LossyAuditState). HasLossyState k a.shape t limit (lossy_after a.shape t a.rows st (Lose c at))) (sym is) (record {
      shape = refl;
      times = (law-times a.watch a.shape t limit a.rows st h.times).loss c at queue_in none;
      node = node_lost;
      link = λ i li. link-lose a.shape t a.rows st c at (λ (l : LinkState). link_seen (set a.links c (link_lost (link_seen a.links c) (link_seen a.links c).transit)) i ≡ l) i
          (λ e. set_there a.links c i _ no_link _ link_in (λ _. ap (λ (l : LinkState). link_lost l l.transit) (h.link c lc)) (λ ne. absurd (ne e)))
          (λ ne. set_there a.links c i _ no_link _ link_in (λ e. absurd (ne e)) (λ _. h.link i li));
    })

  pub after_ending : (at : ℕ) (b : LossyAuditState) → LossyAuditTakes a b (Plain (End at)) → HasLossyState b a.shape t limit (lossy_after a.shape t a.rows st (Plain (End at)))
  unfolding lossy_after
  after_ending at b is = subst (λ (k : LossyAuditState). HasLossyState k a.shape t limit (lossy_after a.shape t a.rows st (Plain (End at)))) (sym is) (record {
    shape = refl;
    times = (law-times a.watch a.shape t limit a.rows st h.times).ending at;
    node = h.node;
    link = h.link;
  })

  pub next_lossy : (e : LossyEvent) (b : LossyAuditState) → IsLossyPlacedIn a.shape e → lossy_offence a.shape t limit st e ≡ None → LossyAuditTakes a b e → HasLossyState b a.shape t limit (lossy_after a.shape t a.rows st e)
  next_lossy (Plain (Act n at)) b placed none takes = after_acting n at placed b takes
  next_lossy (Plain (Del c at)) b placed none takes = after_delivering c at placed b none takes
  next_lossy (Plain (End at)) b placed none takes = after_ending at b takes
  next_lossy (Lose c at) b placed none takes = after_losing c at placed b none takes
