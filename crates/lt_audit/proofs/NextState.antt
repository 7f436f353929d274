-- What an auditor holds is the next state of the architecture, after an event that has no offence.
use Rattle.std.proofs.Common.{◌≡◌, ◌∙◌, ◌≢◌, ℕ, ◌+◌, ◌<◌, ◌&&◌, ◌||◌, List, take, length, set, length-set, Some, None, if◌then◌else◌, refl, sym, ap, subst, arith, inl, inr, slice_index_or}
use Rattle.std.proofs.lemmas.Bool.Decides.{eqb_tells}
use Rattle.std.proofs.lemmas.List.{get_or-set_same, get_or-set_other}
use Rattle.lt_arch.specs.declared.event.Event.TheVariants.{Act, Del, End}
use Rattle.lt_arch.specs.declared.timing.Timing.{Timing}
use Rattle.lt_arch.specs.State.{State, NodeState, ChanState}
use Rattle.lt_arch.specs.Readers.{node_count, chan_count, chan_of, send_of, execute_of, is_back_pressure}
use Rattle.lt_arch.specs.Deeds.{deed_at, phase_after, data_from, ack_from}
use Rattle.lt_arch.specs.Step.{after, with_sent, with_delivered, sends_on, is_execute, is_send}
use Rattle.lt_arch.specs.Times.{Times, HasTimes, in_transit}
use Rattle.lt_arch.proofs.Changes.{at_updated}
use Rattle.lt_audit.specs.Audit.{AuditState, MemberState, IsKeptAudit, member_at, chan_at, no_member, no_chan_state, oldest}
use Rattle.lt_audit.specs.Acts.{AuditActs, AuditDelivers, audited_chan, is_sent_on}
use Rattle.lt_audit.specs.Standing.{HasState, IsConfigured, oldest_only}
use Rattle.lt_audit.proofs.DeedSeen.{deed_seen}
use Rattle.lt_audit.proofs.Oldest.{first_is}
use Rattle.lt_audit.proofs.Waking.{next_phase, configured_still}

module _ (a b : AuditState) (t : Timing) (st : State) (kept : IsKeptAudit a) (h : HasState a a.shape t st) where
  module _ (n at : ℕ) (ln : n < node_count a.shape) (acts : AuditActs a b n at) where
    pub deed_is : acts.deed ≡ deed_at a.shape a.rows st n
    deed_is = acts.wakes.deed_is ∙ deed_seen a t st h n ln a.rows

    here : n < length a.members
    here = let e = kept.members in omega (arith, e, ln)

    member_here : member_at b.members n ≡ acts.woken
    member_here = ap (λ (ms : List MemberState). member_at ms n) acts.members ∙ get_or-set_same a.members n acts.woken no_member here

    member_there : (i : ℕ) → i ≢ n → member_at b.members i ≡ member_at a.members i
    member_there i ne = ap (λ (ms : List MemberState). member_at ms i) acts.members ∙ get_or-set_other a.members n i acts.woken no_member ne

    sent_same : (c : ℕ) → is_sent_on a.protocol n acts.deed (audited_chan a.shape.channels c) ≡ sends_on a.shape t n (deed_at a.shape a.rows st n) c
    unfolding chan_of
    sent_same c = λ i. (is_send (deed_is i) && data_from a.shape n c) || (is_execute (deed_is i) && (is_back_pressure (h.protocol i) && ack_from a.shape n c))

    chan_after : (c : ℕ) → c < chan_count a.shape → chan_at b.chans c ≡ with_sent (sends_on a.shape t n (deed_at a.shape a.rows st n) c) at (st.chan c)
    chan_after c lc = acts.chan c (let e = kept.chans in omega (arith, e, lc)) ∙ (λ i. with_sent (sent_same c i) at (h.chan c lc i))

    times_after : HasTimes (record a.watch { lasts = set a.watch.lasts n (Some at); sends = acts.sends; latest = Some at }) a.shape t (oldest_only (after a.shape t a.rows st (Act n at)))
    unfolding after
    times_after = record {
      timing = h.times.timing;
      channels = h.times.channels;
      node_count = length-set a.watch.lasts n (Some at) ∙ h.times.node_count;
      chan_count = acts.send_length ∙ h.times.chan_count;
      last = λ i li. at_updated (λ j (v : NodeState). j < node_count a.shape → slice_index_or (set a.watch.lasts n (Some at)) j None ≡ v.last) st.node n _
          (λ _. get_or-set_same a.watch.lasts n (Some at) None (let e = kept.lasts in omega (arith, e, ln)))
          (λ j ne lj. get_or-set_other a.watch.lasts n j (Some at) None ne ∙ h.times.last j lj) i li;
      transit = λ c lc.
          ap (λ (k : ChanState). take 1 k.transit) (sym (chan_after c lc)) ∙ first_is (chan_at b.chans c).transit ∙ ap in_transit (sym (acts.oldest_are c (let e = kept.chans in omega (arith, e, lc))));
      latest = refl;
      horizon = h.times.horizon;
    }

    pub after_act : HasState b a.shape t (after a.shape t a.rows st (Act n at))
    unfolding after
    after_act = record {
      shape = acts.shape;
      protocol = acts.protocol ∙ h.protocol;
      times = subst (λ (w : Times). HasTimes w a.shape t (oldest_only (after a.shape t a.rows st (Act n at)))) (sym acts.watch) times_after;
      configured = λ i li. elim (eqb_tells i n) [
        | inl e ↦
            subst (λ (j : ℕ). IsConfigured (member_at b.members j) t j) (sym e.1)
            (subst (λ (m : MemberState). IsConfigured m t n) (sym member_here) (configured_still (member_at a.members n) acts.woken _ a.rows acts.deed acts.wakes t n (h.configured n ln)))
        | inr e ↦ subst (λ (m : MemberState). IsConfigured m t i) (sym (member_there i e.1)) (h.configured i li)
      ];
      phase = λ i li. at_updated (λ j (v : NodeState). j < node_count a.shape → (member_at b.members j).phase ≡ v.phase) st.node n _
          (λ _. ap (λ (m : MemberState). m.phase) member_here ∙ next_phase (member_at a.members n) acts.woken _ a.rows acts.deed acts.wakes t n (h.configured n ln) ∙ (λ k. phase_after (send_of t n) (execute_of t n) (h.phase n ln k) (deed_is k)))
          (λ j ne lj. ap (λ (m : MemberState). m.phase) (member_there j ne) ∙ h.phase j lj) i li;
      executed = λ i li. at_updated (λ j (v : NodeState). j < node_count a.shape → (member_at b.members j).executed ≡ v.executed) st.node n _
          (λ _. ap (λ (m : MemberState). m.executed) member_here ∙ acts.wakes.executed ∙ (λ k. if is_execute (deed_is k) then h.executed n ln k + 1 else h.executed n ln k))
          (λ j ne lj. ap (λ (m : MemberState). m.executed) (member_there j ne) ∙ h.executed j lj) i li;
      chan = chan_after;
    }

  module _ (c at : ℕ) (lc : c < chan_count a.shape) (delivers : AuditDelivers a b c at) where
    inside : c < length a.chans
    inside = let e = kept.chans in omega (arith, e, lc)

    abbrev taken : ChanState
    taken = with_delivered (chan_at a.chans c) (chan_at a.chans c).transit

    taken_is : taken ≡ with_delivered (st.chan c) (st.chan c).transit
    taken_is = ap (λ (k : ChanState). with_delivered k k.transit) (h.chan c lc)

    chan_here : chan_at b.chans c ≡ taken
    chan_here = ap (λ (ks : List ChanState). chan_at ks c) delivers.chans ∙ get_or-set_same a.chans c taken no_chan_state inside

    chan_there : (i : ℕ) → i ≢ c → chan_at b.chans i ≡ chan_at a.chans i
    chan_there i ne = ap (λ (ks : List ChanState). chan_at ks i) delivers.chans ∙ get_or-set_other a.chans c i taken no_chan_state ne

    times_delivered : HasTimes (record a.watch { sends = set a.watch.sends c (oldest (chan_at b.chans c).transit); latest = Some at }) a.shape t (oldest_only (after a.shape t a.rows st (Del c at)))
    unfolding after
    times_delivered = record {
      timing = h.times.timing;
      channels = h.times.channels;
      node_count = h.times.node_count;
      chan_count = length-set a.watch.sends c (oldest (chan_at b.chans c).transit) ∙ h.times.chan_count;
      last = h.times.last;
      transit = λ i li. at_updated (λ j (k : ChanState). j < chan_count a.shape → take 1 k.transit ≡ in_transit (slice_index_or (set a.watch.sends c (oldest (chan_at b.chans c).transit)) j None)) st.chan c _
          (λ _. ap (λ (k : ChanState). take 1 k.transit) (sym (chan_here ∙ taken_is)) ∙ first_is (chan_at b.chans c).transit ∙
          ap in_transit (sym (get_or-set_same a.watch.sends c (oldest (chan_at b.chans c).transit) None (let e = kept.sends in omega (arith, e, lc)))))
          (λ j ne lj. h.times.transit j lj ∙ ap in_transit (sym (get_or-set_other a.watch.sends c j (oldest (chan_at b.chans c).transit) None ne))) i li;
      latest = refl;
      horizon = h.times.horizon;
    }

    pub after_delivery : HasState b a.shape t (after a.shape t a.rows st (Del c at))
    unfolding after
    after_delivery = record {
      shape = delivers.shape;
      protocol = delivers.protocol ∙ h.protocol;
      times = subst (λ (w : Times). HasTimes w a.shape t (oldest_only (after a.shape t a.rows st (Del c at)))) (sym delivers.watch) times_delivered;
      configured = λ i li. subst (λ (ms : List MemberState). IsConfigured (member_at ms i) t i) (sym delivers.members) (h.configured i li);
      phase = λ i li. ap (λ (ms : List MemberState). (member_at ms i).phase) delivers.members ∙ h.phase i li;
      executed = λ i li. ap (λ (ms : List MemberState). (member_at ms i).executed) delivers.members ∙ h.executed i li;
      chan = λ i li. at_updated (λ j (k : ChanState). j < chan_count a.shape → chan_at b.chans j ≡ k) st.chan c _ (λ _. chan_here ∙ taken_is) (λ j ne lj. chan_there j ne ∙ h.chan j lj) i li;
    }

  pub after_end : (at : ℕ) → b ≡ record a { watch = record a.watch { latest = Some at; horizon = Some at }; taken = b.taken } → HasState b a.shape t (after a.shape t a.rows st (End at))
  unfolding after
  after_end at is = subst (λ (k : AuditState). HasState k a.shape t (after a.shape t a.rows st (End at))) (sym is) (record {
    shape = refl;
    protocol = h.protocol;
    times = record { timing = h.times.timing; channels = h.times.channels; node_count = h.times.node_count; chan_count = h.times.chan_count; last = h.times.last; transit = h.times.transit; latest = refl; horizon = refl };
    configured = h.configured;
    phase = h.phase;
    executed = h.executed;
    chan = h.chan;
  })
