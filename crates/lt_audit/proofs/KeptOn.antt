-- What an auditor keeps it still keeps after an event.
use Rattle.std.proofs.Common.{◌≡◌, ◌≢◌, ◌∙◌, ℕ, suc, ◌+◌, ◌-◌, ◌^◌, ◌<◌, ◌≤◌, ◌==◌, ◌&&◌, ◌||◌, not, Bool, true, false, List, [], ◌∷◌, length, length-append, set, length-set, All, Some, None, if◌then◌else◌, refl, sym, ap, subst, arith, inl, inr, ne_eqb, slice_index_or}
use Rattle.std.proofs.lemmas.Bool.Decides.{eqb_tells}
use Rattle.std.proofs.lemmas.List.{get_or-set_same, get_or-set_other}
use Rattle.std.proofs.lemmas.List.Elements.{All-append, All-cons, All-nil, All-tail}
use Rattle.lt_arch.specs.declared.chan.Chan.{Chan}
use Rattle.lt_arch.specs.declared.event.Event.{Event}
use Rattle.lt_arch.specs.declared.event.Event.TheVariants.{Act, Del, End}
use Rattle.lt_arch.specs.declared.limits.TheConstants.{GREATEST_TIME}
use Rattle.lt_arch.specs.State.{ChanState, unsent}
use Rattle.lt_arch.specs.Readers.{node_count, chan_count, chan_of, from_of, carries_data, is_data, is_back_pressure}
use Rattle.lt_arch.specs.Schedule.{IsEventOf}
use Rattle.lt_arch.specs.Step.{with_sent, with_delivered, is_execute, is_send}
use Rattle.lt_arch.specs.Times.{Times, sent_in}
use Rattle.lt_audit.specs.Audit.{AuditState, MemberState, IsKeptAudit, member_at, chan_at, no_member, no_chan_state, oldest, sent_by_member}
use Rattle.lt_audit.specs.Acts.{AuditActs, AuditDelivers, AuditTakes, audited_chan, is_sent_on}
use Rattle.lt_audit.proofs.Waking.{one_if, wake_counts}
use Rattle.lt_audit.proofs.SentOn.{sent_off}

abbrev IsTime : ℕ → Type 0
IsTime at = at ≤ GREATEST_TIME

-- how many messages a channel has had
abbrev total : ChanState → ℕ
total k = k.delivered + length k.transit

sent_timely : (x : Bool) (at : ℕ) (k : ChanState) → IsTime at → All IsTime k.transit → All IsTime (with_sent x at k).transit
sent_timely true at k now before = All-append IsTime k.transit (at ∷ []) before (All-cons IsTime at [] now (All-nil IsTime))
sent_timely false at k now before = before

sent_total : (x : Bool) (at : ℕ) (k : ChanState) → total (with_sent x at k) ≡ total k + one_if x
sent_total true at k = let e = length-append k.transit (at ∷ []) in omega (arith, e)
sent_total false at k = omega arith

delivered_timely : (k : ChanState) (xs : List ℕ) → All IsTime k.transit → All IsTime xs → All IsTime (with_delivered k xs).transit
delivered_timely k [] before all = before
delivered_timely k (x ∷ xs) before all = All-tail IsTime x xs all

delivered_total : (k : ChanState) (xs : List ℕ) → k.transit ≡ xs → total (with_delivered k xs) ≡ total k
delivered_total k [] is = refl
delivered_total k (x ∷ xs) is = let e : length k.transit ≡ suc (length xs) = ap length is in omega (arith, e)

at_most_one : (x : Bool) → one_if x ≤ 1
at_most_one true = omega arith
at_most_one false = omega arith

-- on which channels a deed sends at most
bound : (send exec bp from k : Bool) → one_if ((send && (from && k)) || (exec && (bp && (from && not k)))) ≤ one_if (if k then send else exec)
bound true exec bp from true = at_most_one _
bound false true true true true = omega arith
bound false true true false true = omega arith
bound false true false from true = omega arith
bound false false bp from true = omega arith
bound send true bp from false = at_most_one _
bound true false bp true false = omega arith
bound true false bp false false = omega arith
bound false false bp from false = omega arith

grown : (x : Bool) (e : ℕ) → (if x then e + 1 else e) ≡ e + one_if x
grown true e = refl
grown false e = omega arith

module _ (a b : AuditState) (kept : IsKeptAudit a) (fits : b.taken < 2 ^ 32) where
  module _ (n at : ℕ) (ln : n < node_count a.shape) (timely : IsTime at) (acts : AuditActs a b n at) where
    here : n < length a.members
    here = let e = kept.members in omega (arith, e, ln)

    member_here : member_at b.members n ≡ acts.woken
    member_here = ap (λ (ms : List MemberState). member_at ms n) acts.members ∙ get_or-set_same a.members n acts.woken no_member here

    member_there : (i : ℕ) → i ≢ n → member_at b.members i ≡ member_at a.members i
    member_there i ne = ap (λ (ms : List MemberState). member_at ms i) acts.members ∙ get_or-set_other a.members n i acts.woken no_member ne

    chan_after : (c : ℕ) → c < chan_count a.shape → chan_at b.chans c ≡ with_sent (is_sent_on a.protocol n acts.deed (audited_chan a.shape.channels c)) at (chan_at a.chans c)
    chan_after c lc = acts.chan c (let e = kept.chans in omega (arith, e, lc))

    counts : (unsent acts.woken.phase ≤ acts.woken.executed) × (acts.woken.executed - unsent acts.woken.phase ≡ ((member_at a.members n).executed - unsent (member_at a.members n).phase) + one_if (is_send acts.deed))
    counts = wake_counts (member_at a.members n) acts.woken _ a.rows acts.deed acts.wakes (kept.unsent n ln)

    more_messages : (k : Bool) → sent_by_member acts.woken k ≡ sent_by_member (member_at a.members n) k + one_if (if k then is_send acts.deed else is_execute acts.deed)
    more_messages true = counts.1
    more_messages false = acts.wakes.executed ∙ grown (is_execute acts.deed) (member_at a.members n).executed

    sent_bound : (ch : Chan) (i : ℕ) → i ≡ ch.from → sent_by_member (member_at a.members i) (is_data ch.kind) + one_if (is_sent_on a.protocol n acts.deed ch) ≤ sent_by_member (member_at b.members i) (is_data ch.kind)
    sent_bound ch i from = elim (eqb_tells i n) [
      | inl e ↦
          let most = bound (is_send acts.deed) (is_execute acts.deed) (is_back_pressure a.protocol) (ch.from == n) (is_data ch.kind) in
          let more = more_messages (is_data ch.kind) in
          let old : sent_by_member (member_at a.members i) (is_data ch.kind) ≡ sent_by_member (member_at a.members n) (is_data ch.kind) = ap (λ (j : ℕ). sent_by_member (member_at a.members j) (is_data ch.kind)) e.1 in
          let new_is : sent_by_member (member_at b.members i) (is_data ch.kind) ≡ sent_by_member acts.woken (is_data ch.kind) =
          ap (λ (j : ℕ). sent_by_member (member_at b.members j) (is_data ch.kind)) e.1 ∙ ap (λ (m : MemberState). sent_by_member m (is_data ch.kind)) member_here in
          omega (arith, most, more, old, new_is)
      | inr e ↦
          let other : (ch.from == n) ≡ false = ne_eqb ch.from n (λ same. e.1 (from ∙ same)) in
          let off : is_sent_on a.protocol n acts.deed ch ≡ false = sent_off a.protocol n acts.deed ch other in
          let none : one_if (is_sent_on a.protocol n acts.deed ch) ≡ 0 = ap one_if off in
          let same : sent_by_member (member_at b.members i) (is_data ch.kind) ≡ sent_by_member (member_at a.members i) (is_data ch.kind) = ap (λ (m : MemberState). sent_by_member m (is_data ch.kind)) (member_there i e.1) in
          omega (arith, none, same)
    ]

    counted_after : (c : ℕ) → c < chan_count a.shape → total (chan_at b.chans c) ≤ sent_by_member (member_at b.members (from_of a.shape c)) (carries_data a.shape c)
    unfolding chan_of
    counted_after c lc =
        let x = is_sent_on a.protocol n acts.deed (audited_chan a.shape.channels c) in
        let after : total (chan_at b.chans c) ≡ total (chan_at a.chans c) + one_if x = ap (λ (k : ChanState). total k) (chan_after c lc) ∙ sent_total x at (chan_at a.chans c) in
        let before = kept.counted c lc in
        let most = sent_bound (audited_chan a.shape.channels c) (from_of a.shape c) refl in
        omega (arith, after, before, most)

    kept_here : IsKeptAudit (record b { shape = a.shape; rows = a.rows })
    kept_here = record {
      numbered = kept.numbered;
      members = ap (λ (ms : List MemberState). length ms) acts.members ∙ length-set a.members n acts.woken ∙ kept.members;
      chans = acts.chan_length ∙ kept.chans;
      lasts = ap (λ (w : Times). length w.lasts) acts.watch ∙ length-set a.watch.lasts n (Some at) ∙ kept.lasts;
      sends = ap (λ (w : Times). length w.sends) acts.watch ∙ acts.send_length ∙ kept.sends;
      within = λ i li. elim (eqb_tells i n) [
        | inl e ↦ subst (λ (j : ℕ). (member_at b.members j).executed ≤ a.rows) (sym e.1) (subst (λ (m : MemberState). m.executed ≤ a.rows) (sym member_here) acts.wakes.within)
        | inr e ↦ subst (λ (m : MemberState). m.executed ≤ a.rows) (sym (member_there i e.1)) (kept.within i li)
      ];
      unsent = λ i li. elim (eqb_tells i n) [
        | inl e ↦ subst (λ (j : ℕ). unsent (member_at b.members j).phase ≤ (member_at b.members j).executed) (sym e.1) (subst (λ (m : MemberState). unsent m.phase ≤ m.executed) (sym member_here) counts.0)
        | inr e ↦ subst (λ (m : MemberState). unsent m.phase ≤ m.executed) (sym (member_there i e.1)) (kept.unsent i li)
      ];
      rows_fit = kept.rows_fit;
      oldest_are = λ c lc. ap (λ (w : Times). sent_in w c) acts.watch ∙ acts.oldest_are c (let e = kept.chans in omega (arith, e, lc));
      timely = λ c lc. subst (λ (k : ChanState). All IsTime k.transit) (sym (chan_after c lc)) (sent_timely _ at (chan_at a.chans c) timely (kept.timely c lc));
      counted = counted_after;
      taken_fits = fits;
    }

    kept_act : IsKeptAudit b
    kept_act = let is : b ≡ record b { shape = a.shape; rows = a.rows } = λ i. record b { shape = acts.shape i; rows = acts.rows i } in subst IsKeptAudit (sym is) kept_here

  module _ (c at : ℕ) (lc : c < chan_count a.shape) (delivers : AuditDelivers a b c at) where
    inside : c < length a.chans
    inside = let e = kept.chans in omega (arith, e, lc)

    abbrev taken : ChanState
    taken = with_delivered (chan_at a.chans c) (chan_at a.chans c).transit

    chan_here : chan_at b.chans c ≡ taken
    chan_here = ap (λ (ks : List ChanState). chan_at ks c) delivers.chans ∙ get_or-set_same a.chans c taken no_chan_state inside

    chan_there : (i : ℕ) → i ≢ c → chan_at b.chans i ≡ chan_at a.chans i
    chan_there i ne = ap (λ (ks : List ChanState). chan_at ks i) delivers.chans ∙ get_or-set_other a.chans c i taken no_chan_state ne

    -- what holds of what is left of channel c, and of each other channel, holds of all
    each : (P : ℕ → ChanState → Type 0) → P c taken → ((i : ℕ) → i < chan_count a.shape → P i (chan_at a.chans i)) → (i : ℕ) → i < chan_count a.shape → P i (chan_at b.chans i)
    each P now before i li = elim (eqb_tells i c) [
      | inl e ↦ subst (λ (j : ℕ). P j (chan_at b.chans j)) (sym e.1) (subst (P c) (sym chan_here) now)
      | inr e ↦ subst (P i) (sym (chan_there i e.1)) (before i li)
    ]

    counted_now : total taken ≤ sent_by_member (member_at a.members (from_of a.shape c)) (carries_data a.shape c)
    counted_now = let same = delivered_total (chan_at a.chans c) (chan_at a.chans c).transit refl in let before = kept.counted c lc in omega (arith, same, before)

    kept_delivered : IsKeptAudit (record b { shape = a.shape; rows = a.rows; members = a.members })
    kept_delivered = record {
      numbered = kept.numbered;
      members = kept.members;
      chans = ap (λ (ks : List ChanState). length ks) delivers.chans ∙ length-set a.chans c taken ∙ kept.chans;
      lasts = ap (λ (w : Times). length w.lasts) delivers.watch ∙ kept.lasts;
      sends = ap (λ (w : Times). length w.sends) delivers.watch ∙ length-set a.watch.sends c (oldest (chan_at b.chans c).transit) ∙ kept.sends;
      within = kept.within;
      unsent = kept.unsent;
      rows_fit = kept.rows_fit;
      oldest_are = λ i li. ap (λ (w : Times). sent_in w i) delivers.watch ∙ oldest_now i li;
      timely = each (λ i k. All IsTime k.transit) (delivered_timely (chan_at a.chans c) (chan_at a.chans c).transit (kept.timely c lc) (kept.timely c lc)) kept.timely;
      counted = each (λ i k. total k ≤ sent_by_member (member_at a.members (from_of a.shape i)) (carries_data a.shape i)) counted_now kept.counted;
      taken_fits = fits;
    } where
      oldest_now : (i : ℕ) → i < chan_count a.shape → slice_index_or (set a.watch.sends c (oldest (chan_at b.chans c).transit)) i None ≡ oldest (chan_at b.chans i).transit
      oldest_now i li = elim (eqb_tells i c) [
        | inl e ↦
            subst (λ (j : ℕ). slice_index_or (set a.watch.sends c (oldest (chan_at b.chans c).transit)) j None ≡ oldest (chan_at b.chans j).transit) (sym e.1)
            (get_or-set_same a.watch.sends c (oldest (chan_at b.chans c).transit) None (let s = kept.sends in omega (arith, s, lc)))
        | inr e ↦ get_or-set_other a.watch.sends c i (oldest (chan_at b.chans c).transit) None e.1 ∙ kept.oldest_are i li ∙ ap (λ (k : ChanState). oldest k.transit) (sym (chan_there i e.1))
      ]

    kept_delivery : IsKeptAudit b
    kept_delivery =
        let is : b ≡ record b { shape = a.shape; rows = a.rows; members = a.members } = λ i. record b { shape = delivers.shape i; rows = delivers.rows i; members = delivers.members i } in
        subst IsKeptAudit (sym is) kept_delivered

  kept_end : (at : ℕ) → b ≡ record a { watch = record a.watch { latest = Some at; horizon = Some at }; taken = b.taken } → IsKeptAudit b
  kept_end at is = subst IsKeptAudit (sym is) (record {
    numbered = kept.numbered;
    members = kept.members;
    chans = kept.chans;
    lasts = kept.lasts;
    sends = kept.sends;
    within = kept.within;
    unsent = kept.unsent;
    rows_fit = kept.rows_fit;
    oldest_are = kept.oldest_are;
    timely = kept.timely;
    counted = kept.counted;
    taken_fits = fits;
  })

  pub kept_on : (e : Event) → IsEventOf a.shape e → AuditTakes a b e → IsKeptAudit b
  kept_on (Act n at) of_shape acts = kept_act n at of_shape.placed of_shape.timely acts
  kept_on (Del c at) of_shape delivers = kept_delivery c at of_shape.placed delivers
  kept_on (End at) of_shape is = kept_end at is
