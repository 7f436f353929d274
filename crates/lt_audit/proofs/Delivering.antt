-- A channel that delivers its oldest message.
use Rattle.std.proofs.Common.{◌≡◌, ◌∙◌, ℕ, ◌+◌, ◌^◌, ◌<◌, ◌≤◌, List, length, map, set, All, Some, Bool, true, false, sym, ap, subst, arith, slice_index_or}
use Rattle.std.proofs.lemmas.List.{map-set, get_or-set_same, length-map}
use Rattle.lt_arch.specs.declared.limits.TheConstants.{GREATEST_TIME}
use Rattle.lt_arch.specs.State.{ChanState}
use Rattle.lt_arch.specs.Readers.{chan_count, from_of, carries_data}
use Rattle.lt_arch.specs.Step.{with_delivered}
use Rattle.lt_arch.proofs.Facts.{ends-of}
use Rattle.lt_audit.specs.Audit.{AuditState, MemberState, LineState, IsKeptAudit, kept_of, chan_at, member_at, no_chan_state, oldest, sent_by_member}
use Rattle.lt_audit.specs.Acts.{AuditDelivers}
use Rattle.lt_audit.proofs.Lines.{read_at}

messages_within : (m : MemberState) (k : Bool) → sent_by_member m k ≤ m.executed
messages_within m true = omega arith
messages_within m false = omega arith

-- no channel has had as many messages as there are numbers
pub counts_fit : (a : AuditState) → IsKeptAudit a → (c : ℕ) → c < chan_count a.shape → (chan_at a.chans c).delivered + length (chan_at a.chans c).transit < 2 ^ 32
counts_fit a kept c lc =
    let ends = ends-of a.shape c lc in
    let m = from_of a.shape c in
    let few = kept.counted c lc in
    let sent = messages_within (member_at a.members m) (carries_data a.shape c) in
    let within = kept.within m ends.from_in in
    let fit = kept.rows_fit in
    omega (arith, few, sent, within, fit)

module _ (a : AuditState) (ls : List LineState) (is : a.chans ≡ map kept_of ls) (kept : IsKeptAudit a) (c : ℕ) (lc : c < chan_count a.shape) (x : LineState) (here : x ≡ slice_index_or ls c x) where
  inside : c < length ls
  inside = let e = kept.chans in let m : length a.chans ≡ length ls = ap (λ (ks : List ChanState). length ks) is ∙ length-map ls kept_of in omega (arith, e, m, lc)

  pub chan_is : chan_at a.chans c ≡ kept_of x
  chan_is = ap (λ (ks : List ChanState). chan_at ks c) is ∙ read_at ls c x inside here

  pub line_fits : x.delivered + length x.transit < 2 ^ 32
  line_fits = subst (λ (k : ChanState). k.delivered + length k.transit < 2 ^ 32) chan_is (counts_fit a kept c lc)

  pub line_timely : All (λ sent. sent ≤ GREATEST_TIME) x.transit
  line_timely = subst (λ (k : ChanState). All (λ sent. sent ≤ GREATEST_TIME) k.transit) chan_is (kept.timely c lc)

  pub delivers : (b : AuditState) (y : LineState) (at : ℕ) → kept_of y ≡ with_delivered (kept_of x) x.transit → b.shape ≡ a.shape → b.protocol ≡ a.protocol → b.rows ≡ a.rows → b.members ≡ a.members → b.first ≡ a.first →
      b.chans ≡ map kept_of (set ls c y) → b.watch ≡ record a.watch { sends = set a.watch.sends c (oldest y.transit); latest = Some at } → AuditDelivers a b c at
  delivers b y at kept_y shape protocol rows members first chans watch =
      let taken : kept_of y ≡ with_delivered (chan_at a.chans c) (chan_at a.chans c).transit = kept_y ∙ ap (λ (k : ChanState). with_delivered k k.transit) (sym chan_is) in
      let chans_are : b.chans ≡ set a.chans c (with_delivered (chan_at a.chans c) (chan_at a.chans c).transit) = chans ∙ map-set kept_of ls c y ∙ (λ i. set (sym is i) c (taken i)) in
      let at_c : chan_at b.chans c ≡ kept_of y =
      ap (λ (ks : List ChanState). chan_at ks c) chans_are ∙ get_or-set_same a.chans c (with_delivered (chan_at a.chans c) (chan_at a.chans c).transit) no_chan_state (let e = kept.chans in omega (arith, e, lc)) ∙ sym taken in
      record {
        shape = shape;
        protocol = protocol;
        rows = rows;
        members = members;
        chans = chans_are;
        watch = watch ∙ ap (λ (k : ChanState). record a.watch { sends = set a.watch.sends c (oldest k.transit); latest = Some at }) (sym at_c);
        first = first;
      }
