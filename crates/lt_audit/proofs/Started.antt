-- An auditor before the first event stands for no events.
use Rattle.std.proofs.Common.{◌≡◌, ◌∙◌, ℕ, ◌+◌, ◌*◌, ◌^◌, ◌<◌, ◌≤◌, List, [], ◌∷◌, ◌++◌, length, replicate, All, Option, Some, None, refl, sym, ap, subst, arith, inl, inr, length-append}
use Rattle.std.proofs.lemmas.Bool.Decides.{eqb_tells}
use Rattle.std.proofs.lemmas.List.{get_or-replicate, length-replicate, get_or_push, get_or_append_left}
use Rattle.std.proofs.lemmas.List.Elements.{All-nil}
use Rattle.lt_arch.specs.declared.limits.TheConstants.{GREATEST_TIME}
use Rattle.lt_arch.specs.declared.timing.Protocol.{Protocol}
use Rattle.lt_arch.specs.declared.timing.Protocol.TheVariants.{BackPressure, TimeBased}
use Rattle.lt_arch.specs.declared.timing.Timing.{Timing}
use Rattle.lt_arch.specs.declared.shape.Shape.{Shape}
use Rattle.lt_arch.specs.State.{ChanState, start, first_phase, unsent}
use Rattle.lt_arch.specs.Readers.{node_count, chan_count, from_of, carries_data}
use Rattle.lt_arch.specs.Shapes.{HaveSameNodes}
use Rattle.lt_arch.specs.Times.{Times, HasTimes, in_transit, sent_in}
use Rattle.lt_audit.specs.Misses.{HasNoMiss}
use Rattle.lt_audit.specs.Audit.{AuditState, MemberState, IsKeptAudit, member_at, chan_at, no_member, no_chan_state, oldest, sent_by_member}
use Rattle.lt_audit.specs.Standing.{AuditStands}
use Rattle.lt_audit.specs.Starts.{IsAtStart, MembersAreAtStart}
use Rattle.lt_audit.proofs.Longer.{not_nil}

-- one more node
pub started_more : (ms : List MemberState) (t : Timing) (count : ℕ) (m : MemberState) → MembersAreAtStart ms t count → IsAtStart m t count → MembersAreAtStart (ms ++ m ∷ []) t (count + 1)
started_more ms t count m so_far next = record {
  size = length-append ms (m ∷ []) ∙ ap (λ (k : ℕ). k + 1) so_far.size;
  each = λ n lt. elim (eqb_tells n count) [
    | inl e ↦ subst (λ (k : ℕ). IsAtStart (member_at (ms ++ m ∷ []) k) t k) (sym e.1) (subst (λ (x : MemberState). IsAtStart x t count) (sym (get_or_push ms m no_member count so_far.size)) next)
    | inr e ↦
        let ne = e.1 in
        let below : n < count = omega (arith, lt, ne) in
        subst (λ (x : MemberState). IsAtStart x t n) (sym (get_or_append_left ms (m ∷ []) no_member n (let s = so_far.size in omega (arith, s, below)))) (so_far.each n below)
  ];
}

none_sent : (v : Option ℕ) → [] ≡ in_transit v → v ≡ None
none_sent None is = refl
none_sent (Some sent) is = cc

all_sent : (p : Protocol) → unsent (first_phase p) ≡ 0
all_sent BackPressure = refl
all_sent TimeBased = refl

module _ (s : Shape) (t : Timing) (rows : ℕ) (w : Times) (ms : List MemberState) (same : HaveSameNodes s t) (times : HasTimes w s t (start t.protocol)) (started : MembersAreAtStart ms t (length t.nodes)) where
  abbrev pub first_audit : AuditState
  first_audit = record { shape = s; protocol = t.protocol; rows = rows; watch = w; members = ms; chans = replicate (chan_count s) no_chan_state; taken = 0; first = None }

  member_is : (n : ℕ) → n < node_count s → IsAtStart (member_at ms n) t n
  member_is n ln = started.each n (omega (arith, same, ln))

  chan_is : (c : ℕ) → c < chan_count s → chan_at (replicate (chan_count s) no_chan_state) c ≡ no_chan_state
  chan_is c lc = get_or-replicate {A = ChanState} (chan_count s) c no_chan_state no_chan_state lc

  no_miss : HasNoMiss s t rows []
  no_miss front e later is miss = not_nil front e later (sym is)

  pub first_stands : AuditStands first_audit s t rows []
  first_stands = record {
    rows_are = refl;
    free = tt;
    state = record {
      shape = refl;
      protocol = refl;
      times = record { timing = times.timing; channels = times.channels; node_count = times.node_count; chan_count = times.chan_count; last = times.last; transit = times.transit; latest = times.latest; horizon = times.horizon };
      configured = λ n ln. (member_is n ln).configured;
      phase = λ n ln. (member_is n ln).phase;
      executed = λ n ln. (member_is n ln).executed;
      chan = chan_is;
    };
    taken_is = refl;
    first_is = λ _. no_miss;
  }

  pub first_kept : rows < 2 ^ 32 → 2 * (node_count s + chan_count s) < 2 ^ 32 → IsKeptAudit first_audit
  first_kept fits numbered = record {
    numbered = numbered;
    members = started.size ∙ same;
    chans = length-replicate {A = ChanState} (chan_count s) no_chan_state;
    lasts = times.node_count;
    sends = times.chan_count;
    within = λ n ln. let e = (member_is n ln).executed in omega (arith, e);
    unsent = λ n ln. let e = (member_is n ln).executed in let p : unsent (member_at ms n).phase ≡ 0 = ap unsent (member_is n ln).phase ∙ all_sent t.protocol in omega (arith, e, p);
    rows_fit = fits;
    oldest_are = λ c lc. none_sent (sent_in w c) (times.transit c lc) ∙ sym (ap (λ (k : ChanState). oldest k.transit) (chan_is c lc));
    timely = λ c lc. subst (λ (k : ChanState). All (λ at. at ≤ GREATEST_TIME) k.transit) (sym (chan_is c lc)) (All-nil (λ at. at ≤ GREATEST_TIME));
    counted = λ c lc. subst (λ (k : ChanState). k.delivered + length k.transit ≤ sent_by_member (member_at ms (from_of s c)) (carries_data s c)) (sym (chan_is c lc)) (omega arith);
    taken_fits = omega arith;
  }
