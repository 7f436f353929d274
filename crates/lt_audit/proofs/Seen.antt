-- What is read of an auditor is what the state tells to which its events lead.
use Rattle.std.proofs.Common.{◌≡◌, ◌∙◌, ℕ, zero, suc, ◌<◌, ◌≤◌, List, [], ◌∷◌, All, length, sym, ap, subst, arith}
use Rattle.std.specs.Prelude.{IfSome, slice_get}
use Rattle.std.proofs.lemmas.List.{get_or-set_same}
use Rattle.std.proofs.lemmas.List.Elements.{All-head, All-tail}
use Rattle.lt_arch.specs.declared.limits.TheConstants.{GREATEST_TIME}
use Rattle.lt_arch.specs.declared.event.Event.{Event}
use Rattle.lt_arch.specs.declared.event.Event.TheVariants.{Act, Del, End}
use Rattle.lt_arch.specs.declared.shape.Shape.{Shape}
use Rattle.lt_arch.specs.declared.timing.Timing.{Timing}
use Rattle.lt_arch.specs.State.{executed_of}
use Rattle.lt_arch.specs.Readers.{node_count, chan_count}
use Rattle.lt_arch.specs.Deeds.{deed_at}
use Rattle.lt_arch.specs.Schedule.{IsPlacedIn, reached}
use Rattle.lt_audit.specs.Audit.{AuditState, IsKeptAudit, MemberState, chan_at, member_at, no_member}
use Rattle.lt_audit.specs.Acts.{AuditActs, AuditTakes}
use Rattle.lt_audit.specs.Standing.{AuditStands, KnowsDeed}
use Rattle.lt_audit.proofs.DeedSeen.{deed_seen}

module _ (a : AuditState) (s : Shape) (t : Timing) (rows : ℕ) (es : List Event) (stands : AuditStands a s t rows es) where
  pub executed_seen : (n : ℕ) → n < node_count a.shape → (member_at a.members n).executed ≡ executed_of (reached s t rows es) n
  executed_seen n ln = stands.state.executed n (subst (λ (q : Shape). n < node_count q) stands.state.shape ln)

  pub chan_seen : (c : ℕ) → c < chan_count a.shape → chan_at a.chans c ≡ (reached s t rows es).chan c
  chan_seen c lc = stands.state.chan c (subst (λ (q : Shape). c < chan_count q) stands.state.shape lc)

-- a message in transit was sent within the range of times
pub sent_timely : (sends : List ℕ) (place : ℕ) → All (λ sent. sent ≤ GREATEST_TIME) sends → IfSome (slice_get sends place) (λ sent. sent ≤ GREATEST_TIME)
sent_timely [] place all = tt
sent_timely (sent ∷ later) zero all = All-head (λ sent. sent ≤ GREATEST_TIME) sent later all
sent_timely (sent ∷ later) (suc place) all = sent_timely later place (All-tail (λ sent. sent ≤ GREATEST_TIME) sent later all)

known_here : (a b : AuditState) (t : Timing) (es : List Event) (n at : ℕ) → IsKeptAudit a → AuditStands a a.shape t a.rows es → n < node_count a.shape → AuditActs a b n at
    → (member_at b.members n).did ≡ deed_at a.shape a.rows (reached a.shape t a.rows es) n
known_here a b t es n at kept stands ln acts =
    let same = kept.members in
    let here : n < length a.members = omega (arith, ln, same) in
    ap (λ (ms : List MemberState). (member_at ms n).did) acts.members ∙ ap (λ (m : MemberState). m.did) (get_or-set_same a.members n acts.woken no_member here)
    ∙ acts.wakes.did ∙ acts.wakes.deed_is ∙ deed_seen a t (reached a.shape t a.rows es) stands.state n ln a.rows

known_by : (a b : AuditState) (t : Timing) (es : List Event) (e : Event) → IsKeptAudit a → AuditStands a a.shape t a.rows es → IsPlacedIn a.shape e → AuditTakes a b e → KnowsDeed b a.shape a.rows (reached a.shape t a.rows es) e
known_by a b t es (Act n at) kept stands placed takes = known_here a b t es n at kept stands placed takes
known_by a b t es (Del c at) kept stands placed takes = tt
known_by a b t es (End at) kept stands placed takes = tt

-- what the node did is known once the event is taken
pub deed_known : (a b : AuditState) (s : Shape) (t : Timing) (rows : ℕ) (es : List Event) (e : Event) → IsKeptAudit a → AuditStands a s t rows es → IsPlacedIn a.shape e → AuditTakes a b e → KnowsDeed b s rows (reached s t rows es) e
deed_known a b s t rows es e kept stands placed takes =
    let here : AuditStands a a.shape t a.rows es = subst (λ (k : ℕ). AuditStands a a.shape t k es) (sym stands.rows_are) (subst (λ (q : Shape). AuditStands a q t rows es) (sym stands.state.shape) stands) in
    subst (λ (k : ℕ). KnowsDeed b s k (reached s t k es) e) stands.rows_are
    (subst (λ (q : Shape). KnowsDeed b q a.rows (reached q t a.rows es) e) stands.state.shape (known_by a b t es e kept here placed takes))
