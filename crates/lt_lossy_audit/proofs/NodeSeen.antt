-- What a node does and counts, by what is seen of it.
use Rattle.std.proofs.Common.{◌≡◌, ◌∙◌, ℕ, zero, suc, ◌+◌, ◌-◌, ◌<◌, ◌==◌, ◌&&◌, ◌||◌, not, nat_le, nat_lt, Bool, true, false, if◌then◌else◌, refl, sym, ap, arith}
use Rattle.std.proofs.lemmas.Bool.Decides.{Decides-eqb}
use Rattle.lt_base.specs.Truths.{same_truth}
use Rattle.lt_arch.specs.declared.shape.Shape.{Shape}
use Rattle.lt_arch.specs.declared.timing.Timing.{Timing}
use Rattle.lt_arch.specs.State.{NodeState, executed_of, unsent}
use Rattle.lt_arch.specs.Readers.{node_count, chan_count, from_of, to_of, carries_data, send_of, execute_of}
use Rattle.lt_arch.specs.Deeds.{deed_of, deed_at, phase_after, all_below, all_in, any_in, all_ack}
use Rattle.lt_arch.specs.Step.{is_execute, woken}
use Rattle.lt_lossy.specs.State.{LossyState, number_on, plain_of}
use Rattle.lt_lossy.specs.Step.{sends_number}
use Rattle.lt_lossy_audit.specs.declared.seen.Seen.{Seen}
use Rattle.lt_lossy_audit.specs.Links.{link_seen}
use Rattle.lt_lossy_audit.specs.Nodes.{IsSeen, SeenWakes, brings_to, count_seen, hears_all, node_seen, sends_seen}
use Rattle.lt_lossy_audit.specs.LossyAudit.{LossyAuditState, HasLossyState}

all_same : (p q : ℕ → Bool) (n : ℕ) → ((c : ℕ) → c < n → p c ≡ q c) → all_below p n ≡ all_below q n
all_same p q zero h = refl
all_same p q (suc k) h = λ i. h k (omega arith) i && all_same p q k (λ c lt. h c (omega (arith, lt))) i

where_asked : (asked x y : Bool) → (asked ≡ true → x ≡ y) → (not asked || x) ≡ (not asked || y)
where_asked true x y same = same refl
where_asked false x y same = refl

first_true : (a b : Bool) → (a && b) ≡ true → a ≡ true
first_true true b is = refl
first_true false b is = is

leads_to : (k : Bool) (to n : ℕ) → ((to == n) && k) ≡ true → to ≡ n
leads_to k to n is = (Decides-eqb to n).0 (first_true (to == n) k is)

-- what it counts on a channel, and whether it sends there
module _ (s : Shape) (n : ℕ) (x : Seen) (v : NodeState) (seen : IsSeen x v) where
  pub counts : (c : ℕ) → count_seen s x c ≡ number_on s v c
  counts c = λ i. if carries_data s c then (seen.executed i - unsent (seen.phase i)) else seen.executed i

  pub sends : (c : ℕ) → sends_seen s n x c ≡ sends_number s n v c
  sends c = λ i. (from_of s c == n) && nat_lt 0 (counts c i)

module _ (a : LossyAuditState) (t : Timing) (limit : ℕ) (st : LossyState) (h : HasLossyState a a.shape t limit st) (n : ℕ) (ln : n < node_count a.shape) where
  abbrev old : Seen
  old = node_seen a.nodes n

  heard_same : (kind : Bool) (c : ℕ) → c < chan_count a.shape → (not (brings_to a.shape n kind c) || nat_le old.executed (link_seen a.links c).newest)
      ≡ (not (brings_to a.shape n kind c) || nat_le (executed_of (plain_of st) (to_of a.shape c)) (st.link c).newest)
  heard_same kind c lc = where_asked (brings_to a.shape n kind c) _ _ (λ asked.
      let to = leads_to (same_truth kind (carries_data a.shape c)) (to_of a.shape c) n asked in
      let executed : old.executed ≡ executed_of (plain_of st) (to_of a.shape c) = (h.node n ln).executed ∙ ap (executed_of (plain_of st)) (sym to) in
      λ i. nat_le (executed i) (h.link c lc i).newest)

  in_same : hears_all a.shape a.links n old.executed true (chan_count a.shape) ≡ all_in a.shape (plain_of st) n
  unfolding all_in
  in_same = all_same _ _ (chan_count a.shape) (heard_same true)

  ack_same : hears_all a.shape a.links n old.executed false (chan_count a.shape) ≡ all_ack a.shape (plain_of st) n
  unfolding all_ack
  ack_same = all_same _ _ (chan_count a.shape) (heard_same false)

  module _ (new : Seen) (wakes : SeenWakes old new (hears_all a.shape a.links n old.executed true (chan_count a.shape)) (hears_all a.shape a.links n old.executed false (chan_count a.shape)) a.rows) where
    pub did_is : new.did ≡ deed_at a.shape a.rows (plain_of st) n
    did_is = wakes.did (any_in a.shape (plain_of st) n) ∙ (λ i. deed_of ((h.node n ln).phase i) (in_same i) (any_in a.shape (plain_of st) n) (ack_same i) (nat_lt ((h.node n ln).executed i) a.rows))

    pub woken_seen : (at : ℕ) → IsSeen new (woken a.shape t a.rows (plain_of st) n at)
    woken_seen at = record {
      phase = wakes.phase (send_of t n) (execute_of t n) ∙ (λ i. phase_after (send_of t n) (execute_of t n) ((h.node n ln).phase i) (did_is i));
      executed = wakes.executed ∙ (λ i. if is_execute (did_is i) then (h.node n ln).executed i + 1 else (h.node n ln).executed i);
    }
